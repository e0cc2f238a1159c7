-- One record after another from the first place on: the file laid over the buffer.
use native.Mathlib.Omega.{arith}
use mathlib.Core.Path.{◌≡◌, sym, ◌∙◌}
use Prim.Native.Nat.{ℕ, ◌≤◌}
use lib.Dec.{ltb}
use borrow.Author.Tests.{ltb-false}
use Rattle.plan.specs.declared.Refusal.TheVariants.{BufferShort}
use Rattle.plan.specs.Refusals.{accepted}
use Rattle.rules.specs.Frame.{framed}
use Rattle.rules.proofs.Checks.{accepts}
use Rattle.format.specs.Writing.{header_of, written, room_for}
use Rattle.format.proofs.Records.{unrefused}
use Rattle.format.proofs.Stores.{sets_laid}
use Rattle.format.proofs.Layouts.{resources_limited, bands_small, tasks_small}
use Rattle.format.proofs.Files.{length_written, written_stored}
use Rattle.writer.proofs.put_plan.Goals as goal

roomy : (n out : ℕ) → room_for n out ≡ accepted → n ≤ out
unfolding room_for
roomy n out h = ltb-false out n (unrefused (ltb out n) BufferShort h)

pub put_header-requires : goal.put_header-requires
put_header-requires c =
    let a = c.args in
    let room = roomy _ _ c.requires.room in
    let plan = accepts (framed a.sense a.resources.now a.bands.now) a.tasks.now c.requires.accepted in
    (omega (arith, room), omega (arith, plan.most), omega (arith, plan.few))

pub put_records-requires : goal.put_records-requires
put_records-requires c =
    let a = c.args in
    let room = roomy _ _ c.requires.room in
    (omega (arith, room), resources_limited (framed a.sense a.resources.now a.bands.now) a.tasks.now c.requires.accepted)

pub put_records-requires-2 : goal.put_records-requires-2
put_records-requires-2 c =
    let a = c.args in
    let room = roomy _ _ c.requires.room in
    (omega (arith, room), bands_small (framed a.sense a.resources.now a.bands.now) a.tasks.now c.requires.accepted)

pub put_records-requires-3 : goal.put_records-requires-3
put_records-requires-3 c =
    let a = c.args in
    let room = roomy _ _ c.requires.room in
    (omega (arith, room), tasks_small (framed a.sense a.resources.now a.bands.now) a.tasks.now c.requires.accepted)

pub returns : goal.returns
unfolding header_of
returns c =
    let a = c.args in
    let f = framed a.sense a.resources.now a.bands.now in
    let ts = a.tasks.now in
    let room = roomy _ _ c.requires.room in
    rw (c.put_records-3.ensures, c.put_records-2.ensures, c.put_records.ensures, c.put_header.ensures, c.sense_number.ensures, c.bands_from.ensures, c.tasks_from.ensures)
    (sym (written_stored f ts a.out.now) ∙ sets_laid (written f ts) a.out.now (omega (arith, length_written f ts, room)))

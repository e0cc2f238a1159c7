-- What was read of the file passed the checks, and the room that the header asks is enough for it.
use native.Mathlib.Omega.{arith}
use mathlib.Core.Path.{sym, ◌∙◌}
use Prim.Native.Nat.{◌≤◌}
use lib.ListN.{length, take}
use lib.Seq.{length-take-le}
use Rattle.plan.specs.declared.Sense.TheVariants.{AtLeast}
use Rattle.rules.proofs.Checks.{check_sense}
use Rattle.format.specs.Format.{sense_from}
use Rattle.format.proofs.Files.{after_is}
use Rattle.calls.proofs.Files.{read_held}
use Rattle.calls.proofs.apply_in.Goals as goal

pub apply_to_plan-requires : goal.apply_to_plan-requires
apply_to_plan-requires c =
    let qs = c.read_rest.new.resources in
    let bs = c.read_rest.new.bands in
    let ts = c.read_rest.new.tasks in
    let h = c.args.h in
    let k = c.in_ok-k.k in
    let room = length c.args.bands.now in
    let read = sym c.in_ok-k.ensures.read in
    let l = c.requires.lent in
    let few : h.tasks ≤ length ts = omega (arith, c.requires.counted.1, c.read_rest.auto.tasks) in
    let some : k ≤ length bs = c.in_ok-k.ensures.run_within in
    let t = length-take-le h.tasks ts few in
    let u = length-take-le k bs some in
    let same = c.read_rest.auto.bands in
    record {
      accepted = check_sense AtLeast (sense_from h.sense) (take h.resources qs) (take k bs) (take h.tasks ts) ∙ (after_is room h c.args.file.now read).1;
      lent =
          rw (read_held room h c.args.file.now read)
          (record { keys_long = omega (arith, l.keys_long, t, u, some, same); stretches_long = omega (arith, l.stretches_long, t, u, some, same) });
    }

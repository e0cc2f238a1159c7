-- The records still to be stored, put into the buffer as it is now, give the buffer with all of them.
use native.Mathlib.Omega.{arith}
use mathlib.Core.Path.{sym, ap, subst, ◌∙◌}
use lib.Seq.{sets}
use Rattle.integers.proofs.Lists.{each_at}
use Rattle.format.specs.Format.{record_bytes}
use Rattle.format.proofs.Runs.{storing_goes_on, storing_room, storing_ends}
use Rattle.writer.proofs.put_records.Goals as goal

pub put-requires : goal.put-requires
put-requires g c =
    let l = c.loop-x in
    let x = c.x-item in
    (storing_room l.invariant c.requires.0 c.loop-x-test.true, subst g.R.Stored.Small (sym x.is) (each_at x.result l.x-index c.requires.1 c.loop-x-test.true))

pub loop-x-preserved : goal.loop-x-preserved
loop-x-preserved g c =
    let layout = g.R.Stored.layout in
    let l = c.loop-x in
    let x = c.x-item in
    let e = ap (λ y. sets l.out l.at (record_bytes (layout.mark y) (layout.numbers y))) x.is in
    rw (c.size-size.ensures, c.DUE.ensures, g.met.R.Stored.due)
    (storing_goes_on l.invariant g.met.R.Stored.even x.result c.loop-x-test.true (c.put.ensures ∙ e))

pub returns : goal.returns
returns g c = storing_ends c.loop-x.invariant (omega (arith, c.loop-x-test.false))

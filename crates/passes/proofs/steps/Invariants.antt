use mathlib.Core.Path.{◌≡◌}
use Prim.Native.Nat.{◌-◌}
use lib.ListN.{length}
use Rattle.plan.specs.declared.Sense.TheVariants.{AtLeast}
use Rattle.rules.specs.Frame.{framed}
use Rattle.idle.proofs.Passing.{Passing}
use Rattle.step.specs.Kept.{Kept}
use Rattle.passes.proofs.steps.Given as goal

abbrev pub invariant-loop-place : goal.invariant-loop-place
invariant-loop-place l = record {
  size : length l.tasks ≡ length l.initial.tasks;
  kept : Kept l.initial.work l.work;
  passing : Passing (framed AtLeast l.resources l.bands) l.initial.tasks l.initial.p.changed l.place l.p l.tasks;
}

abbrev pub decreases-loop-place : goal.decreases-loop-place
decreases-loop-place l = length l.resources - l.place

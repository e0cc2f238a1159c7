use mathlib.Core.Path.{◌≡◌}
use lib.ListN.{length}
use Rattle.plan.specs.declared.Sense.TheVariants.{AtLeast}
use Rattle.rules.specs.Frame.{framed}
use Rattle.idle.proofs.Settles.{Settles}
use Rattle.step.specs.Kept.{Kept}
use Rattle.passes.proofs.settle.Given as goal

abbrev pub invariant-loop-passes : goal.invariant-loop-passes
invariant-loop-passes l = record {
  size : length l.tasks ≡ length l.initial.tasks;
  kept : Kept l.initial.work l.work;
  settles : Settles l.most (framed AtLeast l.resources l.bands) l.initial.tasks l.tasks l.mask l.passes;
}

use Rattle.step.proofs.Narrowing.{Narrowing}
use Rattle.step.proofs.narrow_all.Given as goal

abbrev pub invariant-loop-t : goal.invariant-loop-t
invariant-loop-t l = Narrowing l.r l.stretches l.initial.tasks l.t-index l.tasks l.touched

use Rattle.rules.specs.Balance.{balanced}
use Rattle.changes.proofs.Walk.{Walk}
use Rattle.balance.proofs.balance.Given as goal

abbrev pub invariant-loop-t : goal.invariant-loop-t
invariant-loop-t l = Walk balanced l.initial.tasks l.t-index l.tasks l.touched

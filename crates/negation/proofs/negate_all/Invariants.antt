use mathlib.Core.Path.{◌≡◌}
use Rattle.integers.proofs.Loops.{mapped}
use Rattle.negation.proofs.negate_all.Given as goal

abbrev pub invariant-loop-x : goal.invariant-loop-x
invariant-loop-x g l = l.list ≡ mapped g.T.Negated.gives l.x-index l.initial.list

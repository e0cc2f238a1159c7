use mathlib.Core.Path.{◌≡◌}
use Rattle.rules.specs.Calls.{limits}
use Rattle.entry.proofs.Checks.{limits_from}
use Rattle.entry.proofs.check_limits.Given as goal

abbrev pub invariant-loop-k : goal.invariant-loop-k
invariant-loop-k l = limits_from l.resources l.k ≡ limits 0 l.resources

use mathlib.Core.Path.{◌≡◌}
use mathlib.Core.List.{[]}
use Rattle.rules.specs.Calls.{repeats}
use Rattle.entry.proofs.Checks.{repeats_from}
use Rattle.entry.proofs.check_identifiers.Given as goal

abbrev pub invariant-loop-k : goal.invariant-loop-k
invariant-loop-k l = repeats_from l.resources l.k ≡ repeats 0 [] l.resources

use mathlib.Core.Path.{◌≡◌}
use Rattle.calls.specs.Lists.{held_in}
use Rattle.calls.proofs.Files.{held_from}
use Rattle.calls.proofs.has_held.Given as goal

abbrev pub invariant-loop-k : goal.invariant-loop-k
invariant-loop-k l = held_from l.file l.resources l.k ≡ held_in l.resources l.file

use mathlib.Core.Path.{◌≡◌}
use Rattle.rules.specs.Calls.{tasks_fit}
use Rattle.entry.proofs.Checks.{tasks_from}
use Rattle.entry.proofs.check_tasks.Given as goal

abbrev pub invariant-loop-k : goal.invariant-loop-k
invariant-loop-k l = tasks_from l.resources l.tasks l.k ≡ tasks_fit l.resources 0 l.tasks

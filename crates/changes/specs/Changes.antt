-- What a step tells of a list that it changed in place: a plan or none, and which resources see a changed task.
use Rattle.std.specs.Prelude.{◌≡◌, not, List, [], ◌∷◌, ℕ, Option, Some, None, IfSome}
use Rattle.integers.specs.Tests.{if, and}
use Rattle.plan.specs.declared.Task.{Task}
use Rattle.plan.specs.Sets.{at_most_one, union, differing}
use Rattle.rules.specs.Balance.{Outcome}
use Rattle.rules.specs.Balance.Outcome.{NoPlan, Plan}
use Rattle.rules.specs.Settle.{same_ranges, same_task}

-- "A set or range left empty means no plan": what the list holds then counts for nothing
abbrev pub outcome_of : {A : Type 0} → Option A → List Task → Outcome
outcome_of (Some a) ts = Plan ts
outcome_of None ts = NoPlan

-- the resources that see a task t become u: those that it lost, where it lost only resources and still has more than one; else all that it had
unfoldable pub seen_by : Task → Task → ℕ
seen_by t u = if (and (same_ranges t u) (not (at_most_one u.set))) (differing t.set u.set) t.set

-- the places that see a task change, of tasks before and after a step
unfoldable pub touched_by : List Task → List Task → ℕ
touched_by [] us = 0
touched_by (t ∷ ts) [] = 0
touched_by (t ∷ ts) (u ∷ us) = if (same_task t u) (touched_by ts us) (union (seen_by t u) (touched_by ts us))

-- what a step notes beside the list, where it leaves a plan
abbrev pub Notes : Option ℕ → List Task → List Task → Type 0
Notes o ts us = IfSome o (λ n. n ≡ touched_by ts us)

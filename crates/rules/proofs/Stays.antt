-- A choice stays inside what a step leaves: of one task, and of a list that is taken task by task.
use Rattle.std.specs.Prelude.{Ok}
use Rattle.plan.specs.Refusals.{Narrowed}
use mathlib.Core.Path.{◌≡◌, refl}
use mathlib.Core.List.{List, [], ◌∷◌}
use Rattle.plan.specs.declared.Task.{Task}
use Rattle.rules.specs.Allowed.{Choice}
use Rattle.rules.specs.Balance.{Outcome, each}
use Rattle.rules.specs.Balance.Outcome.{Plan}
use Rattle.rules.proofs.Inside.{Inside, Fit, For}
use Rattle.rules.proofs.Inside.Fit.{none, more}
use Rattle.rules.proofs.Inside.For.{here, later}

-- a task is left, and c is inside it
pub record TaskStays (c : Choice) (n : Narrowed) : Type 0 where
  pub task : Task
  pub is : n ≡ Ok task
  pub inside : Inside task c

-- there is a plan, and cs is inside it
pub record PlanStays (cs : List Choice) (o : Outcome) : Type 0 where
  pub tasks : List Task
  pub is : o ≡ Plan tasks
  pub fit : Fit tasks cs

pub each_stays : (f : Task → Narrowed) {ts : List Task} {cs : List Choice} → Fit ts cs → ((t : Task) (c : Choice) → For t c ts cs → TaskStays c (f t)) → PlanStays cs (each f ts)
unfolding each
each_stays f none k = record { tasks = []; is = refl; fit = none }
each_stays f (more {t} {c} h j g) k =
    let m = k t c here in
    let p = each_stays f g (λ u d a. k u d (later a)) in
    record { tasks = m.task ∷ p.tasks; is = rw (m.is, p.is); fit = more m.inside j p.fit }

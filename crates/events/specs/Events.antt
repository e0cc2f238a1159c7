-- The events of a resource's tasks.
use Rattle.std.specs.Prelude.{Bool, List, [], ◌∷◌, ◌++◌, ℕ, ℤ, pos, neg_ℤ}
use Rattle.std.specs.Int.Signed.{lt_z, le_z}
use Rattle.integers.specs.Tests.{if, and}
use Rattle.plan.specs.declared.Task.{Task}
use Rattle.plan.specs.Days.{day}
use Rattle.plan.specs.Powers.{power}
use Rattle.plan.specs.Sets.{has, only}
use Rattle.events.specs.declared.Change.{Change}
use Rattle.events.specs.Keys.{count, key_of, EventFits}

-- a change from one day on and its opposite from another
abbrev pub change : ℤ → ℤ → ℤ → ℤ → Change
change a b p u = record { from = day a; to = day b; power = power p; sure = count u }

-- the changes that two keys can hold
pub record ChangeFits (e : Change) : Type 0 where
  pub first : EventFits e.from.0 e.power.0 e.sure.0
  pub last : EventFits e.to.0 (neg_ℤ e.power.0) (neg_ℤ e.sure.0)

unfoldable pub change_keys : Change → List ℕ
change_keys e = key_of e.from.0 e.power.0 e.sure.0 ∷ key_of e.to.0 (neg_ℤ e.power.0) (neg_ℤ e.sure.0) ∷ []

-- a positive highest height, and a day on which the task may be under way
unfoldable pub hopeful : Task → Bool
hopeful t = and (lt_z (pos 0) t.height.high.0) (lt_z t.origin.low.0 t.end.high.0)

-- only on r, and a day on which it is sure to be under way
unfoldable pub surely : ℕ → Task → Bool
surely r t = and (only t.set r) (lt_z t.origin.high.0 t.end.low.0)

-- under way on its sure days or not at all
unfoldable pub fixed : Task → Bool
fixed t = and (le_z t.origin.high.0 t.origin.low.0) (le_z t.end.high.0 t.end.low.0)

-- the hope from origin low to end high
abbrev pub hope_over : Task → ℤ → List ℕ
hope_over t u = change_keys (change t.origin.low.0 t.end.high.0 t.height.high.0 u)

-- one sure task from origin high to end low, with what it adds there
abbrev pub sure_over : Task → ℤ → List ℕ
sure_over t p = change_keys (change t.origin.high.0 t.end.low.0 p (pos 1))

-- the events of a task that has r in its set
unfoldable pub task_keys : ℕ → Task → List ℕ
task_keys r t =
    if (hopeful t)
    (if (surely r t) (if (fixed t) (hope_over t (pos 1)) (hope_over t (pos 0) ++ sure_over t (pos 0))) (hope_over t (pos 0)))
    (if (surely r t) (sure_over t t.height.high.0) [])

-- at most so many
abbrev pub events_a_task : ℕ
events_a_task = 4

-- those of any task
unfoldable pub events_of : ℕ → Task → List ℕ
events_of r t = if (has t.set r) (task_keys r t) []

unfoldable pub keys_of : ℕ → List Task → List ℕ
keys_of r [] = []
keys_of r (t ∷ ts) = events_of r t ++ keys_of r ts

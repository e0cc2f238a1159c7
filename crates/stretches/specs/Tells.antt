-- The promise between a profile and a task narrowed against it: what the stretches say of the days on which a rule could touch the task.
use Rattle.std.specs.Prelude.{◌≡◌, true, false, List, [], ◌∷◌, ℕ, ◌*◌, ◌<◌, ℤ, pos, ◌-ℤ◌, nat_abs, length, get_or, ◌≤ℤ◌, ◌<ℤ◌}
use Rattle.integers.specs.Tests.{if, any}
use Rattle.plan.specs.declared.Task.{Task}
use Rattle.plan.specs.Powers.{power_high}
use Rattle.plan.specs.Sets.{only}
use Rattle.plan.specs.Tasks.{most_tasks}
use Rattle.rules.specs.Frame.{Floor}
use Rattle.rules.specs.Step.{running, sure, total, others, counts, needed, barred}
use Rattle.stretches.specs.declared.Stretch.{Stretch}
use Rattle.stretches.specs.View.{no_stretch, on_day}

-- larger than any slack: a sum of hopes less a limit
abbrev pub big : ℤ
big = pos (2 * most_tasks * nat_abs power_high)

module _ (r : ℕ) (limit : Floor) (ts : List Task) where
  -- how far all hopes together are above the day's limit
  unfoldable pub slack_on : ℤ → ℤ
  slack_on i = total r ts i -ℤ limit.on i

  -- the same on a day that counts; on any other, more than any task asks
  unfoldable pub tight_on : ℤ → ℤ
  tight_on i = if (counts r limit ts i) (slack_on i) big

  -- no rule touches the task on that day
  pub record Quiet (t : Task) (i : ℤ) : Type 0 where
    pub unneeded : needed r limit ts t i ≡ false
    pub unbarred : barred r limit ts t i ≡ false
    pub unlifted : sure r i t ≡ true → (limit.on i -ℤ others r ts t i) ≤ℤ t.height.low.0

  -- the stretch says what holds on each of its days
  pub record Exact (s : Stretch) : Type 0 where
    pub slack : (i : ℤ) → on_day i s ≡ true → s.slack.0 ≡ slack_on i
    pub tight : (i : ℤ) → on_day i s ≡ true → s.tight.0 ≡ tight_on i

-- one after the other, each with a day
unfoldable pub Ordered : List Stretch → Type 0
Ordered [] = Unit {0}
Ordered (s ∷ []) = s.from.0 <ℤ s.to.0
Ordered (s ∷ u ∷ ss) = (s.from.0 <ℤ s.to.0) × (s.to.0 ≤ℤ u.from.0) × Ordered (u ∷ ss)

-- where the task is only here, no stretch runs across the first or last of its sure days
pub record Uncut (r : ℕ) (t : Task) (s : Stretch) : Type 0 where
  pub same : only t.set r ≡ true → (i : ℤ) → on_day i s ≡ true → running r i t ≡ running r s.from.0 t

-- THE PROMISE
pub record Tells (r : ℕ) (limit : Floor) (ts : List Task) (t : Task) (ss : List Stretch) : Type 0 where
  pub ordered : Ordered ss
  pub exact : (k : ℕ) → k < length ss → Exact r limit ts (get_or ss k no_stretch)
  pub uncut : (k : ℕ) → k < length ss → Uncut r t (get_or ss k no_stretch)
  pub quiet : (i : ℤ) → any (on_day i) ss ≡ false → Quiet r limit ts t i

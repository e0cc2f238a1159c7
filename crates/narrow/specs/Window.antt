-- Stretches that no day of a task can meet: the first a, which are over by its first day, and those from place b on, which begin past
-- its last. With 0 for a and the list's length for b none is left out, and nothing is claimed.
use Rattle.std.specs.Prelude.{◌≡◌, List, ℕ, ◌≤◌, ◌<◌, ℤ, length, get_or, take, drop, ◌≤ℤ◌}
use Rattle.stretches.specs.declared.Stretch.{Stretch}
use Rattle.stretches.specs.View.{no_stretch}
use Rattle.searches.specs.declared.Days.{Days}

abbrev pub Over : List Stretch → ℤ → ℕ → Type 0
Over ss d a = (k : ℕ) → k < a → k < length ss → (get_or ss k no_stretch).to.0 ≤ℤ d

abbrev pub Ahead : List Stretch → ℤ → ℕ → Type 0
Ahead ss d b = (k : ℕ) → b ≤ k → k < length ss → d ≤ℤ (get_or ss k no_stretch).from.0

-- us are the others
pub record Met (ss : List Stretch) (w : Days) (us : List Stretch) : Type 0 where
  pub from : ℕ
  pub to : ℕ
  pub over : Over ss w.from.0 from
  pub ahead : Ahead ss w.to.0 to
  pub are : us ≡ drop from (take to ss)

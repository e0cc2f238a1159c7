-- The sweep over rising keys: a stretch up to each key's day, with what the keys before it add up to; those that no rule could touch left out.
use Rattle.std.specs.Prelude.{Bool, List, [], ◌∷◌, ◌++◌, ◌≡◌, ℕ, ◌≤◌, length, take, ℤ, pos, ◌+ℤ◌}
use Rattle.std.specs.Int.Signed.{lt_z}
use Rattle.integers.specs.Tests.{if, and, or}
use Rattle.plan.specs.Days.{day}
use Rattle.plan.specs.Powers.{power}
use Rattle.sorting.specs.Order.{Sorted}
use Rattle.stretches.specs.declared.Stretch.{Stretch}
use Rattle.stretches.specs.Tells.{big}
use Rattle.events.specs.declared.Extremes.{Extremes}
use Rattle.events.specs.Keys.{count, day_of, power_of, sure_of}
use Rattle.profile.specs.declared.Level.{Level}

abbrev pub level : ℤ → ℤ → Level
level x u = record { slack = power x; sure = count u }

-- a key more
unfoldable pub changed : Level → ℕ → Level
changed v k = level (v.slack.0 +ℤ power_of k) (v.sure.0 +ℤ sure_of k)

-- the slack where the days count, else more than any slack
unfoldable pub tight_in : Level → ℤ
tight_in v = if (lt_z (pos 0) v.sure.0) v.slack.0 big

unfoldable pub stretch_in : ℤ → ℤ → Level → Stretch
stretch_in a b v = record { from = day a; to = day b; slack = v.slack; tight = power (tight_in v) }

-- it has a day, and some rule may touch some task on it
unfoldable pub worth : Extremes → Stretch → Bool
worth e s = and (lt_z s.from.0 s.to.0) (or (lt_z s.slack.0 e.bar.0) (lt_z s.tight.0 e.lift.0))

abbrev pub worthy : Extremes → Stretch → List Stretch
worthy e s = if (worth e s) (s ∷ []) []

-- from a day on, with what has been added up by then
unfoldable pub swept : Extremes → ℤ → Level → List ℕ → List Stretch
swept e a v [] = worthy e (stretch_in a e.high.0 v)
swept e a v (k ∷ ks) = worthy e (stretch_in a (day_of k) v) ++ swept e (day_of k) (changed v k) ks

-- from the first day on, with a start on which the keys are added up
abbrev pub swept_from : Extremes → ℤ → List ℕ → List Stretch
swept_from e start ks = swept e e.low.0 (level start (pos 0)) ks

-- the first n stretches are what the keys, once they are in rising order, make
pub record Sweeps (e : Extremes) (start : ℤ) (ks : List ℕ) (ss : List Stretch) (n : ℕ) : Type 0 where
  pub keys : List ℕ
  pub sorted : Sorted ks keys
  pub few : n ≤ length ss
  pub are : take n ss ≡ swept_from e start keys

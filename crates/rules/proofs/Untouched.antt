-- A task that no rule touches on any day stays as it is: its set and ranges come out as they entered.
use Rattle.std.specs.Prelude.{Ok}
use mathlib.Core.Path.{◌≡◌}
use Prim.Native.Nat.{ℕ}
use mathlib.Core.List.{List}
use mathlib.Core.Bool.{Bool, true, false}
use lib.IntN.{ℤ, ◌-ℤ◌}
use lib.Signed.{◌≤ℤ◌}
use Rattle.integers.specs.Tests.{and, implies, all}
use Rattle.integers.specs.Hull.{Range, left}
use Rattle.integers.specs.Hull.Left.{Some}
use Rattle.integers.proofs.Z.{z, le_z_in}
use Rattle.integers.proofs.Tests.{clash, and_in, implies_in, all_in, any_none, false_in, and_off}
use Rattle.integers.proofs.Hull.{left_is}
use Rattle.plan.specs.declared.Task.{Task}
use Rattle.plan.specs.Days.{days_of}
use Rattle.plan.specs.Powers.{powers_of}
use Rattle.plan.specs.Sets.{has, only}
use Rattle.plan.proofs.Sets.{only_has}
use Rattle.rules.specs.Frame.{Floor}
use Rattle.rules.specs.Step.{possible, running, sure, others, needed, barred, shut, keeps_origin, keeps_duration, keeps_end, keeps_height, needed_set, kept_set, narrowed}
use Rattle.rules.proofs.Live.{Live}
use Rattle.rules.proofs.TaskDay.{no_need, no_bar}
use Rattle.rules.proofs.Counted.{unsure}

-- a test that passes every value leaves the whole range
pub left_all : (p : ℤ → Bool) (s : Range) → s.low ≤ℤ s.high → p s.low ≡ true → p s.high ≡ true → left p s ≡ Some s
left_all p s h a b = left_is p s s.low s.high (omega z) (omega z) a b (λ u w e. (w.least, w.most))

-- no rule of r touches t on day i: no need, no bar that shuts values out or takes r away, and a height that is enough already
pub record Untouched (r : ℕ) (limit : Floor) (ts : List Task) (t : Task) (i : ℤ) : Type 0 where
  pub need : needed r limit ts t i ≡ false
  pub bar : shut r limit ts t i ≡ false
  pub leave : and (barred r limit ts t i) (running r i t) ≡ false
  pub height : sure r i t ≡ true → (limit.on i -ℤ others r ts t i) ≤ℤ t.height.low.0

-- a day on which the task is not barred at all
pub untouched_unbarred : (r : ℕ) (limit : Floor) (ts : List Task) (t : Task) (i : ℤ) → needed r limit ts t i ≡ false → barred r limit ts t i ≡ false
    → (sure r i t ≡ true → (limit.on i -ℤ others r ts t i) ≤ℤ t.height.low.0) → Untouched r limit ts t i
unfolding shut
untouched_unbarred r limit ts t i n b h = record { need = n; bar = rw b (and_off (only t.set r)); leave = rw b; height = h }

module _ (r : ℕ) (limit : Floor) (ts : List Task) (days : List ℤ) (t : Task) (quiet : (i : ℤ) → Untouched r limit ts t i) where
  not_shut : (i : ℤ) → shut r limit ts t i ≡ true → ⊥
  not_shut i s = clash (shut r limit ts t i) s (quiet i).bar

  -- needs and bars that never speak keep every value
  never : (p q : ℤ → Bool) → all (λ i. and (implies (needed r limit ts t i) (p i)) (implies (shut r limit ts t i) (q i))) days ≡ true
  never p q =
      all_in _ days λ i.
      and_in _ _ (implies_in (needed r limit ts t i) (p i) λ n. clash (needed r limit ts t i) n (quiet i).need)
      (implies_in (shut r limit ts t i) (q i) λ s. absurd (not_shut i s))

  origin_quiet : (v : ℤ) → keeps_origin r limit ts days t v ≡ true
  unfolding keeps_origin
  origin_quiet v = never _ _

  end_quiet : (v : ℤ) → keeps_end r limit ts days t v ≡ true
  unfolding keeps_end
  end_quiet v = never _ _

  duration_quiet : (v : ℤ) → keeps_duration r limit ts days t v ≡ true
  unfolding keeps_duration
  duration_quiet v = all_in _ days λ i. implies_in (shut r limit ts t i) _ λ s. absurd (not_shut i s)

  height_quiet : (v : ℤ) → t.height.low.0 ≤ℤ v → keeps_height r limit ts days t v ≡ true
  unfolding keeps_height
  height_quiet v h =
      all_in _ days λ i.
      implies_in (sure r i t) _ λ s.
      let e = (quiet i).height s in
      le_z_in (limit.on i -ℤ others r ts t i) v (omega z)

  pub set_quiet : kept_set r limit ts days t ≡ t.set
  unfolding kept_set needed_set
  set_quiet =
      rw (
        any_none (needed r limit ts t) days (λ i n. clash (needed r limit ts t i) n (quiet i).need),
        any_none (λ i. and (barred r limit ts t i) (running r i t)) days
            (λ i b. clash (and (barred r limit ts t i) (running r i t)) b (quiet i).leave),
      )

  pub narrowed_untouched : Live t → narrowed r limit ts days t ≡ Ok t
  unfolding narrowed
  narrowed_untouched l =
      rw (
        left_all (keeps_origin r limit ts days t) (days_of t.origin) l.origin (origin_quiet _) (origin_quiet _),
        left_all (keeps_duration r limit ts days t) (days_of t.duration) l.duration (duration_quiet _) (duration_quiet _),
        left_all (keeps_end r limit ts days t) (days_of t.end) l.end (end_quiet _) (end_quiet _),
        left_all (keeps_height r limit ts days t) (powers_of t.height) l.height (height_quiet _ (omega z)) (height_quiet _ l.height),
        set_quiet,
        l.set,
      )

-- a task that may not stand on r is quiet there on every day
module _ (r : ℕ) (t : Task) (away : has t.set r ≡ false) where
  pub possible_away : (i : ℤ) → possible r i t ≡ false
  unfolding possible
  possible_away i = rw away

  pub only_away : only t.set r ≡ false
  only_away = false_in (only t.set r) (λ o. clash (has t.set r) (only_has t.set r o) away)

  pub sure_away : (i : ℤ) → sure r i t ≡ false
  sure_away i = unsure r i t only_away

  module _ (limit : Floor) (ts : List Task) where
    pub untouched_away : (i : ℤ) → Untouched r limit ts t i
    untouched_away i =
        untouched_unbarred r limit ts t i (no_need r i t limit ts (possible_away i)) (no_bar r i t limit ts (possible_away i))
        (λ s. clash (sure r i t) s (sure_away i))

    -- so the step of r keeps it as it is
    pub narrowed_away : (days : List ℤ) → Live t → narrowed r limit ts days t ≡ Ok t
    narrowed_away days l = narrowed_untouched r limit ts days t untouched_away l

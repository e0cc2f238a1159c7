-- "Resource step, sense at least, resource r, limit L, day i": day by day and value by value, everything from the ranges that entered.
use Rattle.std.specs.Prelude.{Ok, Err}
use Rattle.plan.specs.Refusals.{Narrowed}
use Rattle.std.specs.Prelude.{ℕ, ◌^◌, List, [], ◌∷◌, map, Bool, not, ℤ, pos, ◌+ℤ◌, ◌-ℤ◌, neg_ℤ, eqb}
use Rattle.std.specs.Int.Signed.{le_z, lt_z}
use Rattle.integers.specs.Whole.{larger}
use Rattle.integers.specs.Tests.{if, and, implies, all, any}
use Rattle.integers.specs.Sums.{sum_of}
use Rattle.integers.specs.Least.{least_of, greatest_of}
use Rattle.integers.specs.Hull.{Range, range, within, values, Left, left}
use Rattle.integers.specs.Hull.Left.{Nothing, Some}
use Rattle.plan.specs.declared.Task.{Task}
use Rattle.plan.specs.declared.Sense.{Sense}
use Rattle.plan.specs.declared.Sense.TheVariants.{AtMost, AtLeast}
use Rattle.plan.specs.declared.Value.{Value}
use Rattle.plan.specs.declared.Value.TheVariants.{Origin, Duration, End, Height, Set}
use Rattle.plan.specs.Days.{days_of, span_of}
use Rattle.plan.specs.Powers.{powers_of, power_span_of, negated_powers}
use Rattle.plan.specs.Sets.{has, only, without}
use Rattle.rules.specs.Frame.{Frame, Floor, floor_at}
use Rattle.rules.specs.Balance.{Outcome, each}
use Rattle.rules.specs.Balance.Outcome.{NoPlan, Plan}

-- "an origin or end range runs from its smallest to its largest value left"; "A set or range left empty means no plan": that value ran out
abbrev pub or_ran_out : Value → Left → (Range → Narrowed) → Narrowed
or_ran_out v Nothing k = Err v
or_ran_out v (Some s) k = k s

module _ (r : ℕ) where
  -- "possible if r is among its resources and origin low <= i < end high"
  unfoldable pub possible : ℤ → Task → Bool
  possible i t = and (has t.set r) (and (le_z t.origin.low.0 i) (lt_z i t.end.high.0))

  -- "origin high <= i < end low"
  unfoldable pub running : ℤ → Task → Bool
  running i t = and (le_z t.origin.high.0 i) (lt_z i t.end.low.0)

  -- "sure on i if r is its only resource and origin high <= i < end low"
  unfoldable pub sure : ℤ → Task → Bool
  sure i t = and (only t.set r) (running i t)

  -- "Its hope on i: its highest height, if that is positive and the task is possible; its highest height, if that is negative and
  -- the task is sure; otherwise 0."
  unfoldable pub hope : ℤ → Task → ℤ
  hope i t =
      if (lt_z (pos 0) t.height.high.0)
      (if (possible i t) t.height.high.0 (pos 0))
      (if (sure i t) t.height.high.0 (pos 0))

  -- "all hopes together"
  unfoldable pub total : List Task → ℤ → ℤ
  total ts i = sum_of (hope i) ts

  -- "Others means the hopes of all other tasks added up."
  unfoldable pub others : List Task → Task → ℤ → ℤ
  others ts t i = total ts i -ℤ hope i t

  -- "one task with only that resource has origin high <= day"
  unfoldable pub begun : ℤ → Task → Bool
  begun i t = and (only t.set r) (le_z t.origin.high.0 i)

  -- "one such task has end low > day"
  unfoldable pub unended : ℤ → Task → Bool
  unended i t = and (only t.set r) (lt_z i t.end.low.0)

  -- the days that count: "some task is sure on i"; "For shortfall and need, a held day counts when one task with only that resource has
  -- origin high <= day and one such task has end low > day."
  unfoldable pub counts : Floor → List Task → ℤ → Bool
  counts limit ts i = if limit.held (and (any (begun i) ts) (any (unended i) ts)) (any (sure i) ts)

  module _ (limit : Floor) (ts : List Task) where
    -- "Shortfall: some task is sure on i and all hopes together are below L: no plan."
    unfoldable pub shortfall : ℤ → Bool
    shortfall i = and (counts limit ts i) (lt_z (total ts i) (limit.on i))

    -- "Need: some task is sure on i, and a task possible on i with positive highest height has others < L"
    unfoldable pub needed : Task → ℤ → Bool
    needed t i =
        and (counts limit ts i) (and (possible i t) (and (lt_z (pos 0) t.height.high.0) (lt_z (others ts t i) (limit.on i))))

    -- "Bar: a task possible on i has others + its highest height < L: it can't cover i on r."
    unfoldable pub barred : Task → ℤ → Bool
    barred t i = and (possible i t) (lt_z (others ts t i +ℤ t.height.high.0) (limit.on i))

    -- "If r is its only resource"
    unfoldable pub shut : Task → ℤ → Bool
    shut t i = and (only t.set r) (barred t i)

    -- "All days and rules are joined: the new set or range keeps what every rule leaves."
    module _ (days : List ℤ) (t : Task) where
      -- need: "origin within i - duration high + 1 .. i"; bar: "origins i - duration low + 1 .. i .. are barred"
      unfoldable pub keeps_origin : ℤ → Bool
      keeps_origin v =
          all
          (λ i.
          and (implies (needed t i) (within (range ((i -ℤ t.duration.high.0) +ℤ pos 1) i) v))
          (implies (shut t i) (not (within (range ((i -ℤ t.duration.low.0) +ℤ pos 1) i) v))))
          days

      -- bar: "duration is at most the larger of i - origin low and end high - i - 1"
      unfoldable pub keeps_duration : ℤ → Bool
      keeps_duration v =
          all
          (λ i. implies (shut t i) (le_z v (larger (i -ℤ t.origin.low.0) ((t.end.high.0 -ℤ i) -ℤ pos 1))))
          days

      -- need: "end within i + 1 .. i + duration high"; bar: "ends i + 1 .. i + duration low are barred"
      unfoldable pub keeps_end : ℤ → Bool
      keeps_end v =
          all
          (λ i.
          and (implies (needed t i) (within (range (i +ℤ pos 1) (i +ℤ t.duration.high.0)) v))
          (implies (shut t i) (not (within (range (i +ℤ pos 1) (i +ℤ t.duration.low.0)) v))))
          days

      -- "Height: a task sure on i has height at least L - others."
      unfoldable pub keeps_height : ℤ → Bool
      keeps_height v = all (λ i. implies (sure i t) (le_z (limit.on i -ℤ others ts t i) v)) days

      -- need: "it gets r as its only resource"
      unfoldable pub needed_set : ℕ
      needed_set = if (any (needed t) days) (2 ^ r) t.set

      -- bar: "If origin high <= i < end low, r leaves its set."
      unfoldable pub kept_set : ℕ
      kept_set = if (any (λ i. and (barred t i) (running i t)) days) (without needed_set r) needed_set

      unfoldable pub narrowed : Narrowed
      narrowed =
          or_ran_out Origin (left keeps_origin (days_of t.origin)) λ o.
          or_ran_out Duration (left keeps_duration (days_of t.duration)) λ d.
          or_ran_out End (left keeps_end (days_of t.end)) λ e.
          or_ran_out Height (left keeps_height (powers_of t.height)) λ h.
          if (eqb kept_set 0) (Err Set)
          (Ok (record { set = kept_set; origin = span_of o; duration = span_of d; end = span_of e; height = power_span_of h }))

-- the days listed: from the least origin low to the greatest end high. On any other day no task is possible, and no such day counts, so no rule
-- speaks of it.
abbrev pub first_day : Task → ℤ
first_day t = t.origin.low.0

abbrev pub last_end : Task → ℤ
last_end t = t.end.high.0

unfoldable pub listed_days : List Task → List ℤ
listed_days [] = []
listed_days (t ∷ ts) = values (range (least_of first_day (first_day t) ts) (greatest_of last_end (last_end t) ts))

-- the step for sense at least
unfoldable pub at_least_step : ℕ → Floor → List Task → Outcome
at_least_step r limit ts =
    if (any (shortfall r limit ts) (listed_days ts)) NoPlan (each (narrowed r limit ts (listed_days ts)) ts)

-- "Sense at most is the same with every height and limit negated and each height's two ends swapped"
unfoldable pub negated : Task → Task
negated t = record { set = t.set; origin = t.origin; duration = t.duration; end = t.end; height = negated_powers t.height }

abbrev pub negated_plan : Outcome → Outcome
negated_plan NoPlan = NoPlan
negated_plan (Plan ts) = Plan (map negated ts)

abbrev pub negated_floor : Floor → Floor
negated_floor limit = record { on = λ i. neg_ℤ (limit.on i); held = limit.held }

-- the step in either sense
unfoldable pub sense_step : Sense → ℕ → Floor → List Task → Outcome
sense_step AtLeast r limit ts = at_least_step r limit ts
sense_step AtMost r limit ts = negated_plan (at_least_step r (negated_floor limit) (map negated ts))

-- the resource step of a plan, for the resource at place r
unfoldable pub resource_step : Frame → ℕ → List Task → Outcome
resource_step f r ts = sense_step f.sense r (floor_at f r) ts

-- No rule of the resource step, sense at least, loses an allowed choice: no shortfall where there is one, and each of its values
-- passes every need, bar and height rule of every day.
use mathlib.Core.Path.{◌≡◌, subst}
use Prim.Native.Nat.{ℕ, ◌^◌}
use mathlib.Core.List.{List}
use mathlib.Core.Bool.{true}
use lib.IntN.{ℤ, pos, ◌+ℤ◌, ◌-ℤ◌}
use lib.Signed.{le_z, lt_z, ◌≤ℤ◌, ◌<ℤ◌}
use Rattle.integers.specs.Whole.{larger}
use Rattle.integers.specs.Tests.{if, and, any}
use Rattle.integers.specs.Hull.{range}
use Rattle.integers.proofs.Z.{z, +z, -z, maxz, le_z_in}
use Rattle.integers.proofs.Tests.{by_cases, if-case, and_first, and_second, and_in, implies_in, not_in, all_in, any_out, any_none}
use Rattle.integers.proofs.Hull.{within_is, within_in, left_in}
use Rattle.plan.specs.declared.Task.{Task}
use Rattle.plan.specs.declared.Sense.TheVariants.{AtLeast}
use Rattle.plan.specs.Days.{days_of, span_of}
use Rattle.plan.specs.Powers.{powers_of, power_span_of}
use Rattle.plan.specs.Sets.{has, only, without}
use Rattle.plan.proofs.Sets.{has_alone, has_not_zero, without_keeps}
use Rattle.rules.specs.Frame.{Floor}
use Rattle.rules.specs.Allowed.{Choice, covers, adds, level, meets}
use Rattle.rules.specs.Step.{possible, running, sure, total, others, counts, shortfall, needed, barred, shut, keeps_origin, keeps_duration, keeps_end, keeps_height, needed_set, kept_set, narrowed, listed_days, at_least_step}
use Rattle.rules.proofs.Inside.{Inside, Covers, Fit, For, covers_is, covers_in, for_inside, for_joined}
use Rattle.rules.proofs.Limits.{checked, Holds}
use Rattle.rules.proofs.Stays.{TaskStays, PlanStays, each_stays}
use Rattle.rules.proofs.Hopes.{running_from, running_to, only_there, sure_covers, total_le, others_le, counts_checked, for_checked}

module _ (r : ℕ) (limit : Floor) (ts : List Task) (cs : List Choice) (fit : Fit ts cs) (ok : Holds AtLeast r limit cs) where
  met : (i : ℤ) → checked r limit cs i ≡ true → limit.on i ≤ℤ level r i cs
  unfolding meets
  met i h = let a : le_z (limit.on i) (level r i cs) ≡ true = ok i h in omega z

  no_shortfall : (i : ℤ) → shortfall r limit ts i ≡ true → ⊥
  unfolding shortfall
  no_shortfall i h =
      let a = and_first (counts r limit ts i) (lt_z (total r ts i) (limit.on i)) h in
      let b : lt_z (total r ts i) (limit.on i) ≡ true = and_second (counts r limit ts i) (lt_z (total r ts i) (limit.on i)) h in
      let l = met i (counts_checked r i limit fit a) in
      let m = total_le r i fit in
      omega z

  module _ (t : Task) (c : Choice) (at : For t c ts cs) where
    in_t : Inside t c
    in_t = for_inside fit at

    -- on a covered day the others and its own height reach the limit
    reaches : (i : ℤ) → Covers r i c → limit.on i ≤ℤ (others r ts t i +ℤ c.height)
    unfolding adds
    reaches i h =
        let l = met i (for_checked r i limit at h) in
        let m : (level r i cs -ℤ c.height) ≤ℤ others r ts t i =
        subst (λ b. (level r i cs -ℤ if b c.height (pos 0)) ≤ℤ others r ts t i) (covers_in r i c h) (others_le r i fit at) in
        omega (z, -z (level r i cs) c.height, +z (others r ts t i) c.height)

    barred_not : (i : ℤ) → barred r limit ts t i ≡ true → Covers r i c → ⊥
    unfolding barred
    barred_not i h v =
        let a : lt_z (others r ts t i +ℤ t.height.high.0) (limit.on i) ≡ true =
        and_second (possible r i t) (lt_z (others r ts t i +ℤ t.height.high.0) (limit.on i)) h in
        let b = reaches i v in
        let n = in_t.height in
        omega (z, +z (others r ts t i) c.height, +z (others r ts t i) t.height.high.0)

    needed_covers : (i : ℤ) → needed r limit ts t i ≡ true → Covers r i c
    unfolding needed adds
    needed_covers i h =
        let p = lt_z (pos 0) t.height.high.0 in
        let q = lt_z (others r ts t i) (limit.on i) in
        let a = and_first (counts r limit ts i) (and (possible r i t) (and p q)) h in
        let b : q ≡ true =
        and_second p q (and_second (possible r i t) (and p q) (and_second (counts r limit ts i) (and (possible r i t) (and p q)) h)) in
        let l = met i (counts_checked r i limit fit a) in
        by_cases (covers r i c) (covers_is r i c)
        (λ e.
        let m : (level r i cs -ℤ pos 0) ≤ℤ others r ts t i =
        subst (λ b. (level r i cs -ℤ if b c.height (pos 0)) ≤ℤ others r ts t i) e (others_le r i fit at) in
        absurd (omega (z, -z (level r i cs) (pos 0))))

    shut_not : (i : ℤ) → shut r limit ts t i ≡ true → c.origin ≤ℤ i → i <ℤ c.end → ⊥
    unfolding shut
    shut_not i h a b =
        barred_not i (and_second (only t.set r) (barred r limit ts t i) h)
        (record { there = only_there r i t c in_t (and_first (only t.set r) (barred r limit ts t i) h); from = a; to = b })

    module _ (days : List ℤ) where
      keeps_origin_lem : keeps_origin r limit ts days t c.origin ≡ true
      unfolding keeps_origin
      keeps_origin_lem =
          let join = for_joined fit at in
          let d = in_t.duration in
          let s = +z c.origin c.duration in
          all_in _ days λ i.
          let longest = i -ℤ t.duration.high.0 in
          let shortest = i -ℤ t.duration.low.0 in
          and_in _ _
          (implies_in (needed r limit ts t i) _ λ n.
          let v = needed_covers i n in
          within_in (range (longest +ℤ pos 1) i) c.origin (omega (z, -z i t.duration.high.0, +z longest (pos 1))))
          (implies_in (shut r limit ts t i) _ λ s.
          not_in _ λ w.
          let o = within_is (range (shortest +ℤ pos 1) i) c.origin w in
          shut_not i s (omega z) (omega (z, +z c.origin c.duration, -z i t.duration.low.0, +z shortest (pos 1))))

      keeps_end_lem : keeps_end r limit ts days t c.end ≡ true
      unfolding keeps_end
      keeps_end_lem =
          let join = for_joined fit at in
          let d = in_t.duration in
          all_in _ days λ i.
          and_in _ _
          (implies_in (needed r limit ts t i) _ λ n.
          let v = needed_covers i n in
          within_in (range (i +ℤ pos 1) (i +ℤ t.duration.high.0)) c.end
          (omega (z, +z c.origin c.duration, +z i t.duration.high.0, +z i (pos 1))))
          (implies_in (shut r limit ts t i) _ λ s.
          not_in _ λ w.
          let o = within_is (range (i +ℤ pos 1) (i +ℤ t.duration.low.0)) c.end w in
          shut_not i s (omega (z, +z c.origin c.duration, +z i t.duration.low.0, +z i (pos 1))) (omega (z, +z i (pos 1))))

      keeps_duration_lem : keeps_duration r limit ts days t c.duration ≡ true
      unfolding keeps_duration
      keeps_duration_lem =
          let join = for_joined fit at in
          let o = in_t.origin in
          let e = in_t.end in
          all_in _ days λ i.
          implies_in (shut r limit ts t i) _ λ s.
          let before = i -ℤ t.origin.low.0 in
          let after = (t.end.high.0 -ℤ i) -ℤ pos 1 in
          le_z_in c.duration (larger before after)
          (by_cases (le_z c.origin i)
          (λ a.
          by_cases (lt_z i c.end) (λ b. absurd (shut_not i s (omega z) (omega z)))
          (λ b. omega (z, +z c.origin c.duration, -z i t.origin.low.0, maxz before after)))
          (λ a.
          omega
          (z, +z c.origin c.duration, -z t.end.high.0 i, -z (t.end.high.0 -ℤ i) (pos 1), maxz before after)))

      keeps_height_lem : keeps_height r limit ts days t c.height ≡ true
      unfolding keeps_height
      keeps_height_lem =
          all_in _ days λ i.
          implies_in (sure r i t) _ λ s.
          let a = reaches i (sure_covers r i t c in_t s) in
          le_z_in (limit.on i -ℤ others r ts t i) c.height
          (omega (z, -z (limit.on i) (others r ts t i), +z (others r ts t i) c.height))

      needed_set_lem : has (needed_set r limit ts days t) c.resource ≡ true
      unfolding needed_set
      needed_set_lem =
          if-case (λ s. has s c.resource ≡ true) (any (needed r limit ts t) days) (2 ^ r) t.set
          (λ n. let e = any_out (needed r limit ts t) days n in rw (needed_covers e.0 e.1).there (has_alone r))
          (λ n. in_t.set)

      kept_set_lem : has (kept_set r limit ts days t) c.resource ≡ true
      unfolding kept_set
      kept_set_lem =
          let s = needed_set r limit ts days t in
          if-case (λ s. has s c.resource ≡ true) (any (λ i. and (barred r limit ts t i) (running r i t)) days) (without s r) s
          (λ n.
          let e = any_out (λ i. and (barred r limit ts t i) (running r i t)) days n in
          let b = and_first (barred r limit ts t e.0) (running r e.0 t) e.1 in
          let u = and_second (barred r limit ts t e.0) (running r e.0 t) e.1 in
          without_keeps s r c.resource needed_set_lem λ q.
          barred_not e.0 b (record { there = q; from = running_from r e.0 t c in_t u; to = running_to r e.0 t c in_t u }))
          (λ n. needed_set_lem)

      -- what is left of the task has the choice inside
      narrowed_stays : TaskStays c (narrowed r limit ts days t)
      unfolding narrowed
      narrowed_stays =
          let o = left_in (keeps_origin r limit ts days t) (days_of t.origin) c.origin in_t.origin keeps_origin_lem in
          let d = left_in (keeps_duration r limit ts days t) (days_of t.duration) c.duration in_t.duration keeps_duration_lem in
          let e = left_in (keeps_end r limit ts days t) (days_of t.end) c.end in_t.end keeps_end_lem in
          let h = left_in (keeps_height r limit ts days t) (powers_of t.height) c.height in_t.height keeps_height_lem in
          record {
            task =
                record {
                  set = kept_set r limit ts days t;
                  origin = span_of o.range;
                  duration = span_of d.range;
                  end = span_of e.range;
                  height = power_span_of h.range;
                };
            is = rw (o.is, d.is, e.is, h.is, has_not_zero (kept_set r limit ts days t) c.resource kept_set_lem);
            inside = record { set = kept_set_lem; origin = o.within; duration = d.within; end = e.within; height = h.within };
          }

  -- an allowed choice inside the ranges stays inside what the step leaves
  pub step_stays : PlanStays cs (at_least_step r limit ts)
  unfolding at_least_step
  step_stays =
      rw (any_none (shortfall r limit ts) (listed_days ts) no_shortfall)
      (each_stays (narrowed r limit ts (listed_days ts)) fit (λ t c k. narrowed_stays t c k (listed_days ts)))

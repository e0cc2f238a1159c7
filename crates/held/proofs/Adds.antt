-- What the keys of a held resource's span add up to: no power, and one more on each day that counts; they lie within the reach of its tasks.
use mathlib.Core.Path.{◌≡◌, refl, sym, ap, ◌∙◌}
use mathlib.Core.Bool.{Bool, true, false}
use mathlib.Core.List.{List}
use Prim.Native.Nat.{ℕ}
use lib.IntN.{ℤ, pos, pred_ℤ, ◌+ℤ◌, +ℤ_idr}
use lib.Signed.{le_z, lt_z}
use Rattle.integers.specs.Hull.{within}
use Rattle.integers.specs.Tests.{if, and, any, all}
use Rattle.integers.specs.Lists.{Each}
use Rattle.integers.specs.Sums.{sum_of}
use Rattle.integers.proofs.Z.{z, +z, ~z, predz, le_z_in, lt_z_in}
use Rattle.integers.proofs.Tests.{by_cases, clash, false_in, and_first, and_second, and_in}
use Rattle.integers.proofs.Lists.{any_in, in_any, each_in}
use Rattle.integers.proofs.Hull.{within_in}
use Rattle.integers.proofs.Sums.{ones_least}
use Rattle.plan.specs.declared.Kind.{Kind}
use Rattle.plan.specs.declared.Kind.TheVariants.{Plain, Held}
use Rattle.plan.specs.declared.Day.{Day}
use Rattle.plan.specs.declared.Span.{Span}
use Rattle.plan.specs.declared.Task.{Task}
use Rattle.plan.specs.Tasks.{Bounded}
use Rattle.plan.proofs.Sets.{only_has}
use Rattle.rules.specs.Frame.{floor}
use Rattle.rules.specs.Step.{sure, begun, unended, counts}
use Rattle.rules.proofs.TaskDay.{sure_only, sure_running, running_is}
use Rattle.rules.proofs.Counted.{begun_in, begun_by_lem, begun_only, unended_in, ends_after_lem, unended_only}
use Rattle.events.specs.Keys.{power_of, sure_of}
use Rattle.events.specs.Events.{ChangeFits}
use Rattle.events.specs.Extremes.{extremes_of, no_extremes}
use Rattle.events.proofs.Adds.{up_to, sure_one, Part, powers, sures, change_adds, some_sure}
use Rattle.events.proofs.Days.{on_days, change_days}
use Rattle.events.proofs.Covers.{reach_of, extremes_cover}
use Rattle.held.specs.Held.{no_span, span_over, span_change, span_keys, held_keys}
use Rattle.held.proofs.Spans.{span_days, span_bounded}

module _ (r : ℕ) (ts : List Task) (bs : Each Bounded ts) where
  abbrev span : Span Day
  span = span_over r no_span ts

  abbrev holds_day : ℤ → Bool
  holds_day i = and (any (begun r i) ts) (any (unended r i) ts)

  pub span_fits : ChangeFits (span_change span)
  span_fits = let b = span_bounded r ts bs in omega (z, ~z (pos 0), ~z (pos 1))

  -- ---- what the keys add
  module _ (f : ℕ → ℤ) (v : ℤ → ℤ → ℤ) (part : Part f v) (i : ℤ) where
    span_adds : sum_of (up_to f i) (span_keys span) ≡ if (holds_day i) (v (pos 0) (pos 1)) (pos 0)
    unfolding span_keys sum_of
    span_adds =
        let low = span.low.0 in
        let high = span.high.0 in
        by_cases (lt_z low high)
        (λ e. rw e (change_adds f v part low high (pos 0) (pos 1) i span_fits (omega z) ∙ ap (λ b. if b (v (pos 0) (pos 1)) (pos 0)) (span_days r i ts bs)))
        (λ e.
        let none : and (le_z low i) (lt_z i high) ≡ false =
        false_in (and (le_z low i) (lt_z i high)) λ h.
        let a = and_first (le_z low i) (lt_z i high) h in
        let b = and_second (le_z low i) (lt_z i high) h in
        omega z in
        rw (e, sym (span_days r i ts bs) ∙ none))

  pub held_power : (k : Kind) (i : ℤ) → sum_of (up_to power_of i) (held_keys r k ts) ≡ pos 0
  unfolding held_keys sum_of
  held_power Plain i = refl
  held_power Held i = span_adds power_of (λ p u. p) powers i ∙ by_cases (holds_day i) (λ e. rw e) (λ e. rw e)

  held_sure : (i : ℤ) → sum_of (up_to sure_of i) (held_keys r Held ts) ≡ if (holds_day i) (pos 1) (pos 0)
  unfolding held_keys
  held_sure i = span_adds sure_of (λ p u. u) sures i

  -- a sure task holds its day
  sure_holds : (i : ℤ) → any (sure r i) ts ≡ true → holds_day i ≡ true
  sure_holds i h =
      let s = any_in (sure r i) ts h in
      let t = s.0 in
      let o = sure_only r i t s.2 in
      let w = running_is r i t (sure_running r i t s.2) in
      and_in (any (begun r i) ts) (any (unended r i) ts) (in_any (begun r i) s.1 (begun_in r i t o w.late))
      (in_any (unended r i) s.1 (unended_in r i t o w.early))

  -- the sure tasks and the span make those days count that the page has
  pub held_counts : (k : Kind) (on : ℤ → ℤ) (i : ℤ) → lt_z (pos 0) (sum_of (sure_one r i) ts +ℤ sum_of (up_to sure_of i) (held_keys r k ts)) ≡ counts r (floor k on) ts i
  unfolding counts held_keys sum_of
  held_counts Plain on i = ap (lt_z (pos 0)) (+ℤ_idr (sum_of (sure_one r i) ts)) ∙ sym (some_sure r i ts)
  held_counts Held on i =
      let u = sum_of (sure_one r i) ts in
      rw (held_sure i)
      (by_cases (holds_day i)
      (λ e. rw e (lt_z_in (pos 0) (u +ℤ pos 1) (omega (z, +z u (pos 1), ones_least (sure r i) ts))))
      (λ e.
      rw e
      (ap (lt_z (pos 0)) (+ℤ_idr u)
      ∙ sym (some_sure r i ts)
      ∙ false_in (any (sure r i) ts) (λ s. clash (holds_day i) (sure_holds i s) e))))

  -- ---- where they lie
  pub held_within : (k : Kind) → on_days (within (reach_of r (extremes_of r no_extremes ts))) (held_keys r k ts) ≡ true
  unfolding held_keys span_keys all
  held_within Plain = refl
  held_within Held =
      let reach = reach_of r (extremes_of r no_extremes ts) in
      let low = span.low.0 in
      let high = span.high.0 in
      by_cases (lt_z low high)
      (λ e.
      let first = sym (span_days r low ts bs) ∙ and_in (le_z low low) (lt_z low high) (le_z_in low low (omega z)) e in
      let last =
      sym (span_days r (pred_ℤ high) ts bs)
      ∙ and_in (le_z low (pred_ℤ high)) (lt_z (pred_ℤ high) high) (le_z_in low (pred_ℤ high) (omega (z, predz high))) (lt_z_in (pred_ℤ high) high (omega (z, predz high))) in
      let s = any_in (begun r low) ts (and_first (any (begun r low) ts) (any (unended r low) ts) first) in
      let t = any_in (unended r (pred_ℤ high)) ts (and_second (any (begun r (pred_ℤ high)) ts) (any (unended r (pred_ℤ high)) ts) last) in
      let c = extremes_cover r no_extremes s.1 (only_has s.0.set r (begun_only r low s.0 s.2)) in
      let d = extremes_cover r no_extremes t.1 (only_has t.0.set r (unended_only r (pred_ℤ high) t.0 t.2)) in
      let a = begun_by_lem r low s.0 s.2 in
      let b = ends_after_lem r (pred_ℤ high) t.0 t.2 in
      let x = (each_in bs s.1).origin in
      let y = (each_in bs t.1).end in
      rw e
      (change_days (within reach) low high (pos 0) (pos 1) span_fits
      ∙ and_in (within reach low) (within reach high) (within_in reach low (omega (z, predz high, c, d, x, y)))
      (within_in reach high (omega (z, predz high, c, d, x, y)))))
      (λ e. rw e)

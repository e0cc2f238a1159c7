-- The span holds a day where one task that has only r has begun by then and one has not ended: each end, and both.
use mathlib.Core.Path.{◌≡◌, sym, ap, ap₂, ◌∙◌}
use mathlib.Core.Bool.{true}
use mathlib.Core.List.{List, [], ◌∷◌}
use Prim.Native.Nat.{ℕ}
use lib.IntN.{ℤ}
use lib.Signed.{le_z, lt_z, ◌≤ℤ◌, ◌<ℤ◌}
use Rattle.integers.specs.Tests.{and, or, any}
use Rattle.integers.specs.Ends.{Within}
use Rattle.integers.specs.Lists.{Each}
use Rattle.integers.specs.Lists.Each.{nothing, also}
use Rattle.integers.proofs.Z.{z, lt_z_out, maxz, minz}
use Rattle.integers.proofs.Tests.{by_cases, clash, if-case, same_test, and_first, and_second, and_in, or_second, or_left, or_assoc}
use Rattle.integers.proofs.Lists.{any_in, each_in}
use Rattle.integers.proofs.Least.{smaller_at, larger_at}
use Rattle.plan.specs.declared.Day.{Day}
use Rattle.plan.specs.declared.Span.{Span}
use Rattle.plan.specs.declared.Task.{Task}
use Rattle.plan.specs.Days.{day_low, day_high, day_ends}
use Rattle.plan.specs.Sets.{only}
use Rattle.plan.specs.Tasks.{Bounded}
use Rattle.rules.specs.Step.{begun, unended}
use Rattle.rules.proofs.Counted.{begun_by_lem, ends_after_lem}
use Rattle.held.specs.Held.{no_span, with_only, span_over}

-- a span whose ends are days
pub record SpanBounded (e : Span Day) : Type 0 where
  pub low : Within day_ends e.low.0
  pub high : Within day_ends e.high.0

module _ (r : ℕ) (i : ℤ) where
  first_with : (e : Span Day) (t : Task) → le_z (with_only r e t).low.0 i ≡ or (le_z e.low.0 i) (begun r i t)
  unfolding with_only begun
  first_with e t =
      by_cases (only t.set r) (λ o. rw o (smaller_at e.low.0 t.origin.high.0 i))
      (λ o. by_cases (le_z e.low.0 i) (λ l. rw (o, l)) (λ l. rw (o, l)))

  last_with : (e : Span Day) (t : Task) → lt_z i (with_only r e t).high.0 ≡ or (lt_z i e.high.0) (unended r i t)
  unfolding with_only unended
  last_with e t =
      by_cases (only t.set r) (λ o. rw o (larger_at e.high.0 t.end.low.0 i))
      (λ o. by_cases (lt_z i e.high.0) (λ l. rw (o, l)) (λ l. rw (o, l)))

  first_over : (e : Span Day) (ts : List Task) → le_z (span_over r e ts).low.0 i ≡ or (le_z e.low.0 i) (any (begun r i) ts)
  unfolding span_over any
  first_over e [] = by_cases (le_z e.low.0 i) (λ l. rw l) (λ l. rw l)
  first_over e (t ∷ ts) =
      first_over (with_only r e t) ts
      ∙ ap (λ b. or b (any (begun r i) ts)) (first_with e t)
      ∙ or_assoc (le_z e.low.0 i) (begun r i t) (any (begun r i) ts)

  last_over : (e : Span Day) (ts : List Task) → lt_z i (span_over r e ts).high.0 ≡ or (lt_z i e.high.0) (any (unended r i) ts)
  unfolding span_over any
  last_over e [] = by_cases (lt_z i e.high.0) (λ l. rw l) (λ l. rw l)
  last_over e (t ∷ ts) =
      last_over (with_only r e t) ts
      ∙ ap (λ b. or b (any (unended r i) ts)) (last_with e t)
      ∙ or_assoc (lt_z i e.high.0) (unended r i t) (any (unended r i) ts)

  module _ (ts : List Task) (bs : Each Bounded ts) where
    -- a task has begun on no day before the first there is, and has ended by the last
    late : any (begun r i) ts ≡ true → day_low ≤ℤ i
    late h =
        let s = any_in (begun r i) ts h in
        let b = (each_in bs s.1).origin in
        let l = begun_by_lem r i s.0 s.2 in
        omega z

    early : any (unended r i) ts ≡ true → i <ℤ day_high
    early h =
        let t = any_in (unended r i) ts h in
        let b = (each_in bs t.1).end in
        let l = ends_after_lem r i t.0 t.2 in
        omega z

    -- both ends, of all the tasks
    pub span_days : and (le_z (span_over r no_span ts).low.0 i) (lt_z i (span_over r no_span ts).high.0) ≡ and (any (begun r i) ts) (any (unended r i) ts)
    span_days =
        ap₂ and (first_over no_span ts) (last_over no_span ts)
        ∙ same_test (and (or (le_z day_high i) (any (begun r i) ts)) (or (lt_z i day_low) (any (unended r i) ts))) (and (any (begun r i) ts) (any (unended r i) ts))
        (λ h.
        let a = and_first (or (le_z day_high i) (any (begun r i) ts)) (or (lt_z i day_low) (any (unended r i) ts)) h in
        let b = and_second (or (le_z day_high i) (any (begun r i) ts)) (or (lt_z i day_low) (any (unended r i) ts)) h in
        by_cases (any (begun r i) ts)
        (λ x.
        let l = late x in
        let y = sym (or_left (lt_z i day_low) (any (unended r i) ts) (lt_z_out i day_low l)) ∙ b in
        and_in (any (begun r i) ts) (any (unended r i) ts) x y)
        (λ x.
        by_cases (le_z day_high i)
        (λ g.
        by_cases (any (unended r i) ts) (λ y. absurd (let l = early y in omega z))
        (λ y. absurd (let q : lt_z i day_low ≡ true = by_cases (lt_z i day_low) (λ e. e) (λ e. clash (or (lt_z i day_low) (any (unended r i) ts)) b (rw (e, y))) in omega z)))
        (λ g. clash (or (le_z day_high i) (any (begun r i) ts)) a (rw (g, x)))))
        (λ h.
        and_in _ _ (or_second (le_z day_high i) (any (begun r i) ts) (and_first (any (begun r i) ts) (any (unended r i) ts) h))
        (or_second (lt_z i day_low) (any (unended r i) ts) (and_second (any (begun r i) ts) (any (unended r i) ts) h)))

-- its ends are days
span_kept : (r : ℕ) (e : Span Day) {ts : List Task} → Within day_ends e.low.0 → Within day_ends e.high.0 → Each Bounded ts → SpanBounded (span_over r e ts)
unfolding span_over with_only
span_kept r e a b nothing = record { low = a; high = b }
span_kept r e a b (also {x = t} {xs = ts} h bs) =
    span_kept r (with_only r e t)
    (if-case (λ x. Within day_ends x.low.0) (only t.set r) _ e (λ o. omega (z, minz e.low.0 t.origin.high.0, h.origin)) (λ o. a))
    (if-case (λ x. Within day_ends x.high.0) (only t.set r) _ e (λ o. omega (z, maxz e.high.0 t.end.low.0, h.end)) (λ o. b))
    bs

pub span_bounded : (r : ℕ) (ts : List Task) → Each Bounded ts → SpanBounded (span_over r no_span ts)
span_bounded r ts bs = span_kept r no_span (omega z) (omega z) bs

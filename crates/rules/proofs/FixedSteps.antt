-- One fixed choice: balance and each resource step leave it as it is exactly where it keeps their rules, and find no plan elsewhere.
use Rattle.std.specs.Prelude.{Ok, Err}
use Rattle.plan.specs.Refusals.{Narrowed}
use mathlib.Core.Path.{◌≡◌, refl, sym, ap, ap₂, ◌∙◌, subst, subst₂}
use Prim.Native.Nat.{ℕ, ◌^◌}
use mathlib.Core.List.{List, [], ◌∷◌, map}
use mathlib.Core.Bool.{Bool, true, false, not}
use lib.IntN.{ℤ, pos, ◌+ℤ◌, ◌-ℤ◌}
use lib.Signed.{le_z, lt_z}
use lib.Dec.{eqb}
use Rattle.integers.specs.Whole.{larger, smaller}
use Rattle.integers.specs.Tests.{if, and, or, all, any}
use Rattle.integers.specs.Sums.{sum_of}
use Rattle.integers.specs.Hull.{Range, range, Sub}
use Rattle.integers.proofs.Z.{z, +z, -z, maxz, minz, le_z_in, eq_z_in, negneg}
use Rattle.integers.proofs.Tests.{clash, by_cases, if-case, same_test, and_first, and_second, not_out, not_any}
use Rattle.integers.specs.Ends.{Within}
use Rattle.plan.specs.declared.Task.{Task}
use Rattle.plan.specs.declared.Value.TheVariants.{Origin}
use Rattle.plan.specs.declared.Sense.{Sense}
use Rattle.plan.specs.declared.Sense.TheVariants.{AtMost, AtLeast}
use Rattle.plan.specs.Days.{days_of, span_of, cut_below, cut_above, cut_to}
use Rattle.plan.specs.Powers.{powers_of, power_span_of, negated_powers}
use Rattle.plan.specs.Sets.{has, only}
use Rattle.plan.proofs.Sets.{eqb_true, eqb_in, has_alone, has_not_zero, alone_only, alone_is}
use Rattle.rules.specs.Frame.{Floor}
use Rattle.rules.specs.Allowed.{Choice, covers, adds, level, joined, meets, holds}
use Rattle.rules.specs.Balance.{Outcome, and_then, each, cuts, unless_empty, balanced, balance}
use Rattle.rules.specs.Balance.Outcome.{NoPlan, Plan}
use Rattle.rules.specs.Step.{possible, running, sure, begun, unended, hope, total, counts, shortfall, listed_days, at_least_step, negated, negated_plan, negated_floor, sense_step}
use Rattle.rules.specs.Fixed.{fixed}
use Rattle.rules.proofs.Counted.{counted_listed}
use Rattle.rules.proofs.Inside.{Inside, Fit, joined_is}
use Rattle.rules.proofs.Inside.Fit.{none, more}
use Rattle.rules.proofs.Limits.{begun_by, ends_after, checked, Holds, holds_is, holds_in}
use Rattle.rules.proofs.Stays.{PlanStays}
use Rattle.rules.proofs.StepSound.{step_stays}
use Rattle.rules.proofs.BalanceSound.{balance_stays}
use Rattle.rules.proofs.AtMostSound.{negated_choice, holds_at_least, holds_at_most}
use Rattle.rules.proofs.Live.{Lives}
use Rattle.integers.specs.Lists.Each.{nothing, also}
use Rattle.rules.specs.Keeps.{SubTask, Subs}
use Rattle.rules.specs.Keeps.Subs.{no_subs, more_subs}
use Rattle.rules.proofs.Shrinks.{Shrunk, balance_shrunk, step_shrunk}

-- ---- what lies inside one choice and has it inside is that choice
one_range : (v : ℤ) (s : Range) → Sub s (range v v) → Within s v → s ≡ range v v
one_range v s h g =
    let a : s.low ≡ v = omega z in
    let b : s.high ≡ v = omega z in
    ap₂ range a b

same_task_lem : (c : Choice) (u : Task) → SubTask u (fixed c) → Inside u c → u ≡ fixed c
same_task_lem c u h g =
    let a : u.set ≡ 2 ^ c.resource = alone_is c.resource u.set g.set (λ k e. alone_only c.resource k (h.set k e)) in
    let o = one_range c.origin (days_of u.origin) h.origin g.origin in
    let d = one_range c.duration (days_of u.duration) h.duration g.duration in
    let e = one_range c.end (days_of u.end) h.end g.end in
    let f = one_range c.height (powers_of u.height) h.height g.height in
    λ j. record { set = a j; origin = span_of (o j); duration = span_of (d j); end = span_of (e j); height = power_span_of (f j) }

same_fixed : (cs : List Choice) (us : List Task) → Subs us (map fixed cs) → Fit us cs → us ≡ map fixed cs
same_fixed [] us no_subs f = refl
same_fixed (c ∷ cs) us (more_subs {u} {us = vs} h s) (more g j f) =
    ap₂ (λ (x : Task) (xs : List Task). x ∷ xs) (same_task_lem c u h g) (same_fixed cs vs s f)

fit_fixed : (cs : List Choice) → all joined cs ≡ true → Fit (map fixed cs) cs
unfolding all
fit_fixed [] h = none
fit_fixed (c ∷ cs) h =
    more {t = fixed c} {c = c}
    (record { set = has_alone c.resource; origin = omega z; duration = omega z; end = omega z; height = omega z })
    (joined_is c (and_first (joined c) (all joined cs) h))
    (fit_fixed cs (and_second (joined c) (all joined cs) h))

live_fixed : (cs : List Choice) → Lives (map fixed cs)
live_fixed [] = nothing
live_fixed (c ∷ cs) =
    also {x = fixed c}
    (record {
      origin = omega z;
      duration = omega z;
      end = omega z;
      height = omega z;
      set = has_not_zero (2 ^ c.resource) c.resource (has_alone c.resource);
    })
    (live_fixed cs)

-- a step that keeps the choice leaves it as it is
stays_fixed : (cs : List Choice) (o : Outcome) → Shrunk (map fixed cs) o → PlanStays cs o → o ≡ Plan (map fixed cs)
stays_fixed cs o s p =
    let inner : Shrunk (map fixed cs) (Plan p.tasks) = subst (Shrunk (map fixed cs)) p.is s in
    p.is ∙ ap Plan (same_fixed cs p.tasks inner.0 p.fit)

-- ---- on a fixed choice, sure, possible and hope are what it covers and adds
module _ (r : ℕ) where
  same_bit : (k : ℕ) → has (2 ^ k) r ≡ eqb k r
  same_bit k =
      same_test (has (2 ^ k) r) (eqb k r) (λ h. eqb_in k r (sym (alone_only k r h)))
      (λ h. subst (λ x. has (2 ^ k) x ≡ true) (eqb_true k r h) (has_alone k))

  same_power : (k : ℕ) → eqb (2 ^ k) (2 ^ r) ≡ eqb k r
  same_power k =
      same_test (eqb (2 ^ k) (2 ^ r)) (eqb k r)
      (λ h. eqb_in k r (sym (alone_only k r (subst (λ x. has x r ≡ true) (sym (eqb_true (2 ^ k) (2 ^ r) h)) (has_alone r)))))
      (λ h. eqb_in (2 ^ k) (2 ^ r) (ap (λ (x : ℕ). 2 ^ x) (eqb_true k r h)))

module _ (r : ℕ) (i : ℤ) where
  sure_fixed : (c : Choice) → sure r i (fixed c) ≡ covers r i c
  unfolding sure running covers only
  sure_fixed c = ap (λ b. and b (and (le_z c.origin i) (lt_z i c.end))) (same_power r c.resource)

  possible_fixed : (c : Choice) → possible r i (fixed c) ≡ covers r i c
  unfolding possible covers
  possible_fixed c = ap (λ b. and b (and (le_z c.origin i) (lt_z i c.end))) (same_bit r c.resource)

  hope_fixed : (c : Choice) → hope r i (fixed c) ≡ adds r i c
  unfolding hope adds
  hope_fixed c =
      rw (sure_fixed c, possible_fixed c)
      (if-case (λ x. x ≡ if (covers r i c) c.height (pos 0)) (lt_z (pos 0) c.height) _ _ (λ e. refl) (λ e. refl))

  total_fixed : (cs : List Choice) → total r (map fixed cs) i ≡ level r i cs
  unfolding total level sum_of
  total_fixed [] = refl
  total_fixed (c ∷ cs) = ap₂ ◌+ℤ◌ (hope_fixed c) (total_fixed cs)

  begun_fixed : (c : Choice) → begun r i (fixed c) ≡ begun_by r i c
  unfolding begun begun_by only
  begun_fixed c = ap (λ b. and b (le_z c.origin i)) (same_power r c.resource)

  unended_fixed : (c : Choice) → unended r i (fixed c) ≡ ends_after r i c
  unfolding unended ends_after only
  unended_fixed c = ap (λ b. and b (lt_z i c.end)) (same_power r c.resource)

  any_fixed : (p : Task → Bool) (q : Choice → Bool) → ((c : Choice) → p (fixed c) ≡ q c) → (cs : List Choice) → any p (map fixed cs) ≡ any q cs
  unfolding any
  any_fixed p q h [] = refl
  any_fixed p q h (c ∷ cs) = ap₂ or (h c) (any_fixed p q h cs)

  -- the days that count are those that are checked
  counts_fixed : (limit : Floor) (cs : List Choice) → counts r limit (map fixed cs) i ≡ checked r limit cs i
  unfolding counts checked
  counts_fixed limit cs =
      rw (
        any_fixed (begun r i) (begun_by r i) begun_fixed cs,
        any_fixed (unended r i) (ends_after r i) unended_fixed cs,
        any_fixed (sure r i) (covers r i) sure_fixed cs,
      )

-- ---- the resource step
module _ (r : ℕ) (limit : Floor) (cs : List Choice) where
  no_shortfall_holds : any (shortfall r limit (map fixed cs)) (listed_days (map fixed cs)) ≡ false → Holds AtLeast r limit cs
  unfolding shortfall meets
  no_shortfall_holds h i a =
      let ts = map fixed cs in
      let q =
      counted_listed r limit ts i (λ i. not (shortfall r limit ts i)) (live_fixed cs) (not_any (shortfall r limit ts) (listed_days ts) h)
      (counts_fixed r i limit cs ∙ a) in
      let e : and (checked r limit cs i) (lt_z (level r i cs) (limit.on i)) ≡ false =
      subst₂ (λ x y. and x (lt_z y (limit.on i)) ≡ false) (counts_fixed r i limit cs) (total_fixed r i cs)
      (not_out (and (counts r limit ts i) (lt_z (total r ts i) (limit.on i))) q) in
      let f : lt_z (level r i cs) (limit.on i) ≡ false = subst (λ b. and b (lt_z (level r i cs) (limit.on i)) ≡ false) a e in
      le_z_in (limit.on i) (level r i cs) (omega z)

  step_fixed : all joined cs ≡ true → at_least_step r limit (map fixed cs) ≡ if (holds AtLeast r limit cs) (Plan (map fixed cs)) NoPlan
  unfolding at_least_step
  step_fixed j =
      by_cases (holds AtLeast r limit cs)
      (λ h.
      stays_fixed cs (at_least_step r limit (map fixed cs)) (step_shrunk r limit (map fixed cs))
      (step_stays r limit (map fixed cs) cs (fit_fixed cs j) (holds_is AtLeast r limit cs h))
      ∙ sym (ap (λ b. if b (Plan (map fixed cs)) NoPlan) h))
      (λ h.
      by_cases (any (shortfall r limit (map fixed cs)) (listed_days (map fixed cs))) (λ s. rw (h, s))
      (λ s. clash (holds AtLeast r limit cs) (holds_in AtLeast r limit cs (no_shortfall_holds s)) h))

-- ---- sense at most
negated_fixed : (cs : List Choice) → map negated (map fixed cs) ≡ map fixed (map negated_choice cs)
unfolding negated negated_powers
negated_fixed [] = refl
negated_fixed (c ∷ cs) = ap (λ (l : List Task). fixed (negated_choice c) ∷ l) (negated_fixed cs)

choices_back : (cs : List Choice) → map negated_choice (map negated_choice cs) ≡ cs
choices_back [] = refl
choices_back (c ∷ cs) =
    ap₂ (λ (h : ℤ) (l : List Choice). record { resource = c.resource; origin = c.origin; duration = c.duration; end = c.end; height = h } ∷ l)
    (negneg c.height) (choices_back cs)

joined_negated : (cs : List Choice) → all joined (map negated_choice cs) ≡ all joined cs
unfolding all joined
joined_negated [] = refl
joined_negated (c ∷ cs) = ap (and (joined c)) (joined_negated cs)

holds_negated : (r : ℕ) (limit : Floor) (cs : List Choice) → holds AtLeast r (negated_floor limit) (map negated_choice cs) ≡ holds AtMost r limit cs
holds_negated r limit cs =
    let low = negated_floor limit in
    same_test (holds AtLeast r low (map negated_choice cs)) (holds AtMost r limit cs)
    (λ h. holds_in AtMost r limit cs (holds_at_most r limit cs (holds_is AtLeast r low (map negated_choice cs) h)))
    (λ h. holds_in AtLeast r low (map negated_choice cs) (holds_at_least r limit cs (holds_is AtMost r limit cs h)))

pub sense_step_fixed : (sense : Sense) (r : ℕ) (limit : Floor) (cs : List Choice) → all joined cs ≡ true → sense_step sense r limit (map fixed cs) ≡ if (holds sense r limit cs) (Plan (map fixed cs)) NoPlan
unfolding sense_step
sense_step_fixed AtLeast r limit cs j = step_fixed r limit cs j
sense_step_fixed AtMost r limit cs j =
    ap (λ (ts : List Task). negated_plan (at_least_step r (negated_floor limit) ts)) (negated_fixed cs)
    ∙ ap negated_plan (step_fixed r (negated_floor limit) (map negated_choice cs) (joined_negated cs ∙ j))
    ∙ by_cases (holds AtMost r limit cs)
    (λ h. rw (holds_negated r limit cs, h) (ap Plan (negated_fixed (map negated_choice cs) ∙ ap (map fixed) (choices_back cs))))
    (λ h. rw (holds_negated r limit cs, h))

-- ---- balance
no_more : (n : Narrowed) → and_then n NoPlan ≡ NoPlan
no_more (Err v) = refl
no_more (Ok t) = refl

balanced_unjoined : (c : Choice) → joined c ≡ false → balanced (fixed c) ≡ Err Origin
unfolding balanced unless_empty cuts cut_to cut_above cut_below joined
balanced_unjoined c h =
    let o = c.origin in
    let d = c.duration in
    let e = c.end in
    by_cases (lt_z (smaller o (e -ℤ d)) (larger o (e -ℤ d))) (λ q. rw q)
    (λ q.
    let same : o +ℤ d ≡ e = omega (z, +z o d, -z e d, maxz o (e -ℤ d), minz o (e -ℤ d)) in
    clash (joined c) (eq_z_in (o +ℤ d) e same) h)

balance_unjoined : (cs : List Choice) → all joined cs ≡ false → each balanced (map fixed cs) ≡ NoPlan
unfolding each all
balance_unjoined [] h = clash true refl h
balance_unjoined (c ∷ cs) h =
    by_cases (joined c)
    (λ j.
    let rest : all joined cs ≡ false = subst (λ b. and b (all joined cs) ≡ false) j h in
    ap (and_then (balanced (fixed c))) (balance_unjoined cs rest) ∙ no_more (balanced (fixed c)))
    (λ j. ap (λ (n : Narrowed). and_then n (each balanced (map fixed cs))) (balanced_unjoined c j))

pub balance_fixed : (cs : List Choice) → balance (map fixed cs) ≡ if (all joined cs) (Plan (map fixed cs)) NoPlan
unfolding balance
balance_fixed cs =
    by_cases (all joined cs)
    (λ j.
    stays_fixed cs (balance (map fixed cs)) (balance_shrunk (live_fixed cs)) (balance_stays (map fixed cs) cs (fit_fixed cs j))
    ∙ sym (ap (λ b. if b (Plan (map fixed cs)) NoPlan) j))
    (λ j. rw j (balance_unjoined cs j))

-- A change elsewhere does not concern r: where the step of r changes nothing on ts, it changes nothing on ts with some tasks replaced, if
-- each of those has r neither before nor after, or looks the same to r: only other resources left its set, which has r and another one.
use Rattle.std.specs.Prelude.{Ok, Err}
use Rattle.plan.specs.Refusals.{Narrowed}
use mathlib.Core.Path.{◌≡◌, refl, sym, ap, ap₂, ◌∙◌, subst}
use Prim.Native.Nat.{ℕ, ◌^◌}
use native.Mathlib.Omega.{arith}
use mathlib.Core.List.{List, [], ◌∷◌}
use mathlib.Core.Bool.{Bool, true, false, not}
use lib.IntN.{ℤ, pos, ◌+ℤ◌, ◌-ℤ◌}
use lib.Signed.{le_z, lt_z}
use Rattle.integers.specs.Tests.{if, and, or, implies, all, any}
use Rattle.integers.specs.Sums.{sum_of}
use Rattle.integers.specs.Hull.{Range, hull, values, left}
use Rattle.integers.proofs.Tests.{clash, if-case, same_test, not_out, not_any, all_in, any_none, filter_same}
use Rattle.plan.specs.declared.Task.{Task}
use Rattle.plan.specs.Days.{days_of}
use Rattle.plan.specs.Powers.{powers_of}
use Rattle.plan.specs.Sets.{has, only, without}
use Rattle.rules.specs.Frame.{Floor}
use Rattle.rules.specs.Balance.{Outcome, and_then, each}
use Rattle.rules.specs.Balance.Outcome.{NoPlan, Plan}
use Rattle.rules.specs.Step.{possible, running, sure, begun, unended, hope, total, others, counts, shortfall, needed, barred, shut, keeps_origin, keeps_duration, keeps_end, keeps_height, needed_set, kept_set, narrowed, listed_days, at_least_step}
use Rattle.integers.specs.Lists.{In}
use Rattle.rules.proofs.Days.{every_day}
use Rattle.integers.specs.Lists.In.{head, tail}
use Rattle.rules.proofs.Live.{Live, Lives}
use Rattle.rules.proofs.Shrinks.{Shrunk, step_shrunk}
use Rattle.rules.proofs.Untouched.{narrowed_untouched, possible_away, only_away, sure_away, narrowed_away}
use Rattle.rules.proofs.Counted.{unsure, unbegun, no_end, counts_same}
use Rattle.rules.proofs.Sets.{kept_set_is, no_need_spoke, no_bar_spoke}
use Rattle.rules.proofs.TaskDay.{no_sure, no_need, no_bar, no_shut}
use Rattle.integers.proofs.Lists.{each_in}
use Rattle.rules.proofs.Unlisted.{no_shortfall_ever}

-- r sees no difference: the ranges are the same, and both sets have r and another resource
pub record Alike (r : ℕ) (t u : Task) : Type 0 where
  pub origin : t.origin ≡ u.origin
  pub duration : t.duration ≡ u.duration
  pub end : t.end ≡ u.end
  pub height : t.height ≡ u.height
  pub had : has t.set r ≡ true
  pub has : has u.set r ≡ true
  pub shared : only t.set r ≡ false
  pub shares : only u.set r ≡ false

-- us is ts with some tasks replaced: each has r neither before nor after, or looks the same to r; what replaces is not empty
pub data Beside (r : ℕ) : List Task → List Task → Type 0 where
  no_tasks : Beside r [] []
  same_task_lem : {t : Task} {ts us : List Task} → Beside r ts us → Beside r (t ∷ ts) (t ∷ us)
  other_task : {t u : Task} {ts us : List Task} → has t.set r ≡ false → has u.set r ≡ false → Live u → Beside r ts us → Beside r (t ∷ ts) (u ∷ us)
  other_set : {t u : Task} {ts us : List Task} → Alike r t u → Live u → Beside r ts us → Beside r (t ∷ ts) (u ∷ us)

-- ---- what the rules of r read of the list stays
hope_away : (r : ℕ) (t : Task) → has t.set r ≡ false → (i : ℤ) → hope r i t ≡ pos 0
unfolding hope
hope_away r t e i =
    rw (possible_away r t e i, sure_away r t e i)
    (if-case (λ x. x ≡ pos 0) (lt_z (pos 0) t.height.high.0) (pos 0) (pos 0) (λ e. refl) (λ e. refl))

module _ (r : ℕ) {t u : Task} (a : Alike r t u) (i : ℤ) where
  possible_alike : possible r i t ≡ possible r i u
  unfolding possible
  possible_alike = rw (a.had, a.has, a.origin, a.end)

  running_alike : running r i t ≡ running r i u
  unfolding running
  running_alike = rw (a.origin, a.end)

  unsure_first : sure r i t ≡ false
  unsure_first = unsure r i t a.shared

  unsure_second : sure r i u ≡ false
  unsure_second = unsure r i u a.shares

  hope_alike : hope r i t ≡ hope r i u
  unfolding hope
  hope_alike = rw (possible_alike, unsure_first, unsure_second, a.height)

pub total_beside : (r : ℕ) {ts us : List Task} → Beside r ts us → (i : ℤ) → total r ts i ≡ total r us i
unfolding total sum_of
total_beside r no_tasks i = refl
total_beside r (same_task_lem {t} b) i = ap (λ (x : ℤ). hope r i t +ℤ x) (total_beside r b i)
total_beside r (other_task {t} {u} e f l b) i =
    ap₂ ◌+ℤ◌ (hope_away r t e i ∙ sym (hope_away r u f i)) (total_beside r b i)
total_beside r (other_set a l b) i = ap₂ ◌+ℤ◌ (hope_alike r a i) (total_beside r b i)

-- a test that no task passes which may stand elsewhere
any_beside : (r : ℕ) (p : Task → Bool) → ((t : Task) → only t.set r ≡ false → p t ≡ false) → {ts us : List Task} → Beside r ts us → any p ts ≡ any p us
unfolding any
any_beside r p h no_tasks = refl
any_beside r p h (same_task_lem {t} b) = ap (or (p t)) (any_beside r p h b)
any_beside r p h (other_task {t} {u} e f l b) = ap₂ or (h t (only_away r t e) ∙ sym (h u (only_away r u f))) (any_beside r p h b)
any_beside r p h (other_set {t} {u} a l b) = ap₂ or (h t a.shared ∙ sym (h u a.shares)) (any_beside r p h b)

pub counts_beside : (r : ℕ) (limit : Floor) {ts us : List Task} → Beside r ts us → (i : ℤ) → counts r limit ts i ≡ counts r limit us i
counts_beside r limit {ts} {us} b i =
    counts_same r limit ts us i (any_beside r (sure r i) (unsure r i) b) (any_beside r (begun r i) (unbegun r i) b) (any_beside r (unended r i) (no_end r i) b)

-- ---- a task of both lists: what the rules leave of it over all listed days of the one, they leave over any days of the other
module _ (r : ℕ) (limit : Floor) (t : Task) (l : Live t) (ts us : List Task) (same_total : (i : ℤ) → total r ts i ≡ total r us i) (same-counts : (i : ℤ) → counts r limit ts i ≡ counts r limit us i) (k : In t ts) (days : List ℤ) where
  others_same : (i : ℤ) → others r ts t i ≡ others r us t i
  unfolding others
  others_same i = ap (λ (x : ℤ). x -ℤ hope r i t) (same_total i)

  needed_same : (i : ℤ) → needed r limit ts t i ≡ needed r limit us t i
  unfolding needed
  needed_same i = rw (same-counts i, others_same i)

  barred_same : (i : ℤ) → barred r limit ts t i ≡ barred r limit us t i
  unfolding barred
  barred_same i = rw (others_same i)

  shut_same : (i : ℤ) → shut r limit ts t i ≡ shut r limit us t i
  unfolding shut
  shut_same i = ap (and (only t.set r)) (barred_same i)

  spoken : (p q : ℤ → Bool) → all (λ i. and (implies (needed r limit ts t i) (p i)) (implies (shut r limit ts t i) (q i))) (listed_days ts) ≡ true → all (λ i. and (implies (needed r limit us t i) (p i)) (implies (shut r limit us t i) (q i))) days ≡ true
  spoken p q h =
      all_in _ days λ i.
      across i (every_day r (λ i. and (implies (needed r limit ts t i) (p i)) (implies (shut r limit ts t i) (q i))) t ts k (λ i e. rw (no_need r i t limit ts e, no_shut r i t limit ts e)) h i)
    where
      across : (i : ℤ) → and (implies (needed r limit ts t i) (p i)) (implies (shut r limit ts t i) (q i)) ≡ true → and (implies (needed r limit us t i) (p i)) (implies (shut r limit us t i) (q i)) ≡ true
      across i g = rw (needed_same i, shut_same i) at g

  origin_over : (v : ℤ) → keeps_origin r limit ts (listed_days ts) t v ≡ true → keeps_origin r limit us days t v ≡ true
  unfolding keeps_origin
  origin_over v h = spoken _ _ h

  end_over : (v : ℤ) → keeps_end r limit ts (listed_days ts) t v ≡ true → keeps_end r limit us days t v ≡ true
  unfolding keeps_end
  end_over v h = spoken _ _ h

  shut_spoken : (p : ℤ → Bool) → all (λ i. implies (shut r limit ts t i) (p i)) (listed_days ts) ≡ true → all (λ i. implies (shut r limit us t i) (p i)) days ≡ true
  shut_spoken p h =
      all_in _ days λ i.
      rw (shut_same i) at (every_day r (λ i. implies (shut r limit ts t i) (p i)) t ts k (λ i e. rw (no_shut r i t limit ts e)) h i)

  duration_over : (v : ℤ) → keeps_duration r limit ts (listed_days ts) t v ≡ true → keeps_duration r limit us days t v ≡ true
  unfolding keeps_duration
  duration_over v h = shut_spoken _ h

  height_over : (v : ℤ) → keeps_height r limit ts (listed_days ts) t v ≡ true → keeps_height r limit us days t v ≡ true
  unfolding keeps_height
  height_over v h =
      all_in _ days λ i.
      rw (others_same i) at (every_day r (λ i. implies (sure r i t) (le_z (limit.on i -ℤ others r ts t i) v)) t ts k (λ i e. rw (no_sure r i t l e)) h i)

  -- a rule that never fires on the listed days never fires
  never_over : (p q : ℤ → Bool) → ((i : ℤ) → possible r i t ≡ false → p i ≡ false) → ((i : ℤ) → p i ≡ q i) → any p (listed_days ts) ≡ false → any q days ≡ false
  never_over p q f e h =
      any_none q days λ i a.
      clash (p i) (e i ∙ a)
      (not_out (p i) (every_day r (λ i. not (p i)) t ts k (λ i g. rw (f i g)) (not_any p (listed_days ts) h) i))

  needed_over : any (needed r limit ts t) (listed_days ts) ≡ false → any (needed r limit us t) days ≡ false
  needed_over h = never_over (needed r limit ts t) (needed r limit us t) (λ i e. no_need r i t limit ts e) needed_same h

  barred_over : any (λ i. and (barred r limit ts t i) (running r i t)) (listed_days ts) ≡ false → any (λ i. and (barred r limit us t i) (running r i t)) days ≡ false
  barred_over h =
      never_over (λ i. and (barred r limit ts t i) (running r i t)) (λ i. and (barred r limit us t i) (running r i t))
      (λ i e. rw (no_bar r i t limit ts e))
      (λ i. ap (λ b. and b (running r i t)) (barred_same i))
      h

same_false : (a b : Bool) → (a ≡ false → b ≡ false) → (b ≡ false → a ≡ false) → a ≡ b
same_false true true f g = refl
same_false true false f g = g refl
same_false false b f g = sym (f refl)

left_same : (p q : ℤ → Bool) (s : Range) → ((v : ℤ) → p v ≡ q v) → left p s ≡ left q s
unfolding left
left_same p q s h = ap hull (filter_same p q h (values s))

-- so a step leaves the same of it
module _ (r : ℕ) (limit : Floor) (t : Task) (l : Live t) (ts us : List Task) (same_total : (i : ℤ) → total r ts i ≡ total r us i) (same-counts : (i : ℤ) → counts r limit ts i ≡ counts r limit us i) (k : In t ts) (k' : In t us) where
  back_total : (i : ℤ) → total r us i ≡ total r ts i
  back_total i = sym (same_total i)

  back_counts : (i : ℤ) → counts r limit us i ≡ counts r limit ts i
  back_counts i = sym (same-counts i)

  needed_set_same : needed_set r limit ts (listed_days ts) t ≡ needed_set r limit us (listed_days us) t
  unfolding needed_set
  needed_set_same =
      ap (λ b. if b (2 ^ r) t.set)
      (same_false (any (needed r limit ts t) (listed_days ts)) (any (needed r limit us t) (listed_days us))
      (needed_over r limit t l ts us same_total same-counts k (listed_days us))
      (needed_over r limit t l us ts back_total back_counts k' (listed_days ts)))

  kept_set_same : kept_set r limit ts (listed_days ts) t ≡ kept_set r limit us (listed_days us) t
  unfolding kept_set
  kept_set_same =
      ap₂ (λ (b : Bool) (s : ℕ). if b (without s r) s)
      (same_false (any (λ i. and (barred r limit ts t i) (running r i t)) (listed_days ts)) (any (λ i. and (barred r limit us t i) (running r i t)) (listed_days us))
      (barred_over r limit t l ts us same_total same-counts k (listed_days us))
      (barred_over r limit t l us ts back_total back_counts k' (listed_days ts)))
      needed_set_same

  pub narrowed_same : narrowed r limit ts (listed_days ts) t ≡ narrowed r limit us (listed_days us) t
  unfolding narrowed
  narrowed_same =
      rw (
        left_same (keeps_origin r limit ts (listed_days ts) t) (keeps_origin r limit us (listed_days us) t) (days_of t.origin)
            (λ v. same_test _ _ (origin_over r limit t l ts us same_total same-counts k (listed_days us) v) (origin_over r limit t l us ts back_total back_counts k' (listed_days ts) v)),
        left_same (keeps_duration r limit ts (listed_days ts) t) (keeps_duration r limit us (listed_days us) t) (days_of t.duration)
            (λ v. same_test _ _ (duration_over r limit t l ts us same_total same-counts k (listed_days us) v) (duration_over r limit t l us ts back_total back_counts k' (listed_days ts) v)),
        left_same (keeps_end r limit ts (listed_days ts) t) (keeps_end r limit us (listed_days us) t) (days_of t.end)
            (λ v. same_test _ _ (end_over r limit t l ts us same_total same-counts k (listed_days us) v) (end_over r limit t l us ts back_total back_counts k' (listed_days ts) v)),
        left_same (keeps_height r limit ts (listed_days ts) t) (keeps_height r limit us (listed_days us) t) (powers_of t.height)
            (λ v. same_test _ _ (height_over r limit t l ts us same_total same-counts k (listed_days us) v) (height_over r limit t l us ts back_total back_counts k' (listed_days ts) v)),
        kept_set_same,
      )

-- ---- a task that r can't tell from one that it keeps: on no day is it needed, and a bar neither shuts values out nor takes r away
module _ (r : ℕ) (limit : Floor) (ts us : List Task) (same_total : (i : ℤ) → total r ts i ≡ total r us i) (same-counts : (i : ℤ) → counts r limit ts i ≡ counts r limit us i)
    (t u : Task) (a : Alike r t u) (k : In t ts) (kept : narrowed r limit ts (listed_days ts) t ≡ Ok t) where
  stayed : t.set ≡ kept_set r limit ts (listed_days ts) t
  stayed = kept_set_is r limit ts (listed_days ts) t t kept

  still_has : has (kept_set r limit ts (listed_days ts) t) r ≡ true
  still_has = subst (λ (s : ℕ). has s r ≡ true) stayed a.had

  still_shared : only (kept_set r limit ts (listed_days ts) t) r ≡ false
  still_shared = subst (λ (s : ℕ). only s r ≡ false) stayed a.shared

  never : (p : ℤ → Bool) → ((i : ℤ) → possible r i t ≡ false → p i ≡ false) → any p (listed_days ts) ≡ false → (i : ℤ) → p i ≡ false
  never p f h i = not_out (p i) (every_day r (λ i. not (p i)) t ts k (λ i g. rw (f i g)) (not_any p (listed_days ts) h) i)

  others_alike : (i : ℤ) → others r ts t i ≡ others r us u i
  unfolding others
  others_alike i = ap₂ ◌-ℤ◌ (same_total i) (hope_alike r a i)

  needed_alike : (i : ℤ) → needed r limit ts t i ≡ needed r limit us u i
  unfolding needed
  needed_alike i = rw (same-counts i, possible_alike r a i, others_alike i, a.height)

  barred_alike : (i : ℤ) → barred r limit ts t i ≡ barred r limit us u i
  unfolding barred
  barred_alike i = rw (possible_alike r a i, others_alike i, a.height)

  unneeded : (i : ℤ) → needed r limit us u i ≡ false
  unneeded i =
      sym (needed_alike i)
      ∙ never (needed r limit ts t) (λ i e. no_need r i t limit ts e) (no_need_spoke r limit ts (listed_days ts) t still_has still_shared) i

  unmoved : (i : ℤ) → and (barred r limit us u i) (running r i u) ≡ false
  unmoved i =
      sym (ap₂ and (barred_alike i) (running_alike r a i))
      ∙ never (λ i. and (barred r limit ts t i) (running r i t)) (λ i e. rw (no_bar r i t limit ts e)) (no_bar_spoke r limit ts (listed_days ts) t still_has still_shared) i

  alike_kept : (days : List ℤ) → Live u → narrowed r limit us days u ≡ Ok u
  unfolding shut
  alike_kept days l =
      narrowed_untouched r limit us days u
      (λ i. record { need = unneeded i; bar = rw a.shares; leave = unmoved i; height = λ s. clash (sure r i u) s (unsure_second r a i) })
      l

-- ---- a step that changes nothing keeps every task, and the other way round
and_then_still : (t : Task) (ts : List Task) (n : Narrowed) (o : Outcome) → and_then n o ≡ Plan (t ∷ ts) → (n ≡ Ok t) × (o ≡ Plan ts)
and_then_still t ts (Err v) o e = let q : ◌≡◌ {A = ℕ} 0 1 = cc (e) in absurd (omega arith)
and_then_still t ts (Ok u) NoPlan e = let q : ◌≡◌ {A = ℕ} 0 1 = cc (e) in absurd (omega arith)
and_then_still t ts (Ok u) (Plan us) e =
    let a : u ≡ t = cc (e) in
    let b : us ≡ ts = cc (e) in
    (ap Ok a, ap Plan b)

each_still : (f : Task → Narrowed) {t : Task} {ts : List Task} → In t ts → each f ts ≡ Plan ts → f t ≡ Ok t
unfolding each
each_still f {t} (head {xs = us}) e = (and_then_still t us (f t) (each f us) e).0
each_still f (tail {y = u} {xs = us} k) e = each_still f k (and_then_still u us (f u) (each f us) e).1

pub still_each : (f : Task → Narrowed) (ts : List Task) → each f ts ≡ Plan ts → (t : Task) → In t ts → f t ≡ Ok t
still_each f ts e t k = each_still f k e

module _ (r : ℕ) (limit : Floor) (ts us : List Task) (beside : Beside r ts us) (lives : Lives ts) (still : (t : Task) → In t ts → narrowed r limit ts (listed_days ts) t ≡ Ok t) where
  each_beside : {vs ws : List Task} → Beside r vs ws → ((t : Task) → In t vs → In t ts) → ((u : Task) → In u ws → In u us) → each (narrowed r limit us (listed_days us)) ws ≡ Plan ws
  unfolding each
  each_beside no_tasks f g = refl
  each_beside (same_task_lem {t} {us = ws} b) f g =
      let kept : narrowed r limit us (listed_days us) t ≡ Ok t =
      sym (narrowed_same r limit t (each_in lives (f t head)) ts us (total_beside r beside) (counts_beside r limit beside) (f t head) (g t head)) ∙ still t (f t head) in
      ap₂ and_then kept (each_beside b (λ v k. f v (tail k)) (λ v k. g v (tail k)))
  each_beside (other_set {t} {u} {us = ws} a l c) f g =
      ap₂ and_then
      (alike_kept r limit ts us (total_beside r beside) (counts_beside r limit beside) t u a (f t head) (still t (f t head)) (listed_days us) l)
      (each_beside c (λ v k. f v (tail k)) (λ v k. g v (tail k)))
  each_beside (other_task {u} {us = ws} a b l c) f g =
      ap₂ and_then (narrowed_away r u b limit us (listed_days us) l) (each_beside c (λ v k. f v (tail k)) (λ v k. g v (tail k)))

shortfall_beside : (r : ℕ) (limit : Floor) {ts us : List Task} → Beside r ts us → (i : ℤ) → shortfall r limit ts i ≡ shortfall r limit us i
unfolding shortfall
shortfall_beside r limit b i = rw (counts_beside r limit b i, total_beside r b i)

pub if_plan : (b : Bool) (o : Outcome) (ts : List Task) → if b NoPlan o ≡ Plan ts → (b ≡ false) × (o ≡ Plan ts)
if_plan true o ts e = let q : ◌≡◌ {A = ℕ} 0 1 = cc (e) in absurd (omega arith)
if_plan false o ts e = (refl, e)

-- what a step leaves is not empty
step_lives : (r : ℕ) (limit : Floor) (ts : List Task) → at_least_step r limit ts ≡ Plan ts → Lives ts
step_lives r limit ts e =
    let s : Shrunk ts (Plan ts) = subst (Shrunk ts) e (step_shrunk r limit ts) in
    s.1

pub step_elsewhere : (r : ℕ) (limit : Floor) (ts us : List Task) → Beside r ts us → at_least_step r limit ts ≡ Plan ts → at_least_step r limit us ≡ Plan us
unfolding at_least_step
step_elsewhere r limit ts us b e =
    let parts = if_plan (any (shortfall r limit ts) (listed_days ts)) (each (narrowed r limit ts (listed_days ts)) ts) ts e in
    let lives = step_lives r limit ts e in
    let none : any (shortfall r limit us) (listed_days us) ≡ false =
    any_none (shortfall r limit us) (listed_days us) (λ i s. clash (shortfall r limit ts i) (shortfall_beside r limit b i ∙ s) (no_shortfall_ever r limit ts lives parts.0 i)) in
    rw none
    (each_beside r limit ts us b lives (still_each (narrowed r limit ts (listed_days ts)) ts parts.1) b (λ t k. k) (λ u k. k))

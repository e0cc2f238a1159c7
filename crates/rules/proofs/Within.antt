-- Settling within so many passes: what it leaves is what so many passes leave, it is settling wherever settling takes no more, and settling within
-- more passes is to go on from there.
use Rattle.plan.specs.Refusals.{accepted}
use mathlib.Core.Path.{◌≡◌, refl, sym, ap, ◌∙◌, subst}
use Prim.Native.Nat.{ℕ, zero, suc, ◌+◌, ◌≤◌, ◌<◌}
use native.Mathlib.Omega.{arith}
use mathlib.Core.List.{List}
use Rattle.integers.proofs.Tests.{by_cases, if-case}
use Rattle.plan.specs.declared.Task.{Task}
use Rattle.rules.specs.Frame.{Frame}
use Rattle.rules.specs.Balance.{Outcome}
use Rattle.rules.specs.Balance.Outcome.{NoPlan, Plan}
use Rattle.rules.specs.Settle.{then, pass, same_tasks, Settled, one_pass_more, unless_same, settle_within, most_passes, settle}
use Rattle.rules.specs.Settle.Settled.{Refused, After, Unsettled}
use Rattle.rules.specs.Moves.{passes}
use Rattle.rules.specs.Calls.{check}
use Rattle.rules.proofs.Rooms.{same_tasks_is}
use Rattle.rules.proofs.Ends.{same_plan_lem, within_most}

-- ---- n passes before those that s counts
abbrev pub plus_passes : ℕ → Settled → Settled
plus_passes n Refused = Refused
plus_passes n (After k us) = After (n + k) us
plus_passes n (Unsettled us) = Unsettled us

pub plus_none : (s : Settled) → plus_passes 0 s ≡ s
plus_none Refused = refl
plus_none (After k us) = ap (λ (j : ℕ). After j us) (omega arith)
plus_none (Unsettled us) = refl

pub plus_more : (n : ℕ) (s : Settled) → plus_passes n (one_pass_more s) ≡ plus_passes (n + 1) s
plus_more n Refused = refl
plus_more n (After k us) = ap (λ (j : ℕ). After j us) (omega arith)
plus_more n (Unsettled us) = refl

one_more_plus : (n : ℕ) (s : Settled) → one_pass_more (plus_passes n s) ≡ plus_passes (suc n) s
one_more_plus n Refused = refl
one_more_plus n (After k us) = ap (λ (j : ℕ). After j us) (omega arith)
one_more_plus n (Unsettled us) = refl

-- ---- within m passes, and where these were too few, on from what they left
abbrev pub onward : ℕ → (List Task → Settled) → Settled → Settled
onward m k Refused = Refused
onward m k (After j us) = After j us
onward m k (Unsettled us) = plus_passes m (k us)

one_more_onward : (m : ℕ) (k : List Task → Settled) (s : Settled) → one_pass_more (onward m k s) ≡ onward (suc m) k (one_pass_more s)
one_more_onward m k Refused = refl
one_more_onward m k (After j us) = refl
one_more_onward m k (Unsettled us) = one_more_plus m (k us)

module _ (f : Frame) where
  pub within_onward : (m n : ℕ) (ts : List Task) → settle_within (m + n) f ts ≡ onward m (settle_within n f) (settle_within m f ts)
  unfolding settle_within
  within_onward zero n ts =
      let e : 0 + n ≡ n = omega arith in
      ap (λ (k : ℕ). settle_within k f ts) e ∙ sym (plus_none (settle_within n f ts))
  within_onward (suc m) n ts =
      let e : suc m + n ≡ suc (m + n) = omega arith in
      ap (λ (k : ℕ). settle_within k f ts) e ∙ go (pass f ts) (within_onward m n)
    where
      go : (o : Outcome) → ((us : List Task) → settle_within (m + n) f us ≡ onward m (settle_within n f) (settle_within m f us)) → unless_same (settle_within (m + n) f) ts o ≡ onward (suc m) (settle_within n f) (unless_same (settle_within m f) ts o)
      go NoPlan k = refl
      go (Plan us) k =
          by_cases (same_tasks ts us) (λ e. rw e)
          (λ e. rw (e, k us) (one_more_onward m (settle_within n f) (settle_within m f us)))

  -- ---- what is left is what so many passes leave: once a pass changed nothing, no later one does
  abbrev Reached : ℕ → List Task → Settled → Type 0
  Reached n ts Refused = passes n f ts ≡ NoPlan
  Reached n ts (After k us) = (1 ≤ k) × (k ≤ n) × (passes n f ts ≡ Plan us)
  Reached n ts (Unsettled us) = passes n f ts ≡ Plan us

  settled_stays : (n : ℕ) (us : List Task) → pass f us ≡ Plan us → passes n f us ≡ Plan us
  unfolding passes
  settled_stays zero us e = refl
  settled_stays (suc n) us e = ap (λ (o : Outcome). then o (passes n f)) e ∙ settled_stays n us e

  more_reached : (n : ℕ) (ts us : List Task) (s : Settled) → passes (suc n) f ts ≡ passes n f us → Reached n us s → Reached (suc n) ts (one_pass_more s)
  more_reached n ts us Refused e h = e ∙ h
  more_reached n ts us (After k vs) e h = let l = h.1 in (omega arith, omega arith, e ∙ h.2)
  more_reached n ts us (Unsettled vs) e h = e ∙ h

  within_reached : (n : ℕ) (ts : List Task) → Reached n ts (settle_within n f ts)
  unfolding settle_within passes
  within_reached zero ts = refl
  within_reached (suc n) ts = go (pass f ts) refl (within_reached n)
    where
      next : (o : Outcome) → pass f ts ≡ o → passes (suc n) f ts ≡ then o (passes n f)
      next o e = ap (λ (x : Outcome). then x (passes n f)) e

      go : (o : Outcome) → pass f ts ≡ o → ((us : List Task) → Reached n us (settle_within n f us)) → Reached (suc n) ts (unless_same (settle_within n f) ts o)
      go NoPlan e k = next NoPlan e
      go (Plan us) e k =
          if-case (Reached (suc n) ts) (same_tasks ts us) (After 1 us) (one_pass_more (settle_within n f us))
          (λ q.
          let s = same_tasks_is ts us q in
          (omega arith, omega arith, next (Plan us) e ∙ settled_stays n us (subst (λ (x : List Task). pass f x ≡ Plan us) s e)))
          (λ q. more_reached n ts us (settle_within n f us) (next (Plan us) e) (k us))

  -- ---- beside settling, on a plan that passes the checks
  module _ (n : ℕ) (ts : List Task) (a : check f ts ≡ accepted) where
    beyond : settle f ts ≡ onward n (settle_within (most_passes ts) f) (settle_within n f ts)
    beyond = sym (within_most f ts a (n + most_passes ts) (omega arith)) ∙ within_onward n (most_passes ts) ts

    reached_by : (s : Settled) → settle_within n f ts ≡ s → Reached n ts s
    reached_by s e = subst (Reached n ts) e (within_reached n ts)

    -- a count that it reports is settling's
    pub settled_within : (k : ℕ) (us : List Task) → settle_within n f ts ≡ After k us → (1 ≤ k) × (k ≤ n) × (settle f ts ≡ After k us)
    settled_within k us e =
        let r = reached_by (After k us) e in
        (r.0, r.1, beyond ∙ ap (onward n (settle_within (most_passes ts) f)) e)

    -- and where it says that there is no plan, settling does
    pub refused_within : settle_within n f ts ≡ Refused → settle f ts ≡ Refused
    refused_within e = beyond ∙ ap (onward n (settle_within (most_passes ts) f)) e

    -- settling takes no more passes
    pub within_enough : (k : ℕ) (us : List Task) → settle f ts ≡ After k us → k ≤ n → settle_within n f ts ≡ After k us
    within_enough k us e l = go (settle_within n f ts) refl
      where
        after_once : {j i : ℕ} {vs ws : List Task} → After j vs ≡ After i ws → j ≡ i
        after_once h = cc

        -- on from a list that is not settled there is a pass at least
        later : (vs : List Task) (s : Settled) → settle_within (most_passes ts) f vs ≡ s → plus_passes n s ≡ After k us → n < k
        later vs Refused d h = absurd (let q : ◌≡◌ {A = ℕ} 0 1 = cc in omega arith)
        later vs (After j ws) d h =
            let r = (subst (Reached (most_passes ts) vs) d (within_reached (most_passes ts) vs)).0 in
            let q = after_once h in
            omega arith
        later vs (Unsettled ws) d h = absurd (let q : ◌≡◌ {A = ℕ} 0 1 = cc in omega arith)

        go : (s : Settled) → settle_within n f ts ≡ s → settle_within n f ts ≡ After k us
        go Refused d = absurd (let h : Refused ≡ After k us = sym (refused_within d) ∙ e in let q : ◌≡◌ {A = ℕ} 0 1 = cc in omega arith)
        go (After j vs) d = d ∙ sym (settled_within j vs d).2 ∙ e
        go (Unsettled vs) d =
            absurd (let q = later vs (settle_within (most_passes ts) f vs) refl (ap (onward n (settle_within (most_passes ts) f)) (sym d) ∙ sym beyond ∙ e) in omega arith)

    -- one of so many passes finds no plan
    pub within_none : passes n f ts ≡ NoPlan → settle_within n f ts ≡ Refused
    within_none e = go (settle_within n f ts) refl
      where
        clashes : {us : List Task} {P : Type 0} → passes n f ts ≡ Plan us → P
        clashes h = absurd (let d = sym e ∙ h in let q : ◌≡◌ {A = ℕ} 0 1 = cc in omega arith)

        go : (s : Settled) → settle_within n f ts ≡ s → settle_within n f ts ≡ Refused
        go Refused d = d
        go (After k us) d = clashes (reached_by (After k us) d).2
        go (Unsettled us) d = clashes (reached_by (Unsettled us) d)

    -- else, where settling takes more, what so many passes left
    pub within_left : (us : List Task) → passes n f ts ≡ Plan us → ((k : ℕ) (vs : List Task) → settle f ts ≡ After k vs → n < k) → settle_within n f ts ≡ Unsettled us
    within_left us e m = go (settle_within n f ts) refl
      where
        go : (s : Settled) → settle_within n f ts ≡ s → settle_within n f ts ≡ Unsettled us
        go Refused d = absurd (let h = sym (reached_by Refused d) ∙ e in let q : ◌≡◌ {A = ℕ} 0 1 = cc in omega arith)
        go (After k vs) d = absurd (let r = settled_within k vs d in let l = r.1 in let g = m k vs r.2 in omega arith)
        go (Unsettled vs) d = d ∙ ap Unsettled (same_plan_lem (sym (reached_by (Unsettled vs) d) ∙ e))

  -- ---- one pass more, on what so many left
  pub next_pass : (k : ℕ) (ts us : List Task) → passes k f ts ≡ Plan us → passes (suc k) f ts ≡ pass f us
  unfolding passes
  next_pass zero ts us e = then_plan (pass f ts) ∙ ap (pass f) (same_plan_lem e)
    where
      then_plan : (o : Outcome) → then o (passes 0 f) ≡ o
      then_plan NoPlan = refl
      then_plan (Plan vs) = refl
  next_pass (suc k) ts us e = go (pass f ts) e (next_pass k)
    where
      go : (o : Outcome) → then o (passes k f) ≡ Plan us → ((vs ws : List Task) → passes k f vs ≡ Plan ws → passes (suc k) f vs ≡ pass f ws) → then o (passes (suc k) f) ≡ pass f us
      go NoPlan h g = absurd (let q : ◌≡◌ {A = ℕ} 0 1 = cc in omega arith)
      go (Plan vs) h g = g vs us h

  -- ---- a pass that finds no plan comes after passes that did not
  pub first_failing : (k : ℕ) (ts : List Task) → passes k f ts ≡ NoPlan → (j : ℕ) × (j < k) × (us : List Task) × (passes j f ts ≡ Plan us) × (pass f us ≡ NoPlan)
  unfolding passes
  first_failing zero ts e = absurd (let q : ◌≡◌ {A = ℕ} 0 1 = cc in omega arith)
  first_failing (suc k) ts e = go (pass f ts) refl (first_failing k)
    where
      go : (o : Outcome) → pass f ts ≡ o → ((vs : List Task) → passes k f vs ≡ NoPlan → (j : ℕ) × (j < k) × (us : List Task) × (passes j f vs ≡ Plan us) × (pass f us ≡ NoPlan)) → (j : ℕ) × (j < suc k) × (us : List Task) × (passes j f ts ≡ Plan us) × (pass f us ≡ NoPlan)
      go NoPlan h g = (0, omega arith, ts, refl, h)
      go (Plan vs) h g =
          let r = g vs (ap (λ (o : Outcome). then o (passes k f)) (sym h) ∙ e) in
          let l = r.1 in
          (suc r.0, omega arith, r.2, ap (λ (o : Outcome). then o (passes r.0 f)) h ∙ r.3, r.4)

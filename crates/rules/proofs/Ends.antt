-- Settling ends: each pass but the last takes some room away, so there is at most one pass more than there is room, and a pass that
-- finds no plan comes within as many. So more passes than these are never made, and settling within as many is settling.
use Rattle.plan.specs.Refusals.{accepted}
use mathlib.Core.Path.{◌≡◌, refl, sym, ap, ◌∙◌, subst}
use Prim.Native.Nat.{ℕ, zero, suc, ◌≤◌, ◌<◌}
use native.Mathlib.Omega.{arith}
use mathlib.Core.Bool.{true, false}
use mathlib.Core.List.{List}
use Rattle.integers.proofs.Tests.{by_cases, if-case}
use Rattle.plan.specs.declared.Task.{Task}
use Rattle.rules.specs.Frame.{Frame}
use Rattle.rules.specs.Balance.{Outcome}
use Rattle.rules.specs.Balance.Outcome.{NoPlan, Plan}
use Rattle.rules.specs.Settle.{then, pass, same_tasks, Settled, one_pass_more, unless_same, settle_within, settle, rooms, most_passes}
use Rattle.rules.specs.Settle.Settled.{Refused, After, Unsettled}
use Rattle.rules.specs.Moves.{passes, Stops}
use Rattle.rules.specs.Calls.{check}
use Rattle.rules.specs.Keeps.{Keeps}
use Rattle.rules.proofs.Keeps.{Sound}
use Rattle.rules.proofs.Passes.{pass_sound}
use Rattle.rules.proofs.Rooms.{keeps_less, same_tasks_is}

pub same_plan_lem : {vs ws : List Task} → Plan vs ≡ Plan ws → vs ≡ ws
same_plan_lem e = cc

module _ (f : Frame) where
  -- settled after so many passes in a row, or refused by one of them, within b
  abbrev pub Ended : ℕ → List Task → Settled → Type 0
  Ended b ts Refused = (k : ℕ) × (k ≤ b) × (passes k f ts ≡ NoPlan)
  Ended b ts (After k us) = (k ≤ b) × (passes k f ts ≡ Plan us)
  Ended b ts (Unsettled us) = ⊥

  first_fails : (ts : List Task) → pass f ts ≡ NoPlan → passes 1 f ts ≡ NoPlan
  unfolding passes
  first_fails ts e = ap (λ (o : Outcome). then o (passes 0 f)) e

  first_leaves : (ts us : List Task) (k : ℕ) → pass f ts ≡ Plan us → passes (suc k) f ts ≡ passes k f us
  unfolding passes
  first_leaves ts us k e = ap (λ (o : Outcome). then o (passes k f)) e

  one_pass_lem : (ts us : List Task) → pass f ts ≡ Plan us → passes 1 f ts ≡ Plan us
  unfolding passes
  one_pass_lem ts us e = ap (λ (o : Outcome). then o (passes 0 f)) e

  more_ended : (a b : ℕ) (ts us : List Task) (s : Settled) → pass f ts ≡ Plan us → a < b → Ended a us s → Ended b ts (one_pass_more s)
  more_ended a b ts us Refused e l h =
      let k = h.0 in
      let j = h.1 in
      (suc k, omega arith, first_leaves ts us k e ∙ h.2)
  more_ended a b ts us (After k vs) e l h =
      let j = h.0 in
      (omega arith, first_leaves ts us k e ∙ h.1)
  more_ended a b ts us (Unsettled vs) e l h = h

  -- with more passes to go than room, settling ends
  pub ends_within : (n : ℕ) (ts : List Task) → check f ts ≡ accepted → rooms ts < n → Ended (most_passes ts) ts (settle_within n f ts)
  unfolding settle_within
  ends_within zero ts a h = absurd (omega arith)
  ends_within (suc n) ts a h = go (pass f ts) refl (pass_sound f ts a) (ends_within n)
    where
      go : (o : Outcome) → pass f ts ≡ o → Sound f ts o → ((us : List Task) → check f us ≡ accepted → rooms us < n → Ended (most_passes us) us (settle_within n f us)) → Ended (most_passes ts) ts (unless_same (settle_within n f) ts o)
      go NoPlan e g k = (1, omega arith, first_fails ts e)
      go (Plan us) e g k =
          if-case (Ended (most_passes ts) ts) (same_tasks ts us) (After 1 us) (one_pass_more (settle_within n f us))
          (λ q. (omega arith, one_pass_lem ts us e))
          (λ q.
          let less = keeps_less f ts us a g q in
          more_ended (most_passes us) (most_passes ts) ts us (settle_within n f us) e (omega arith) (k us g.accepted (omega arith)))

  pub settle_ends : (ts : List Task) → check f ts ≡ accepted → Ended (most_passes ts) ts (settle f ts)
  unfolding settle
  settle_ends ts a = ends_within (suc (rooms ts)) ts a (omega arith)

-- ---- settling within one pass more is a pass, and settling within so many what it left
module _ (f : Frame) (n : ℕ) (ts : List Task) where
  -- the pass finds no plan
  pub within_refused : pass f ts ≡ NoPlan → settle_within (suc n) f ts ≡ Refused
  unfolding settle_within
  within_refused e = rw e

  module _ (us : List Task) (e : pass f ts ≡ Plan us) where
    -- the pass changes nothing
    pub within_last : same_tasks ts us ≡ true → settle_within (suc n) f ts ≡ After 1 us
    unfolding settle_within
    within_last s = rw (e, s)

    -- the pass changes something
    pub within_more : same_tasks ts us ≡ false → settle_within (suc n) f ts ≡ one_pass_more (settle_within n f us)
    unfolding settle_within
    within_more s = rw (e, s)

-- ---- settling is a pass, and settling what it left
module _ (f : Frame) where
  -- any two numbers of passes above the room give the same
  same_bound : (n m : ℕ) (ts : List Task) → check f ts ≡ accepted → rooms ts < n → rooms ts < m → settle_within n f ts ≡ settle_within m f ts
  unfolding settle_within
  same_bound zero m ts a h l = absurd (omega arith)
  same_bound (suc n) zero ts a h l = absurd (omega arith)
  same_bound (suc n) (suc m) ts a h l = go (pass f ts) (pass_sound f ts a) (same_bound n m)
    where
      go : (o : Outcome) → Sound f ts o → ((us : List Task) → check f us ≡ accepted → rooms us < n → rooms us < m → settle_within n f us ≡ settle_within m f us) → unless_same (settle_within n f) ts o ≡ unless_same (settle_within m f) ts o
      go NoPlan k g = refl
      go (Plan us) k g =
          by_cases (same_tasks ts us) (λ e. rw e)
          (λ e. let less = keeps_less f ts us a k e in rw (e, g us k.accepted (omega arith) (omega arith)))

  module _ (ts : List Task) (a : check f ts ≡ accepted) where
    -- with as many passes as the bound, or more
    pub within_most : (n : ℕ) → most_passes ts ≤ n → settle_within n f ts ≡ settle f ts
    unfolding settle
    within_most n l = same_bound n (suc (rooms ts)) ts a (omega arith) (omega arith)

    pub settle_refused : pass f ts ≡ NoPlan → settle f ts ≡ Refused
    unfolding settle
    settle_refused e = within_refused f (rooms ts) ts e

    pub settle_last : (us : List Task) → pass f ts ≡ Plan us → same_tasks ts us ≡ true → settle f ts ≡ After 1 us
    unfolding settle
    settle_last us e s = within_last f (rooms ts) ts us e s

    pub settle_more : (us : List Task) → pass f ts ≡ Plan us → same_tasks ts us ≡ false → settle f ts ≡ one_pass_more (settle f us)
    unfolding settle
    settle_more us e s =
        let k : Keeps f ts us = subst (Sound f ts) e (pass_sound f ts a) in
        let l = keeps_less f ts us a k s in
        within_more f (rooms ts) ts us e s ∙ ap one_pass_more (same_bound (rooms ts) (suc (rooms us)) us k.accepted l (omega arith))

-- ---- and stops at the first pass that changes nothing
module _ (f : Frame) where
  abbrev Stopped : List Task → Settled → Type 0
  Stopped ts Refused = Unit {0}
  Stopped ts (After k us) = Stops f ts k us
  Stopped ts (Unsettled us) = Unit {0}

  -- the pass before them changed something
  stops_more : (ts us : List Task) → pass f ts ≡ Plan us → same_tasks ts us ≡ false → (k : ℕ) (ws : List Task) → Stops f us k ws → Stops f ts (suc k) ws
  unfolding passes
  stops_more ts us e q k ws h =
      let some = h.some in
      record { some = omega arith; reached = first_leaves f ts us k e ∙ h.reached; last = at_last; settled = h.settled; earlier = before }
    where
      at_last : (j : ℕ) → suc j ≡ suc k → passes j f ts ≡ Plan ws
      at_last zero l = let some = h.some in absurd (omega arith)
      at_last (suc j) l = first_leaves f ts us j e ∙ h.last j (omega arith)

      before : (j : ℕ) → suc j < suc k → (vs xs : List Task) → passes j f ts ≡ Plan vs → pass f vs ≡ Plan xs → same_tasks vs xs ≡ false
      before zero l vs xs a b =
          let s : ts ≡ vs = same_plan_lem a in
          let u : us ≡ xs = same_plan_lem (sym e ∙ ap (pass f) s ∙ b) in
          subst (λ (x : List Task). same_tasks x xs ≡ false) s (subst (λ (x : List Task). same_tasks ts x ≡ false) u q)
      before (suc j) l vs xs a b = h.earlier j (omega arith) vs xs (sym (first_leaves f ts us j e) ∙ a) b

  stopped_more : (ts us : List Task) → pass f ts ≡ Plan us → same_tasks ts us ≡ false → (s : Settled) → Stopped us s → Stopped ts (one_pass_more s)
  stopped_more ts us e q Refused h = tt
  stopped_more ts us e q (After k vs) h = stops_more ts us e q k vs h
  stopped_more ts us e q (Unsettled vs) h = tt

  stopped_once : (ts us : List Task) → pass f ts ≡ Plan us → same_tasks ts us ≡ true → Stops f ts 1 us
  unfolding passes
  stopped_once ts us e q =
      let s = same_tasks_is ts us q in
      record {
        some = omega arith;
        reached = one_pass_lem f ts us e;
        last = at_first;
        settled = subst (λ (x : List Task). pass f x ≡ Plan us) s e;
        earlier = λ j l vs ws a b. absurd (omega arith);
      }
    where
      at_first : (j : ℕ) → suc j ≡ 1 → passes j f ts ≡ Plan us
      at_first zero l = ap Plan (same_tasks_is ts us q)
      at_first (suc j) l = absurd (omega arith)

  stopped_within : (n : ℕ) (ts : List Task) → Stopped ts (settle_within n f ts)
  unfolding settle_within
  stopped_within zero ts = tt
  stopped_within (suc n) ts = go (pass f ts) refl (stopped_within n)
    where
      go : (o : Outcome) → pass f ts ≡ o → ((us : List Task) → Stopped us (settle_within n f us)) → Stopped ts (unless_same (settle_within n f) ts o)
      go NoPlan e k = tt
      go (Plan us) e k =
          if-case (Stopped ts) (same_tasks ts us) (After 1 us) (one_pass_more (settle_within n f us))
          (λ q. stopped_once ts us e q) (λ q. stopped_more ts us e q (settle_within n f us) (k us))

  pub settle_stopped : (ts : List Task) (k : ℕ) (us : List Task) → settle f ts ≡ After k us → Stops f ts k us
  unfolding settle
  settle_stopped ts k us e = subst (Stopped ts) e (stopped_within (suc (rooms ts)) ts)

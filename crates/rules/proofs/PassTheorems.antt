-- How many passes at most, of the calls over lent lists, as statements; and settling in several calls. `list_call c f ts` is the promise of the call c
-- on the frame f and the tasks ts; `most_passes ts` is 1 plus all that could be removed; `passes n f ts` are n passes in a row.
use Rattle.std.specs.Prelude.{Ok, Err}
use mathlib.Core.Path.{◌≡◌, refl, sym, ap, ◌∙◌, subst}
use Prim.Native.Nat.{ℕ, suc, ◌+◌, ◌≤◌, ◌<◌}
use native.Mathlib.Omega.{arith}
use mathlib.Core.List.{List, [], ◌∷◌}
use lib.ListN.{get_or}
use borrow.Author.Tests.{ne_eqb}
use Rattle.plan.specs.declared.Task.{Task}
use Rattle.plan.specs.declared.Call.{Call}
use Rattle.plan.specs.declared.Call.TheVariants.{Pass, Settle, Within, MostPasses}
use Rattle.plan.specs.declared.Refusal.{Refusal}
use Rattle.plan.specs.Refusals.{number, place, Told, told, told_answer, Checked, accepted}
use Rattle.plan.proofs.Refusals.{number_ends}
use Rattle.rules.specs.Frame.{Frame}
use Rattle.rules.specs.Balance.Outcome.{NoPlan, Plan}
use Rattle.rules.specs.Settle.{pass, Settled, settle_within, most_passes, settle}
use Rattle.rules.specs.Settle.Settled.{Refused, After, Unsettled}
use Rattle.rules.specs.Moves.{passes}
use Rattle.rules.specs.Calls.{check, Result, settled, call_of, ListResult, list_result, list_call}
use Rattle.rules.specs.Again.{in_all, no_count, settle_again}
use Rattle.rules.specs.Keeps.{Keeps}
use Rattle.rules.proofs.Passes.{SettledSound, settle_sound}
use Rattle.rules.proofs.Calls.{call_answered}
use Rattle.rules.proofs.Ends.{within_most}
use Rattle.rules.proofs.Within.{plus_passes, onward, within_onward, settled_within, refused_within, within_enough, within_none, within_left, next_pass, first_failing}
use Rattle.rules.proofs.Theorems.{settle_settles, settle_bound, refusal_bound, sequence_keeps, passes_are_sequence}
use Rattle.rules.proofs.CallTheorems.{entry_refused, none_accepted, settle_done, settle_none, pass_none}

-- the call, by what settling within so many passes comes to
within_call : (f : Frame) (most : ℕ) (ts : List Task) → check f ts ≡ accepted → (s : Settled) → settle_within most f ts ≡ s → list_call (Within most) f ts ≡ list_result (told_answer (settled ts s).answer) (settled ts s).tasks
unfolding list_call call_of
within_call f most ts ok s e = rw (ok, e)

-- ---- what settling came to, by what the call says
module _ (f : Frame) (ts : List Task) where
  -- told as done, so the lists passed the checks
  done_accepted : (c : Call) → (list_call c f ts).answer.number ≡ 0 → check f ts ≡ accepted
  done_accepted c h = by_check (check f ts) refl
    where
      by_check : (k : Checked) → check f ts ≡ k → check f ts ≡ accepted
      by_check (Ok _) e = e
      by_check (Err r) e =
          let n = (number_ends r).0 in
          let g = ap (λ (x : ListResult). x.answer.number) (entry_refused c f ts r e) in
          absurd (omega arith)

  module _ (ok : check f ts ≡ accepted) where
    done_settled : (k : ℕ) (us : List Task) → list_call Settle f ts ≡ list_result (told 0 (k ∷ [])) us → settle f ts ≡ After k us
    done_settled k us e = by_settle (settle f ts) refl
      where
        by_settle : (s : Settled) → settle f ts ≡ s → settle f ts ≡ After k us
        by_settle Refused h =
            let g : ◌≡◌ {A = ℕ} 7 0 = ap (λ (r : ListResult). r.answer.number) (sym (settle_none f ts ok h) ∙ e) in
            absurd (omega arith)
        by_settle (After j vs) h =
            let same = sym (settle_done f ts ok j vs h) ∙ e in
            h ∙ ap (λ (r : ListResult). After (get_or r.answer.values 0 0) r.tasks) same
        by_settle (Unsettled vs) h = absurd (settle_settles f ts ok vs h)

    none_refused : (list_call Settle f ts).answer.number ≡ 7 → settle f ts ≡ Refused
    none_refused e = by_settle (settle f ts) refl
      where
        by_settle : (s : Settled) → settle f ts ≡ s → settle f ts ≡ Refused
        by_settle Refused h = h
        by_settle (After j vs) h =
            let g : ◌≡◌ {A = ℕ} 0 7 = ap (λ (r : ListResult). r.answer.number) (sym (settle_done f ts ok j vs h)) ∙ e in
            absurd (omega arith)
        by_settle (Unsettled vs) h = absurd (settle_settles f ts ok vs h)

    -- the pass that finds no plan, and the one before it
    fails : settle f ts ≡ Refused → (k : ℕ) × (k < most_passes ts) × (us : List Task) × (passes k f ts ≡ Plan us) × (pass f us ≡ NoPlan)
    fails h =
        let b = refusal_bound f ts ok h in
        let l = b.1 in
        let r = first_failing f b.0 ts b.2 in
        let m = r.1 in
        (r.0, omega arith, r.2, r.3, r.4)

-- ---- "How many passes at most", of any lists
module _ (f : Frame) (ts : List Task) where
  -- the call that asks for it
  pub most_done : check f ts ≡ accepted → list_call MostPasses f ts ≡ list_result (told 0 (most_passes ts ∷ [])) ts
  unfolding list_call call_of
  most_done ok = rw ok

  -- "the reported pass count at most 1 plus all that could be removed"
  pub count_bound : (k : ℕ) (us : List Task) → list_call Settle f ts ≡ list_result (told 0 (k ∷ [])) us → k ≤ most_passes ts
  count_bound k us e =
      let ok = done_accepted f ts Settle (ap (λ (r : ListResult). r.answer.number) e) in
      (settle_bound f ts ok k us (done_settled f ts ok k us e)).0

  -- "where settling ends in no plan, the failing pass comes within the same number": the call that makes it is refused, and those before were not
  pub failing_pass : (list_call Settle f ts).answer.number ≡ 7 → (k : ℕ) × (k < most_passes ts) × (us : List Task) × (passes k f ts ≡ Plan us) × (list_call Pass f us ≡ list_result (told 7 (0 ∷ [])) us)
  failing_pass e =
      let ok = none_accepted Settle f ts e in
      let r = fails f ts ok (none_refused f ts ok e) in
      let kept = sequence_keeps f ts ok _ r.2 (sym (passes_are_sequence f ts r.0) ∙ r.3) in
      (r.0, r.1, r.2, r.3, pass_none f r.2 kept.accepted r.4)

  -- so settling within the passes before it is not refused, and within one more it is
  pub failing_within : (list_call Settle f ts).answer.number ≡ 7 → (k : ℕ) × (k < most_passes ts) × ((list_call (Within k) f ts).answer ≡ no_count) × ((list_call (Within (suc k)) f ts).answer ≡ told 7 (0 ∷ []))
  unfolding list_call call_of
  failing_within e =
      let ok = none_accepted Settle f ts e in
      let s = none_refused f ts ok e in
      let r = fails f ts ok s in
      let less = within_left f r.0 ts ok r.2 r.3 (λ j vs g. absurd (refused_after (sym s ∙ g))) in
      let next = within_none f (suc r.0) ts ok (next_pass f r.0 ts r.2 r.3 ∙ r.4) in
      (r.0, r.1, rw (ok, less), rw (ok, next))
    where
      refused_after : {k : ℕ} {us : List Task} → Refused ≡ After k us → ⊥
      refused_after h = let q : ◌≡◌ {A = ℕ} 0 1 = cc in omega arith

-- ---- settling within so many passes, of any lists
module _ (f : Frame) (ts : List Task) (most : ℕ) where
  -- where it is settling on lists that pass the checks, it is settling
  by_entry : (check f ts ≡ accepted → settle_within most f ts ≡ settle f ts) → call_of (Within most) f ts ≡ call_of Settle f ts
  unfolding call_of
  by_entry h = by_check (check f ts) refl
    where
      by_check : (k : Checked) → check f ts ≡ k → call_of (Within most) f ts ≡ call_of Settle f ts
      by_check (Ok _) e = rw (e, h e)
      by_check (Err r) e = rw e

  -- with as many passes as the bound, or more
  pub call_within : most_passes ts ≤ most → call_of (Within most) f ts ≡ call_of Settle f ts
  call_within l = by_entry (λ ok. within_most f ts ok most l)

  pub within_bound : most_passes ts ≤ most → list_call (Within most) f ts ≡ list_call Settle f ts
  unfolding list_call
  within_bound l = rw (call_within l)

  -- with as many as settling counts, or more
  pub call_counted : (k : ℕ) (us : List Task) → list_call Settle f ts ≡ list_result (told 0 (k ∷ [])) us → k ≤ most → call_of (Within most) f ts ≡ call_of Settle f ts
  call_counted k us e l =
      by_entry λ ok.
      let s = done_settled f ts ok k us e in
      within_enough f most ts ok k us s l ∙ sym s

  pub within_done : (k : ℕ) (us : List Task) → list_call Settle f ts ≡ list_result (told 0 (k ∷ [])) us → k ≤ most → list_call (Within most) f ts ≡ list_call Settle f ts
  unfolding list_call
  within_done k us e l = rw (call_counted k us e l)

  -- whatever else than "no count" it answers, settling answers too, and leaves what it leaves
  pub call_told : ((call_of (Within most) f ts).answer ≡ Ok 0 → ⊥) → call_of (Within most) f ts ≡ call_of Settle f ts
  call_told h = by_entry (λ ok. by_within ok (settle_within most f ts) refl)
    where
      by_within : (ok : check f ts ≡ accepted) (s : Settled) → settle_within most f ts ≡ s → settle_within most f ts ≡ settle f ts
      by_within ok Refused e = e ∙ sym (refused_within f most ts ok e)
      by_within ok (After k us) e = e ∙ sym (settled_within f most ts ok k us e).2
      by_within ok (Unsettled us) e =
          absurd (h (ap (λ (x : Result). x.answer) (call_answered (Within most) f ts ok refl ∙ ap (settled ts) e)))

  pub within_told : ((list_call (Within most) f ts).answer ≡ no_count → ⊥) → list_call (Within most) f ts ≡ list_call Settle f ts
  unfolding list_call
  within_told h = rw (call_told (λ e. h (ap told_answer e)))

  -- 7, if one of so many passes finds no plan
  pub within_fails : check f ts ≡ accepted → passes most f ts ≡ NoPlan → list_call (Within most) f ts ≡ list_result (told 7 (0 ∷ [])) ts
  unfolding list_call call_of
  within_fails ok e = rw (ok, within_none f most ts ok e)

  -- else, if settling counts more, or none, the plan after so many passes, with a count of 0
  pub within_leaves : check f ts ≡ accepted → (us : List Task) → passes most f ts ≡ Plan us → ((k : ℕ) (vs : List Task) → list_call Settle f ts ≡ list_result (told 0 (k ∷ [])) vs → most < k) → list_call (Within most) f ts ≡ list_result no_count us
  within_leaves ok us e m = leaves (within_left f most ts ok us e (λ k vs s. m k vs (settle_done f ts ok k vs s)))
    where
      leaves : settle_within most f ts ≡ Unsettled us → list_call (Within most) f ts ≡ list_result no_count us
      leaves h = within_call f most ts ok (Unsettled us) h

-- ---- calling it again and again, each time with what it left
-- what the calls come to, by what settling within all their passes comes to
abbrev Comes : ℕ → Settled → ListResult → Type 0
Comes before Refused r = r.answer ≡ told 7 (0 ∷ [])
Comes before (After k us) r = r ≡ list_result (told 0 ((before + k) ∷ [])) us
Comes before (Unsettled us) r = r ≡ list_result no_count us

comes_plus : (before m : ℕ) (s : Settled) (r : ListResult) → Comes (before + m) s r → Comes before (plus_passes m s) r
comes_plus before m Refused r h = h
comes_plus before m (After k us) r h =
    let e : before + m + k ≡ before + (m + k) = omega arith in
    h ∙ ap (λ (n : ℕ). list_result (told 0 (n ∷ [])) us) e
comes_plus before m (Unsettled us) r h = h

module _ (f : Frame) where
  again_comes : (mosts : List ℕ) (before : ℕ) (ts : List Task) → check f ts ≡ accepted → Comes before (settle_within (in_all mosts) f ts) (settle_again before mosts f ts)
  unfolding settle_within in_all settle_again
  again_comes [] before ts ok = refl
  again_comes (m ∷ mosts) before ts ok =
      subst (λ (s : Settled). Comes before s (settle_again before (m ∷ mosts) f ts)) (sym (within_onward f m (in_all mosts) ts))
      (go (settle_within m f ts) refl (again_comes mosts (before + m)))
    where
      go : (s : Settled) → settle_within m f ts ≡ s → ((us : List Task) → check f us ≡ accepted → Comes (before + m) (settle_within (in_all mosts) f us) (settle_again (before + m) mosts f us)) → Comes before (onward m (settle_within (in_all mosts) f) s) (settle_again before (m ∷ mosts) f ts)
      go Refused e k = rw (within_call f m ts ok Refused e)
      go (After j us) e k =
          let some = (settled_within f m ts ok j us e).0 in
          rw (within_call f m ts ok (After j us) e, ne_eqb j 0 (λ h. omega arith))
      go (Unsettled us) e k =
          let kept : Keeps f ts us = subst (SettledSound f ts) e (settle_sound m f ts ok) in
          rw (within_call f m ts ok (Unsettled us) e)
          (comes_plus before m (settle_within (in_all mosts) f us) (settle_again (before + m) mosts f us) (k us kept.accepted))

-- calls of so many passes at most, on any lists, with none made before
module _ (f : Frame) (ts : List Task) where
  -- lists that the checks refuse are refused by the first of them
  first_refuses : (e : Refusal) → check f ts ≡ Err e → (most : ℕ) (mosts : List ℕ) → settle_again 0 (most ∷ mosts) f ts ≡ list_result (told (number e) (place e ∷ [])) ts
  unfolding settle_again
  first_refuses e h most mosts =
      let n = (number_ends e).0 in
      rw (entry_refused (Within most) f ts e h, ne_eqb (number e) 0 (λ z. omega arith))

  module _ (mosts : List ℕ) where
    abbrev again : ListResult
    again = settle_again 0 mosts f ts

    abbrev Settles : Type 0
    Settles = (again.answer ≡ (list_call Settle f ts).answer) × (again.answer.number ≡ 0 → again.tasks ≡ (list_call Settle f ts).tasks)

    refused_settles : (e : Refusal) → check f ts ≡ Err e → again ≡ list_result (told (number e) (place e ∷ [])) ts → Settles
    refused_settles e h g =
        let n = (number_ends e).0 in
        let m = ap (λ (r : ListResult). r.answer.number) g in
        (ap (λ (r : ListResult). r.answer) (g ∙ sym (entry_refused Settle f ts e h)), λ z. absurd (omega arith))

    accepted_settles : check f ts ≡ accepted → (again.answer ≡ no_count → ⊥) → Settles
    accepted_settles ok reported = go (settle_within (in_all mosts) f ts) refl (again_comes f mosts 0 ts ok)
      where
        go : (s : Settled) → settle_within (in_all mosts) f ts ≡ s → Comes 0 s again → Settles
        go Refused e h =
            let s = settle_none f ts ok (refused_within f (in_all mosts) ts ok e) in
            (h ∙ sym (ap (λ (r : ListResult). r.answer) s), λ z. let q : ◌≡◌ {A = ℕ} 7 0 = sym (ap (λ (a : Told). a.number) h) ∙ z in absurd (omega arith))
        go (After k us) e h =
            let l : 0 + k ≡ k = omega arith in
            let s = settle_done f ts ok k us (settled_within f (in_all mosts) ts ok k us e).2 in
            let same = h ∙ ap (λ (n : ℕ). list_result (told 0 (n ∷ [])) us) l ∙ sym s in
            (ap (λ (r : ListResult). r.answer) same, λ z. ap (λ (r : ListResult). r.tasks) same)
        go (Unsettled us) e h = absurd (reported (ap (λ (r : ListResult). r.answer) h))

    accepted_ends : check f ts ≡ accepted → most_passes ts ≤ in_all mosts → again.answer ≡ no_count → ⊥
    accepted_ends ok l c = go (settle_within (in_all mosts) f ts) (within_most f ts ok (in_all mosts) l) refl (again_comes f mosts 0 ts ok)
      where
        go : (s : Settled) → settle_within (in_all mosts) f ts ≡ settle f ts → settle_within (in_all mosts) f ts ≡ s → Comes 0 s again → ⊥
        go Refused d e h = let q : ◌≡◌ {A = ℕ} 7 0 = ap (λ (a : Told). a.number) (sym h ∙ c) in omega arith
        go (After k us) d e h =
            let some = (settled_within f (in_all mosts) ts ok k us e).0 in
            let q : 0 + k ≡ 0 = ap (λ (a : Told). get_or a.values 0 0) (sym (ap (λ (r : ListResult). r.answer) h) ∙ c) in
            omega arith
        go (Unsettled us) d e h = settle_settles f ts ok us (sym d ∙ e)

  -- until one reports a count or is refused: that is what settling reports, the passes of all calls added up, and, unless it is refused, what it leaves
  pub again_settles : (mosts : List ℕ) → ((again mosts).answer ≡ no_count → ⊥) → ((again mosts).answer ≡ (list_call Settle f ts).answer) × ((again mosts).answer.number ≡ 0 → (again mosts).tasks ≡ (list_call Settle f ts).tasks)
  unfolding settle_again
  again_settles mosts reported = by_check (check f ts) refl mosts reported
    where
      by_check : (k : Checked) → check f ts ≡ k → (ms : List ℕ) → ((again ms).answer ≡ no_count → ⊥) → Settles ms
      by_check (Ok _) e ms r = accepted_settles ms e r
      by_check (Err e) h [] r = absurd (r refl)
      by_check (Err e) h (m ∷ ms) r = refused_settles (m ∷ ms) e h (first_refuses e h m ms)

  -- and one does, once they may make as many passes as the bound
  pub again_ends : (mosts : List ℕ) → most_passes ts ≤ in_all mosts → (again mosts).answer ≡ no_count → ⊥
  unfolding in_all
  again_ends mosts l c = by_check (check f ts) refl mosts l c
    where
      by_check : (k : Checked) → check f ts ≡ k → (ms : List ℕ) → most_passes ts ≤ in_all ms → (again ms).answer ≡ no_count → ⊥
      by_check (Ok _) e ms l c = accepted_ends ms e l c
      by_check (Err e) h [] l c = omega arith
      by_check (Err e) h (m ∷ ms) l c =
          let n = (number_ends e).0 in
          let q = ap (λ (a : Told). a.number) (sym (ap (λ (r : ListResult). r.answer) (first_refuses e h m ms)) ∙ c) in
          omega arith

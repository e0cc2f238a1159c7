-- How many passes at most, of the calls on plan files, as statements; and settling a file in several calls. `most_file file` is what
-- gristwaltz_most_passes answers, `file_call (Within most) file out` the promise of gristwaltz_settle_within.
use Rattle.std.specs.Prelude.{Ok, Err}
use mathlib.Core.Path.{◌≡◌, refl, sym, ap, ◌∙◌, subst}
use mathlib.Core.Bool.{true}
use mathlib.Core.List.{List, [], ◌∷◌}
use Prim.Native.Nat.{ℕ, suc, ◌+◌, ◌*◌, ◌/◌, ◌^◌, ◌≤◌, ◌<◌}
use native.Mathlib.Omega.{arith}
use lib.Dec.{ltb}
use lib.ListN.{length}
use borrow.Author.Tests.{ltb-true, ltb-false, ne_eqb}
use Rattle.integers.proofs.Tests.{by_cases}
use Rattle.integers.specs.Lists.Each.{also}
use Rattle.plan.specs.declared.Task.{Task}
use Rattle.plan.specs.declared.Call.{Call}
use Rattle.plan.specs.declared.Call.TheVariants.{Check, Settle, Within, MostPasses}
use Rattle.plan.specs.declared.Refusal.{Refusal}
use Rattle.plan.specs.Refusals.{number, Told, told, told_answer, Answer, Checked, accepted}
use Rattle.plan.proofs.Refusals.{number_ends}
use Rattle.rules.specs.Frame.{Frame, resource_count}
use Rattle.rules.specs.Settle.{Settled, settle_within, most_passes, settle}
use Rattle.rules.specs.Calls.{settled, ListResult, list_result, placed_in, call_of, list_call}
use Rattle.rules.specs.Again.{in_all, no_count, settle_again}
use Rattle.rules.specs.Keeps.{Keeps}
use Rattle.rules.proofs.Subs.{subs_length}
use Rattle.rules.proofs.Passes.{SettledSound, settle_sound}
use Rattle.rules.proofs.Calls.{call_answered}
use Rattle.rules.proofs.Within.{settled_within}
use Rattle.rules.proofs.Theorems.{settle_settles, settle_stops}
use Rattle.rules.proofs.Bounds.{settle_small}
use Rattle.rules.proofs.CallTheorems.{check_done, settle_done, settle_none}
use Rattle.rules.proofs.PassTheorems.{call_within, call_counted, call_told, most_done, count_bound, failing_within, again_settles, again_ends}
use Rattle.format.specs.Numbers.{AllBytes}
use Rattle.format.specs.Format.{file_length}
use Rattle.format.specs.Reading.{Read, read_plan}
use Rattle.format.specs.Writing.{written, room_for, Good}
use Rattle.format.proofs.Files.{length_written}
use Rattle.format.proofs.RoundTrip.{accepted_written}
use Rattle.answers.specs.Files.{answer_number, one_number, FileResult, file_result, after_read, answer_file, lent_due, plan_call, plan_file, file_call, read_number, check_file, most_file, refusal_in, file_left, Part, mosts, Roomy, settle_file_again}
use Rattle.answers.specs.Outcomes.{read_outcome, Apart}
use Rattle.answers.proofs.Answers.{call_apart}
use Rattle.answers.proofs.FileTheorems.{file_call_lem, file_refuses, file_short, good_left}
use Rattle.answers.proofs.GoesOn.{call_left, call_number}

-- ---- any file: with as many passes as the bound, or more, settling within them is settling, refusals too
pub file_within_bound : (file out : List ℕ) (most : ℕ) → most_file file ≤ most → file_call (Within most) file out ≡ file_call Settle file out
unfolding file_call most_file plan_call lent_due
file_within_bound file out most l = by_read (read_plan file) l
  where
    by_read : (x : Read) → read_number most_passes x ≤ most → after_read (Within most) out x ≡ after_read Settle out x
    by_read (Read.Plan f ts) l = rw (call_within f ts most l)
    by_read (Read.Refuse e) l = refl

-- ---- where the output is too short both calls are refused alike; else they are the calls over lists
same_file : (f : Frame) (ts : List Task) (most : ℕ) (out : List ℕ) → (room_for (length (written f ts)) (length out) ≡ accepted → call_of (Within most) f ts ≡ call_of Settle f ts) → plan_file (Within most) f ts out ≡ plan_file Settle f ts out
unfolding plan_call lent_due
same_file f ts most out h = by_room (room_for (length (written f ts)) (length out)) refl
  where
    by_room : (k : Checked) → room_for (length (written f ts)) (length out) ≡ k → plan_file (Within most) f ts out ≡ plan_file Settle f ts out
    by_room (Ok _) e = rw (e, h e)
    by_room (Err r) e = rw e

roomy_number : (c : Call) (f : Frame) (ts : List Task) (out : List ℕ) → placed_in (resource_count f) c ≡ true → room_for (length (written f ts)) (length out) ≡ accepted → (plan_call c f ts out).answer ≡ (call_of c f ts).answer
unfolding plan_call lent_due
roomy_number c f ts out p e = rw (p, e)

-- what the call over lists says, where it is done
done_list : (f : Frame) (ts : List Task) (n : ℕ) → (call_of Settle f ts).answer ≡ Ok n → list_call Settle f ts ≡ list_result (told 0 (n ∷ [])) (call_of Settle f ts).tasks
unfolding list_call
done_list f ts n e = rw e

not_done : {P : Type 0} (e : Refusal) (n : ℕ) → ◌≡◌ {A = Answer} (Err e) (Ok n) → P
not_done e n h = let q : ◌≡◌ {A = ℕ} 0 1 = cc in absurd (omega arith)

-- settling that is not refused: the plan, that there is room for it, and the count
module _ (file out : List ℕ) where
  abbrev count : ℕ
  count = (file_call Settle file out).answer

  by_answer : (f : Frame) (ts : List Task) → refusal_in count ≡ 0 → (a : Answer) → (plan_call Settle f ts out).answer ≡ a → Apart count a → (plan_call Settle f ts out).answer ≡ Ok count
  by_answer f ts d (Ok n) e h = e ∙ ap Ok (sym h.0)
  by_answer f ts d (Err r) e h = let n = (number_ends r).0 in let q = h.0 in absurd (omega arith)

  plan_count : (f : Frame) (ts : List Task) → read_plan file ≡ Read.Plan f ts → refusal_in count ≡ 0 → (plan_call Settle f ts out).answer ≡ Ok count
  plan_count f ts e d =
      by_answer f ts d (plan_call Settle f ts out).answer refl (subst (λ (x : Read). Apart count (read_outcome Settle out x)) e (call_apart Settle file out))

  list_count : (f : Frame) (ts : List Task) → read_plan file ≡ Read.Plan f ts → refusal_in count ≡ 0 → (call_of Settle f ts).answer ≡ Ok count
  unfolding plan_call lent_due
  list_count f ts e d = by_room (room_for (length (written f ts)) (length out)) refl (plan_count f ts e d)
    where
      by_room : (k : Checked) → room_for (length (written f ts)) (length out) ≡ k → (plan_call Settle f ts out).answer ≡ Ok count → (call_of Settle f ts).answer ≡ Ok count
      by_room (Ok _) g h = sym (roomy_number Settle f ts out refl g) ∙ h
      by_room (Err r) g h = not_done r count (rw g at h)

  -- "the reported pass count at most 1 plus all that could be removed": what settling answers where nothing is refused
  pub file_count_bound : refusal_in (file_call Settle file out).answer ≡ 0 → (file_call Settle file out).answer ≤ most_file file
  unfolding most_file
  file_count_bound d = by_read (read_plan file) refl
    where
      by_read : (x : Read) → read_plan file ≡ x → count ≤ read_number most_passes x
      by_read (Read.Plan f ts) e = count_bound f ts count (call_of Settle f ts).tasks (done_list f ts count (list_count f ts e d))
      by_read (Read.Refuse r) e =
          let n = (number_ends r).0 in
          let h : Apart count (Err r) = subst (λ (x : Read). Apart count (read_outcome Settle out x)) e (call_apart Settle file out) in
          let q = h.0 in
          absurd (omega arith)

  -- with as many passes as settling counts, or more, settling within them is settling
  pub file_within_done : (most : ℕ) → refusal_in (file_call Settle file out).answer ≡ 0 → (file_call Settle file out).answer ≤ most → file_call (Within most) file out ≡ file_call Settle file out
  unfolding file_call
  file_within_done most d l = by_read (read_plan file) refl
    where
      by_read : (x : Read) → read_plan file ≡ x → after_read (Within most) out x ≡ after_read Settle out x
      by_read (Read.Plan f ts) e =
          same_file f ts most out (λ g. call_counted f ts most count (call_of Settle f ts).tasks (done_list f ts count (list_count f ts e d)) l)
      by_read (Read.Refuse r) e = refl

  -- and whatever else than 0 it answers, settling answers too, and leaves what it leaves
  pub file_within_told : (most : ℕ) → ((file_call (Within most) file out).answer ≡ 0 → ⊥) → file_call (Within most) file out ≡ file_call Settle file out
  unfolding file_call
  file_within_told most h = by_read (read_plan file) h
    where
      by_read : (x : Read) → ((after_read (Within most) out x).answer ≡ 0 → ⊥) → after_read (Within most) out x ≡ after_read Settle out x
      by_read (Read.Plan f ts) h =
          same_file f ts most out (λ g. call_told f ts most (λ e. h (ap (λ (a : Answer). (answer_file f out a (plan_call (Within most) f ts out).tasks).answer) (roomy_number (Within most) f ts out refl g ∙ e))))
      by_read (Read.Refuse r) h = refl

-- ---- a call on the writing of a plan that passes the checks, by what settling within so many passes comes to
module _ (f : Frame) (ts : List Task) (g : Good f ts) (most : ℕ) (s : Settled) (e : settle_within most f ts ≡ s) where
  within_result : call_of (Within most) f ts ≡ settled ts s
  within_result = call_answered (Within most) f ts g.passes refl ∙ ap (settled ts) e

  within_list : list_call (Within most) f ts ≡ list_result (told_answer (settled ts s).answer) (settled ts s).tasks
  unfolding list_call
  within_list = rw within_result

  module _ (out : List ℕ) (l : length (written f ts) ≤ length out) where
    within_number : (file_call (Within most) (written f ts) out).answer ≡ one_number (told_answer (settled ts s).answer)
    within_number = call_number f ts g (Within most) out refl l (settled ts s) within_result

    within_file : file_left (Within most) (written f ts) out ≡ written f (settled ts s).tasks
    within_file = call_left f ts g (Within most) out refl l (settled ts s) within_result

same_length : (f : Frame) (ts us : List Task) → Keeps f ts us → length (written f us) ≡ length (written f ts)
same_length f ts us k =
    length_written f us ∙ ap (λ (n : ℕ). file_length (resource_count f) (length f.bands) n) (subs_length k.inside) ∙ sym (length_written f ts)

-- the calls on files come to what the calls over lists come to
again_written : (f : Frame) (parts : List Part) (before : ℕ) (ts : List Task) → Good f ts → Roomy (length (written f ts)) parts → settle_file_again before parts (written f ts) ≡ file_result (one_number (settle_again before (mosts parts) f ts).answer) (written f (settle_again before (mosts parts) f ts).tasks)
unfolding settle_file_again settle_again
again_written f [] before ts g r = refl
again_written f (p ∷ parts) before ts g (also l r) = go (settle_within p.most f ts) refl (again_written f parts (before + p.most))
  where
    go : (s : Settled) → settle_within p.most f ts ≡ s → ((us : List Task) → Good f us → Roomy (length (written f us)) parts → settle_file_again (before + p.most) parts (written f us) ≡ file_result (one_number (settle_again (before + p.most) (mosts parts) f us).answer) (written f (settle_again (before + p.most) (mosts parts) f us).tasks)) → settle_file_again before (p ∷ parts) (written f ts) ≡ file_result (one_number (settle_again before (mosts (p ∷ parts)) f ts).answer) (written f (settle_again before (mosts (p ∷ parts)) f ts).tasks)
    go Settled.Refused e k =
        rw (within_list f ts g p.most Settled.Refused e, within_number f ts g p.most Settled.Refused e p.out l, within_file f ts g p.most Settled.Refused e p.out l)
    go (Settled.After j us) e k =
        let x = settled_within f p.most ts g.passes j us e in
        let some = x.0 in
        let few = settle_small f ts g.passes j us x.2 in
        let w = within_number f ts g p.most (Settled.After j us) e p.out l in
        let n : (file_call (Within p.most) (written f ts) p.out).answer ≡ j = omega (arith, w) in
        let none : j / 2 ^ 32 ≡ 0 = omega arith in
        let sum : before + j ≡ 0 * 2 ^ 32 + (before + j) = omega arith in
        rw (within_list f ts g p.most (Settled.After j us) e, n, within_file f ts g p.most (Settled.After j us) e p.out l, ne_eqb j 0 (λ h. omega arith), none)
        (ap (λ (m : ℕ). file_result m (written f us)) sum)
    go (Settled.Unsettled us) e k =
        let kept : Keeps f ts us = subst (SettledSound f ts) e (settle_sound p.most f ts g.passes) in
        let w = within_number f ts g p.most (Settled.Unsettled us) e p.out l in
        let n : (file_call (Within p.most) (written f ts) p.out).answer ≡ 0 = omega (arith, w) in
        rw (within_list f ts g p.most (Settled.Unsettled us) e, n, within_file f ts g p.most (Settled.Unsettled us) e p.out l)
        (k us (good_left f ts us g kept) (subst (λ (m : ℕ). Roomy m parts) (sym (same_length f ts us kept)) r))

-- ---- a lent file that holds a plan
module _ (file : List ℕ) (bytes : AllBytes file) (f : Frame) (ts : List Task) (plan : read_plan file ≡ Read.Plan f ts) where
  good : Good f ts × (written f ts ≡ file)
  good = accepted_written file bytes f ts plan

  -- the bound and the check are those of the calls over the lists that the file holds
  pub file_most : (most_file file ≡ most_passes ts) × (most_file file ≡ one_number (list_call MostPasses f ts).answer)
  unfolding most_file
  file_most =
      let sum : most_passes ts ≡ 0 * 2 ^ 32 + most_passes ts = omega arith in
      (rw plan, rw (plan, most_done f ts good.0.passes) sum)

  pub file_check : check_file file ≡ one_number (list_call Check f ts).answer
  unfolding check_file
  file_check = rw (plan, check_done f ts good.0.passes)

  -- what settling answers, with room
  module _ (a : List ℕ) (l : length file ≤ length a) where
    settle_number : (file_call Settle file a).answer ≡ one_number (list_call Settle f ts).answer
    settle_number = (file_call_lem file bytes f ts plan Settle a refl l).0

    settle_left : file_left Settle file a ≡ written f (list_call Settle f ts).tasks
    unfolding list_call
    settle_left =
        subst (λ (b : List ℕ). length b ≤ length a → file_left Settle b a ≡ written f (call_of Settle f ts).tasks)
        good.1 (λ k. call_left f ts good.0 Settle a refl k (call_of Settle f ts) refl) l

    by_settle : {P : Type 0} → ((file_call Settle file a).answer ≡ 7 * 2 ^ 32 → (list_call Settle f ts).answer.number ≡ 7 → P) → ((k : ℕ) → 1 ≤ k → k < 2 ^ 32 → (file_call Settle file a).answer ≡ k → (list_call Settle f ts).answer.number ≡ 0 → P) → P
    by_settle {P} none some = go (settle f ts) refl
      where
        go : (s : Settled) → settle f ts ≡ s → P
        go Settled.Refused e =
            let r = settle_none f ts good.0.passes e in
            none (settle_number ∙ ap (λ (x : ListResult). one_number x.answer) r ∙ omega arith) (ap (λ (x : ListResult). x.answer.number) r)
        go (Settled.After k us) e =
            let r = settle_done f ts good.0.passes k us e in
            let n = settle_number ∙ ap (λ (x : ListResult). one_number x.answer) r in
            some k (settle_stops f ts good.0.passes k us e).some (settle_small f ts good.0.passes k us e) (omega (arith, n)) (ap (λ (x : ListResult). x.answer.number) r)
        go (Settled.Unsettled us) e = absurd (settle_settles f ts good.0.passes us e)

    plan_failing : refusal_in (file_call Settle file a).answer ≡ 7 → (k : ℕ) × (k < most_file file) × ((file_call (Within k) file a).answer ≡ 0) × (refusal_in (file_call (Within (suc k)) file a).answer ≡ 7)
    plan_failing d =
        by_settle
        (λ n h.
        let r = failing_within f ts h in
        let k = r.0 in
        let less = r.1 in
        let most = file_most.0 in
        let before = (file_call_lem file bytes f ts plan (Within k) a refl l).0 ∙ ap one_number r.2 in
        let at = (file_call_lem file bytes f ts plan (Within (suc k)) a refl l).0 ∙ ap one_number r.3 in
        (k, omega arith, before, omega arith))
        (λ k some few n h. absurd (omega arith))

    module _ (parts : List Part) (r : Roomy (length file) parts) where
      abbrev again : FileResult
      again = settle_file_again 0 parts file

      as_lists : again ≡ file_result (one_number (settle_again 0 (mosts parts) f ts).answer) (written f (settle_again 0 (mosts parts) f ts).tasks)
      as_lists =
          subst (λ (b : List ℕ). Roomy (length b) parts → settle_file_again 0 parts b ≡ file_result (one_number (settle_again 0 (mosts parts) f ts).answer) (written f (settle_again 0 (mosts parts) f ts).tasks))
          good.1 (again_written f parts 0 ts good.0) r

      again_number : ((settle_again 0 (mosts parts) f ts).answer ≡ no_count → ⊥) → again.answer ≡ (file_call Settle file a).answer
      again_number reported =
          ap (λ (x : FileResult). x.answer) as_lists ∙ ap one_number (again_settles f ts (mosts parts) reported).0 ∙ sym settle_number

      plan_settles : (again.answer ≡ 0 → ⊥) → (again.answer ≡ (file_call Settle file a).answer) × (refusal_in again.answer ≡ 0 → again.out ≡ file_left Settle file a)
      plan_settles answered =
          let reported : (settle_again 0 (mosts parts) f ts).answer ≡ no_count → ⊥ =
          λ h. answered (ap (λ (x : FileResult). x.answer) as_lists ∙ ap one_number h) in
          let s = again_settles f ts (mosts parts) reported in
          let n = again_number reported in
          (n, λ z. ap (λ (x : FileResult). x.out) as_lists ∙ ap (written f) (s.1 (ap (λ (t : Told). t.number) s.0 ∙ by_settle (λ m h. absurd (omega arith)) (λ k some few m h. h))) ∙ sym settle_left)

      plan_ends : most_file file ≤ in_all (mosts parts) → again.answer ≡ 0 → ⊥
      plan_ends m c =
          let most = file_most.0 in
          let n = again_number (again_ends f ts (mosts parts) (omega arith)) in
          by_settle (λ h j. omega arith) (λ k some few h j. omega arith)

-- ---- any lent file
module _ (file : List ℕ) (bytes : AllBytes file) (out : List ℕ) where
  -- "where settling ends in no plan, the failing pass comes within the same number": within the passes before it the
  -- answer is 0, within one more 7
  pub file_failing : refusal_in (file_call Settle file out).answer ≡ 7 → (k : ℕ) × (k < most_file file) × ((file_call (Within k) file out).answer ≡ 0) × (refusal_in (file_call (Within (suc k)) file out).answer ≡ 7)
  file_failing d =
      let p = file_refuses file out Settle d in
      let f = p.0 in
      let ts = p.1 in
      by_cases (ltb (length out) (length file))
      (λ e.
      let s = ap (λ (x : FileResult). x.answer) (file_short file bytes f ts p.2 Settle refl out (ltb-true (length out) (length file) e)) in
      absurd (omega arith))
      (λ e. plan_failing file bytes f ts p.2 out (ltb-false (length out) (length file) e) d)

  -- calling it again and again, each time with what it wrote, every output with room
  module _ (l : length file ≤ length out) where
    -- a file that is refused is refused by the first call
    first_refuses : (e : Refusal) → read_plan file ≡ Read.Refuse e → (p : Part) (parts : List Part) → ((settle_file_again 0 (p ∷ parts) file).answer ≡ (file_call Settle file out).answer) × (refusal_in (file_call Settle file out).answer ≡ number e)
    unfolding settle_file_again file_call
    first_refuses e h p parts =
        let n = (number_ends e).0 in
        let a = answer_number (Err e) in
        let refused : refusal_in a ≡ number e = omega arith in
        (rw (h, ne_eqb a 0 (λ z. omega arith), ne_eqb (refusal_in a) 0 (λ z. omega arith)), rw h refused)

    -- until it answers something else than 0: that is what settling answers, the passes of all calls added up, and, unless it is refused, the file that it leaves
    pub file_again_settles : (parts : List Part) → Roomy (length file) parts → ((settle_file_again 0 parts file).answer ≡ 0 → ⊥) → ((settle_file_again 0 parts file).answer ≡ (file_call Settle file out).answer) × (refusal_in (settle_file_again 0 parts file).answer ≡ 0 → (settle_file_again 0 parts file).out ≡ file_left Settle file out)
    unfolding settle_file_again
    file_again_settles parts r answered = by_read (read_plan file) refl parts r answered
      where
        by_read : (x : Read) → read_plan file ≡ x → (ps : List Part) → Roomy (length file) ps → ((settle_file_again 0 ps file).answer ≡ 0 → ⊥) → ((settle_file_again 0 ps file).answer ≡ (file_call Settle file out).answer) × (refusal_in (settle_file_again 0 ps file).answer ≡ 0 → (settle_file_again 0 ps file).out ≡ file_left Settle file out)
        by_read (Read.Plan f ts) e ps r h = plan_settles file bytes f ts e out l ps r h
        by_read (Read.Refuse e) g [] r h = absurd (h refl)
        by_read (Read.Refuse e) g (p ∷ ps) r h =
            let s = first_refuses e g p ps in
            let n = (number_ends e).0 in
            let m = s.1 in
            let q = s.0 in
            (q, λ z. absurd (omega arith))

    -- and it does, once the calls may make as many passes as the bound
    pub file_again_ends : (parts : List Part) → Roomy (length file) parts → most_file file ≤ in_all (mosts parts) → (settle_file_again 0 parts file).answer ≡ 0 → ⊥
    unfolding most_file in_all
    file_again_ends parts r m c = by_read (read_plan file) refl parts r m c
      where
        by_read : (x : Read) → read_plan file ≡ x → (ps : List Part) → Roomy (length file) ps → most_file file ≤ in_all (mosts ps) → (settle_file_again 0 ps file).answer ≡ 0 → ⊥
        by_read (Read.Plan f ts) e ps r m c = plan_ends file bytes f ts e out l ps r m c
        by_read (Read.Refuse e) g [] r m c =
            let n = (number_ends e).0 in
            let q = ap (read_number most_passes) g in
            omega arith
        by_read (Read.Refuse e) g (p ∷ ps) r m c =
            let s = first_refuses e g p ps in
            let n = (number_ends e).0 in
            let k = s.1 in
            let q = s.0 in
            omega arith

-- Demand 3 of the calls on plan files, as statements. `file_call c file out` is the promise of the call c on a plan file and an output: the number
-- it answers and the output later; `refusal_in` is the refusal in that number, 0 where nothing is refused; `file_left` is the file to go on
-- from. Of a file it is asked that it has bytes: every lent file has.
use Rattle.std.specs.Prelude.{Ok, Err}
use mathlib.Core.Path.{◌≡◌, refl, sym, ap, ◌∙◌, subst}
use mathlib.Core.Bool.{true}
use mathlib.Core.List.{List, [], ◌∷◌, ◌++◌}
use Prim.Native.Nat.{ℕ, ◌*◌, ◌^◌, ◌≤◌, ◌<◌}
use native.Mathlib.Omega.{arith}
use lib.ListN.{length, take, drop}
use lib.Seq.{take_at, drop_at}
use borrow.Author.Tests.{lt-ltb, le-ltb, ne_eqb}
use Rattle.integers.specs.Tests.{if, all}
use Rattle.integers.proofs.Tests.{by_cases}
use Rattle.plan.specs.declared.Task.{Task}
use Rattle.plan.specs.declared.Call.{Call}
use Rattle.plan.specs.declared.Call.TheVariants.{Step, Pass}
use Rattle.plan.specs.declared.Refusal.{Refusal}
use Rattle.plan.specs.declared.Refusal.TheVariants.{NoPlan}
use Rattle.plan.specs.Refusals.{number, told_answer, Answer, Checked}
use Rattle.plan.proofs.Refusals.{number_ends, number_none}
use Rattle.rules.specs.Frame.{Frame, resource_count}
use Rattle.rules.specs.Allowed.{Choice, inside_all, allowed}
use Rattle.rules.specs.Listing.{count}
use Rattle.rules.specs.Fixed.{one_value, one_resource}
use Rattle.rules.specs.Calls.{Result, ListResult, unless_refused, placed_in, call_of, list_call}
use Rattle.rules.specs.Keeps.{Keeps, HoldsNone}
use Rattle.rules.proofs.Subs.{subs_length}
use Rattle.rules.proofs.Keeps.{keeps_then, nothing_then, nothing_sound}
use Rattle.rules.proofs.Calls.{Fair, call_fair, refused_fair, Stays, call_stays, unless_stays}
use Rattle.rules.proofs.Bounds.{PlacedTo}
use Rattle.rules.proofs.CallTheorems.{pass_of_one_choice}
use Rattle.format.specs.Numbers.{AllBytes}
use Rattle.format.specs.Format.{file_length}
use Rattle.format.specs.Reading.{Read, read_plan}
use Rattle.format.specs.Writing.{written, room_for, Good}
use Rattle.format.proofs.Files.{length_written}
use Rattle.format.proofs.RoundTrip.{written_read, accepted_written}
use Rattle.format.proofs.Refusing.{read_number_lem}
use Rattle.answers.specs.Files.{one_number, file_result, after_read, answer_file, lent_due, plan_call, file_call, refusal_in, file_left, Asked, files_left}
use Rattle.answers.specs.Outcomes.{read_outcome, file_outcome, Apart}
use Rattle.answers.proofs.Answers.{call_apart, lent_placed}

-- ---- 12 and 10 are not 7
abbrev number_of : Answer → ℕ
number_of (Ok n) = 0
number_of (Err f) = number f

lent_other : (c : Call) (resources file out : ℕ) (e : Refusal) → lent_due c resources file out ≡ Err e → ◌≡◌ {A = Answer} (Err e) (Err NoPlan) → ⊥
lent_other c resources file out e h g = (subst (PlacedTo 0) h (lent_placed c resources file out)).1 (ap number_of g)

-- ---- one call, on the writing of a plan that passes the checks
module _ (f : Frame) (ts : List Task) (g : Good f ts) (c : Call) (out : List ℕ) where
  abbrev file : List ℕ
  file = written f ts

  -- what the call comes to, and the plan that it leaves
  abbrev x : Result
  x = plan_call c f ts out

  abbrev due : Checked
  due = lent_due c (resource_count f) (length file) (length out)

  plan_fair : Fair f ts x
  unfolding plan_call
  plan_fair = fair due refl
    where
      fair : (k : Checked) → due ≡ k → Fair f ts (unless_refused k ts (call_of c f ts))
      fair (Ok _) e = call_fair f ts c g.passes
      fair (Err r) e = refused_fair f ts r g.passes (λ s. absurd (lent_other c (resource_count f) (length file) (length out) r e s))

  plan_stays : Stays ts x
  unfolding plan_call
  plan_stays = unless_stays due ts (call_of c f ts) (call_stays c f ts)

  call_is : file_call c file out ≡ answer_file f out x.answer x.tasks
  unfolding file_call
  call_is = rw (written_read f ts g)

  -- as many tasks as before: the same length
  length_same : length (written f x.tasks) ≡ length file
  length_same =
      length_written f x.tasks
      ∙ ap (λ (n : ℕ). file_length (resource_count f) (length f.bands) n) (subs_length plan_fair.keeps.inside)
      ∙ sym (length_written f ts)

  -- ---- by its answer
  abbrev answer : ℕ
  answer = (file_call c file out).answer

  apart : (a : Answer) → x.answer ≡ a → Apart answer a
  apart a e =
      let h : Apart answer x.answer = rw (written_read f ts g) at (call_apart c file out) in
      subst (Apart answer) e h

  refusal_is : (a : Answer) → x.answer ≡ a → refusal_in answer ≡ (told_answer a).number
  refusal_is (Ok n) e = (apart (Ok n) e).2
  refusal_is (Err r) e = (apart (Err r) e).0

  pub number_is : (a : Answer) → x.answer ≡ a → answer ≡ one_number (told_answer a)
  number_is (Ok n) e = let h = (apart (Ok n) e).0 in omega arith
  number_is (Err r) e =
      let h = (apart (Err r) e).0 in
      let g = (apart (Err r) e).1 in
      omega arith

  laid_is : (n : ℕ) → x.answer ≡ Ok n → (take (length file) (file_call c file out).out ≡ written f x.tasks) × (drop (length file) (file_call c file out).out ≡ drop (length file) out)
  laid_is n e =
      let w = written f x.tasks in
      rw (call_is, e)
      (take_at w (drop (length w) out) (length file) length_same, drop_at w (drop (length w) out) (length file) length_same ∙ ap (λ (k : ℕ). drop k out) length_same)

  left_by : (a : Answer) → x.answer ≡ a → file_left c file out ≡ written f x.tasks
  unfolding file_left
  left_by (Ok n) e = rw (refusal_is (Ok n) e, (laid_is n e).0)
  left_by (Err r) e =
      let n = (number_ends r).0 in
      rw (ne_eqb (refusal_in answer) 0 (λ z. omega (arith, refusal_is (Err r) e)))
      (sym (ap (written f) (plan_stays (λ z. let m = ap (λ (a : Answer). (told_answer a).number) e in omega arith))))

  pub left_is : file_left c file out ≡ written f x.tasks
  left_is = left_by x.answer refl

  done_is : (a : Answer) → x.answer ≡ a → refusal_in answer ≡ 0 → (take (length file) (file_call c file out).out ≡ written f x.tasks) × (drop (length file) (file_call c file out).out ≡ drop (length file) out)
  done_is (Ok n) e d = laid_is n e
  done_is (Err r) e d = let n = (number_ends r).0 in absurd (omega (arith, refusal_is (Err r) e))

  none_is : (a : Answer) → x.answer ≡ a → refusal_in answer ≡ 7 → HoldsNone f ts
  none_is (Ok n) e d = absurd (omega (arith, refusal_is (Ok n) e))
  none_is (Err r) e d = plan_fair.none (e ∙ ap Err (number_none r (sym (refusal_is (Err r) e) ∙ d)))

  -- with room, and of a place in the list, it is the call over lists
  pub roomy : placed_in (resource_count f) c ≡ true → length file ≤ length out → x ≡ call_of c f ts
  unfolding plan_call lent_due room_for
  roomy p l = rw (p, le-ltb (length out) (length file) l)

-- what is left can be written again: the frame is the same
pub good_left : (f : Frame) (ts us : List Task) → Good f ts → Keeps f ts us → Good f us
good_left f ts us g k = record { identifiers = g.identifiers; passes = k.accepted }

-- ---- any calls in a row
pub files_none : (file : List ℕ) → files_left [] file ≡ file
unfolding files_left
files_none file = refl

pub files_next : (asked : List Asked) (a : Asked) (file : List ℕ) → files_left (asked ++ (a ∷ [])) file ≡ file_left a.call (files_left asked file) a.out
unfolding files_left
files_next [] a file = refl
files_next (b ∷ asked) a file = files_next asked a (file_left b.call file b.out)

run : (f : Frame) (asked : List Asked) (ts : List Task) → Good f ts → (us : List Task) × (files_left asked (written f ts) ≡ written f us) × Keeps f ts us
unfolding files_left
run f [] ts g = (ts, refl, nothing_sound f ts g.passes)
run f (a ∷ asked) ts g =
    let vs = (plan_call a.call f ts a.out).tasks in
    let k = (plan_fair f ts g a.call a.out).keeps in
    let r = run f asked vs (good_left f ts vs g k) in
    (r.0, ap (files_left asked) (left_is f ts g a.call a.out) ∙ r.1, keeps_then k r.2)

-- ---- a lent file that holds a plan
module _ (file : List ℕ) (bytes : AllBytes file) (f : Frame) (ts : List Task) (plan : read_plan file ≡ Read.Plan f ts) where
  good : Good f ts × (written f ts ≡ file)
  good = accepted_written file bytes f ts plan

  -- with an output that has room, a call is the call over the lists that the file holds: the same answer, and what is left is what it leaves
  pub file_call_lem : (c : Call) (out : List ℕ) → placed_in (resource_count f) c ≡ true → length file ≤ length out → ((file_call c file out).answer ≡ one_number (list_call c f ts).answer) × (read_plan (file_left c file out) ≡ Read.Plan f (list_call c f ts).tasks)
  unfolding list_call
  file_call_lem c out p l =
      let g = good.0 in
      let same = roomy f ts g c out p (rw good.1 l) in
      let k = subst (λ (r : Result). Keeps f ts r.tasks) same (plan_fair f ts g c out).keeps in
      rw (← good.1)
      (number_is f ts g c out (call_of c f ts).answer (ap (λ (r : Result). r.answer) same), ap read_plan (left_is f ts g c out ∙ ap (λ (r : Result). written f r.tasks) same) ∙ written_read f (call_of c f ts).tasks (good_left f ts (call_of c f ts).tasks g k))

  -- what a call writes reads back as a plan with the very same allowed plans, and later bytes of the output stay
  pub file_keeps : (c : Call) (out : List ℕ) → refusal_in (file_call c file out).answer ≡ 0 → (us : List Task) × (read_plan (take (length file) (file_call c file out).out) ≡ Read.Plan f us) × Keeps f ts us × (drop (length file) (file_call c file out).out ≡ drop (length file) out)
  file_keeps c out d =
      let g = good.0 in
      let us = (plan_call c f ts out).tasks in
      let k = (plan_fair f ts g c out).keeps in
      let m = done_is f ts g c out (plan_call c f ts out).answer refl (subst (λ (b : List ℕ). refusal_in (file_call c b out).answer ≡ 0) (sym good.1) d) in
      let first = subst (λ (b : List ℕ). take (length b) (file_call c b out).out ≡ written f us) good.1 m.0 in
      let later = subst (λ (b : List ℕ). drop (length b) (file_call c b out).out ≡ drop (length b) out) good.1 m.1 in
      (us, ap read_plan first ∙ written_read f us (good_left f ts us g k), k, later)

  -- any calls in a row, each on the file that the one before left: the same
  pub files_keep : (asked : List Asked) → (us : List Task) × (read_plan (files_left asked file) ≡ Read.Plan f us) × Keeps f ts us
  files_keep asked =
      let g = good.0 in
      let r = run f asked ts g in
      (r.0, ap (λ (b : List ℕ). read_plan (files_left asked b)) (sym good.1) ∙ ap read_plan r.1 ∙ written_read f r.0 (good_left f ts r.0 g r.2), r.2)

  pub files_count : (asked : List Asked) (us : List Task) → read_plan (files_left asked file) ≡ Read.Plan f us → count f us ≡ count f ts
  unfolding count
  files_count asked us e =
      let k = files_keep asked in
      let both : Read.Plan f k.0 ≡ Read.Plan f us = sym k.1 ∙ e in
      let same : k.0 ≡ us = cc in
      ap length (subst (λ (vs : List Task). Keeps f ts vs) same k.2).same

  -- refusal 7 comes only if the plan of the file that was lent first has no allowed plan
  pub files_refuse : (asked : List Asked) (c : Call) (out : List ℕ) → refusal_in (file_call c (files_left asked file) out).answer ≡ 7 → HoldsNone f ts
  files_refuse asked c out d =
      let g = good.0 in
      let r = run f asked ts g in
      let e = ap (files_left asked) (sym good.1) ∙ r.1 in
      nothing_then r.2 (none_is f r.0 (good_left f ts r.0 g r.2) c out (plan_call c f r.0 out).answer refl (rw e at d))

  -- one fixed choice: a pass is refused with 7 exactly if that choice breaks a rule
  pub file_of_one_choice : all one_value ts ≡ true → all one_resource ts ≡ true → (cs : List Choice) → inside_all ts cs ≡ true → (out : List ℕ) → length file ≤ length out → refusal_in (file_call Pass file out).answer ≡ if (allowed f cs) 0 7
  file_of_one_choice v w cs h out l =
      let n = (file_call_lem Pass out refl l).0 ∙ ap (λ (r : ListResult). one_number r.answer) (pass_of_one_choice f ts good.0.passes v w cs h) in
      by_cases (allowed f cs) (λ a. let m = rw a at n in rw a (omega arith)) (λ a. let m = rw a at n in rw a (omega arith))

-- and 7 comes for no other file than one that holds a plan
pub file_refuses : (file out : List ℕ) (c : Call) → refusal_in (file_call c file out).answer ≡ 7 → (f : Frame) × (ts : List Task) × (read_plan file ≡ Read.Plan f ts)
file_refuses file out c d = found (read_plan file) refl (call_apart c file out)
  where
    found : (r : Read) → read_plan file ≡ r → Apart (file_call c file out).answer (file_outcome c file out) → (f : Frame) × (ts : List Task) × (read_plan file ≡ Read.Plan f ts)
    found (Read.Plan f ts) e a = (f, ts, e)
    found (Read.Refuse r) e a =
        let h : Apart (file_call c file out).answer (Err r) = rw e at a in
        absurd (read_number_lem file r e (sym h.0 ∙ d))

-- ---- "On each refusal, task lists and buffers keep their entry contents."
out_kept : (f : Frame) (out : List ℕ) (a : Answer) (us : List Task) (n : ℕ) → Apart n a → (refusal_in n ≡ 0 → ⊥) → (answer_file f out a us).out ≡ out
out_kept f out (Ok k) us n p h = absurd (h p.2)
out_kept f out (Err e) us n p h = refl

read_kept : (c : Call) (out : List ℕ) (x : Read) (n : ℕ) → Apart n (read_outcome c out x) → (refusal_in n ≡ 0 → ⊥) → (after_read c out x).out ≡ out
read_kept c out (Read.Plan f ts) n p h = out_kept f out (plan_call c f ts out).answer (plan_call c f ts out).tasks n p h
read_kept c out (Read.Refuse e) n p h = refl

pub file_stays : (c : Call) (file out : List ℕ) → (refusal_in (file_call c file out).answer ≡ 0 → ⊥) → (file_call c file out).out ≡ out
unfolding file_call
file_stays c file out h = read_kept c out (read_plan file) (file_call c file out).answer (call_apart c file out) h

-- ---- 12 before 10, and 10 before 7
pub file_nowhere : (file : List ℕ) (f : Frame) (ts : List Task) → read_plan file ≡ Read.Plan f ts → (r : ℕ) → resource_count f ≤ r → (out : List ℕ) → file_call (Step r) file out ≡ file_result (12 * 2 ^ 32) out
unfolding file_call plan_call lent_due
file_nowhere file f ts e r l out = rw (e, le-ltb r (resource_count f) l)

pub file_short : (file : List ℕ) (bytes : AllBytes file) (f : Frame) (ts : List Task) → read_plan file ≡ Read.Plan f ts → (c : Call) → placed_in (resource_count f) c ≡ true → (out : List ℕ) → length out < length file → file_call c file out ≡ file_result (10 * 2 ^ 32) out
unfolding file_call plan_call lent_due room_for
file_short file bytes f ts e c p out l = rw (e, (accepted_written file bytes f ts e).1, p, lt-ltb (length out) (length file) l)

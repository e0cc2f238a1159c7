-- Demand 3 of the calls over lent lists, as statements. `list_call c f ts` is the promise of the call c on the frame f and the tasks ts: its answer
-- in the page's number and values, and the tasks that it leaves. `list_calls cs f ts` are the tasks after the calls cs, each on what the one
-- before left.
use Rattle.std.specs.Prelude.{Ok, Err}
use mathlib.Core.Path.{◌≡◌, refl, sym, ap, ◌∙◌}
use Prim.Native.Nat.{ℕ, suc, ◌≤◌, ◌<◌}
use mathlib.Core.List.{List, [], ◌∷◌, ◌++◌}
use mathlib.Core.Bool.{true, false}
use lib.ListN.{length}
use borrow.Author.Tests.{lt-ltb, le-ltb}
use Rattle.integers.specs.Tests.{if, all}
use Rattle.integers.proofs.Tests.{by_cases}
use Rattle.plan.specs.declared.Task.{Task}
use Rattle.plan.specs.declared.Call.{Call}
use Rattle.plan.specs.declared.Call.TheVariants.{Check, Balance, Step, Pass, Settle}
use Rattle.plan.specs.declared.Refusal.{Refusal}
use Rattle.plan.specs.Refusals.{number, place, told, Checked, accepted}
use Rattle.plan.proofs.Refusals.{told_none}
use Rattle.rules.specs.Frame.{Frame, resource_count}
use Rattle.rules.specs.Allowed.{Choice, inside_all, allowed}
use Rattle.rules.specs.Listing.{count}
use Rattle.rules.specs.Balance.{balance}
use Rattle.rules.specs.Balance.Outcome.{NoPlan, Plan}
use Rattle.rules.specs.Step.{resource_step}
use Rattle.rules.specs.Settle.{pass, same_tasks, one_pass_more, settle}
use Rattle.rules.specs.Settle.Settled.{Refused, After}
use Rattle.rules.specs.Fixed.{one_value, one_resource}
use Rattle.rules.specs.Calls.{check, call_of, ListResult, list_result, list_call, list_calls}
use Rattle.rules.specs.Keeps.{Keeps, HoldsNone}
use Rattle.rules.proofs.Keeps.{keeps_then, nothing_then, nothing_sound}
use Rattle.rules.proofs.Calls.{call_refused, call_fair, call_stays}
use Rattle.rules.proofs.Bounds.{check_number}
use Rattle.rules.proofs.Ends.{settle_refused, settle_last, settle_more}
use Rattle.rules.proofs.Theorems.{fixed_choice, settle_keeps, settle_stops}

-- ---- any lists: a refusal of the entry checks is the answer, and "On each refusal, task lists and buffers keep their entry contents."
module _ (c : Call) (f : Frame) (ts : List Task) where
  pub entry_refused : (e : Refusal) → check f ts ≡ Err e → list_call c f ts ≡ list_result (told (number e) (place e ∷ [])) ts
  unfolding list_call
  entry_refused e h = rw (call_refused c f ts e h)

  -- 7 is said of no lists that the entry checks refuse
  pub none_accepted : (list_call c f ts).answer.number ≡ 7 → check f ts ≡ accepted
  none_accepted h = by_check (check f ts) refl
    where
      by_check : (k : Checked) → check f ts ≡ k → check f ts ≡ accepted
      by_check (Ok _) e = e
      by_check (Err r) e = absurd (check_number f ts r e (sym (ap (λ (x : ListResult). x.answer.number) (entry_refused r e)) ∙ h))

  pub refused_stays : ((list_call c f ts).answer.number ≡ 0 → ⊥) → (list_call c f ts).tasks ≡ ts
  unfolding list_call
  refused_stays h = call_stays c f ts h

-- ---- lists that pass the entry checks: check, balance, step, pass and settle are those of the page
module _ (f : Frame) (ts : List Task) (ok : check f ts ≡ accepted) where
  pub check_done : list_call Check f ts ≡ list_result (told 0 (0 ∷ [])) ts
  unfolding list_call call_of
  check_done = rw ok

  pub balance_done : (us : List Task) → balance ts ≡ Plan us → list_call Balance f ts ≡ list_result (told 0 (0 ∷ [])) us
  unfolding list_call call_of
  balance_done us e = rw (ok, e)

  pub balance_none : balance ts ≡ NoPlan → list_call Balance f ts ≡ list_result (told 7 (0 ∷ [])) ts
  unfolding list_call call_of
  balance_none e = rw (ok, e)

  -- the step of the place that was named, and of no other
  pub step_done : (r : ℕ) → r < resource_count f → (us : List Task) → resource_step f r ts ≡ Plan us → list_call (Step r) f ts ≡ list_result (told 0 (0 ∷ [])) us
  unfolding list_call call_of
  step_done r l us e = rw (ok, lt-ltb r (resource_count f) l, e)

  pub step_none : (r : ℕ) → r < resource_count f → resource_step f r ts ≡ NoPlan → list_call (Step r) f ts ≡ list_result (told 7 (0 ∷ [])) ts
  unfolding list_call call_of
  step_none r l e = rw (ok, lt-ltb r (resource_count f) l, e)

  pub step_nowhere : (r : ℕ) → resource_count f ≤ r → list_call (Step r) f ts ≡ list_result (told 12 (0 ∷ [])) ts
  unfolding list_call call_of
  step_nowhere r l = rw (ok, le-ltb r (resource_count f) l)

  pub pass_done : (us : List Task) → pass f ts ≡ Plan us → list_call Pass f ts ≡ list_result (told 0 (0 ∷ [])) us
  unfolding list_call call_of
  pass_done us e = rw (ok, e)

  pub pass_none : pass f ts ≡ NoPlan → list_call Pass f ts ≡ list_result (told 7 (0 ∷ [])) ts
  unfolding list_call call_of
  pass_none e = rw (ok, e)

  -- with its number of passes
  pub settle_done : (k : ℕ) (us : List Task) → settle f ts ≡ After k us → list_call Settle f ts ≡ list_result (told 0 (k ∷ [])) us
  unfolding list_call call_of
  settle_done k us e = rw (ok, e)

  pub settle_none : settle f ts ≡ Refused → list_call Settle f ts ≡ list_result (told 7 (0 ∷ [])) ts
  unfolding list_call call_of
  settle_none e = rw (ok, e)

  -- and a pass on what settling left changes nothing
  pub settled_stays : (k : ℕ) (us : List Task) → settle f ts ≡ After k us → list_call Pass f us ≡ list_result (told 0 (0 ∷ [])) us
  unfolding list_call call_of
  settled_stays k us e = rw ((settle_keeps f ts ok k us e).accepted, (settle_stops f ts ok k us e).settled)

  -- ---- a host that cuts off long calls goes on from what a pass left: settling is a pass, and settling what it left, with one pass fewer to
  -- count; where a pass changes nothing, it is settled
  pub settle_first : pass f ts ≡ NoPlan → list_call Settle f ts ≡ list_result (told 7 (0 ∷ [])) ts
  settle_first e = settle_none (settle_refused f ts ok e)

  module _ (us : List Task) (e : pass f ts ≡ Plan us) where
    pub settle_at_once : same_tasks ts us ≡ true → list_call Settle f ts ≡ list_result (told 0 (1 ∷ [])) us
    settle_at_once s = settle_done 1 us (settle_last f ts ok us e s)

    pub settle_goes_on : same_tasks ts us ≡ false → (k : ℕ) (vs : List Task) → settle f us ≡ After k vs → list_call Settle f ts ≡ list_result (told 0 (suc k ∷ [])) vs
    settle_goes_on s k vs g = settle_done (suc k) vs (settle_more f ts ok us e s ∙ ap one_pass_more g)

    pub settle_goes_nowhere : same_tasks ts us ≡ false → settle f us ≡ Refused → list_call Settle f ts ≡ list_result (told 7 (0 ∷ [])) ts
    settle_goes_nowhere s g = settle_none (settle_more f ts ok us e s ∙ ap one_pass_more g)

  -- ---- one fixed choice: a pass is refused with 7 exactly if that choice breaks a rule, and else changes nothing
  pub pass_of_one_choice : all one_value ts ≡ true → all one_resource ts ≡ true → (cs : List Choice) → inside_all ts cs ≡ true → list_call Pass f ts ≡ list_result (told (if (allowed f cs) 0 7) (0 ∷ [])) ts
  pass_of_one_choice v w cs h =
      let p = fixed_choice f ts ok v w cs h in
      by_cases (allowed f cs) (λ a. rw a (pass_done ts (rw a at p))) (λ a. rw a (pass_none (rw a at p)))

  one_keeps : (c : Call) → Keeps f ts (list_call c f ts).tasks
  unfolding list_call
  one_keeps c = (call_fair f ts c ok).keeps

  one_refuses : (c : Call) → (list_call c f ts).answer.number ≡ 7 → HoldsNone f ts
  unfolding list_call
  one_refuses c e = (call_fair f ts c ok).none (told_none (call_of c f ts).answer e)

-- ---- any calls in a row, each on what the one before left: the allowed plans are the very same ones all along, and so is their number; 7 comes
-- only if the ranges entered held none
module _ (f : Frame) where
  pub calls_none : (ts : List Task) → list_calls [] f ts ≡ ts
  unfolding list_calls
  calls_none ts = refl

  pub calls_next : (cs : List Call) (c : Call) (ts : List Task) → list_calls (cs ++ (c ∷ [])) f ts ≡ (list_call c f (list_calls cs f ts)).tasks
  unfolding list_calls
  calls_next [] c ts = refl
  calls_next (d ∷ cs) c ts = calls_next cs c (list_call d f ts).tasks

  pub calls_keep : (cs : List Call) (ts : List Task) → check f ts ≡ accepted → Keeps f ts (list_calls cs f ts)
  unfolding list_calls
  calls_keep [] ts ok = nothing_sound f ts ok
  calls_keep (c ∷ cs) ts ok =
      let k = one_keeps f ts ok c in
      keeps_then k (calls_keep cs (list_call c f ts).tasks k.accepted)

  pub calls_count : (cs : List Call) (ts : List Task) → check f ts ≡ accepted → count f (list_calls cs f ts) ≡ count f ts
  unfolding count
  calls_count cs ts ok = ap length (calls_keep cs ts ok).same

  pub calls_refuse : (cs : List Call) (c : Call) (ts : List Task) → check f ts ≡ accepted → (list_call c f (list_calls cs f ts)).answer.number ≡ 7 → HoldsNone f ts
  calls_refuse cs c ts ok e =
      let k = calls_keep cs ts ok in
      nothing_then k (one_refuses f (list_calls cs f ts) k.accepted c e)

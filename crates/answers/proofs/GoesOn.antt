-- A host that cuts off long calls makes passes one by one, each on the file that the one before left, until one leaves the same bytes: that is
-- settling, which counts them. Every output has room for the file.
use mathlib.Core.Path.{◌≡◌, refl, sym, ap, ◌∙◌, subst}
use mathlib.Core.Bool.{true}
use mathlib.Core.List.{List}
use Prim.Native.Nat.{ℕ, suc, ◌≤◌}
use native.Mathlib.Omega.{arith}
use lib.ListN.{length}
use Rattle.integers.proofs.Tests.{false_in}
use Rattle.plan.specs.declared.Task.{Task}
use Rattle.plan.specs.declared.Call.{Call}
use Rattle.plan.specs.declared.Call.TheVariants.{Pass, Settle}
use Rattle.plan.specs.Refusals.{told_answer}
use Rattle.rules.specs.Frame.{Frame, resource_count}
use Rattle.rules.specs.Balance.{Outcome}
use Rattle.rules.specs.Settle.{pass, same_tasks, Settled, one_pass_more, settle}
use Rattle.rules.specs.Calls.{Result, stepped, settled, placed_in, call_of}
use Rattle.rules.specs.Keeps.{Keeps}
use Rattle.rules.proofs.Subs.{subs_length}
use Rattle.rules.proofs.Calls.{call_answered}
use Rattle.rules.proofs.Rooms.{same_tasks_is, same_tasks_self}
use Rattle.rules.proofs.Ends.{settle_refused, settle_last, settle_more}
use Rattle.rules.proofs.Theorems.{pass_keeps, settle_settles}
use Rattle.rules.proofs.Bounds.{settle_small}
use Rattle.format.specs.Numbers.{AllBytes}
use Rattle.format.specs.Reading.{Read, read_plan}
use Rattle.format.specs.Writing.{written, Good}
use Rattle.format.proofs.Files.{length_written}
use Rattle.format.proofs.RoundTrip.{written_read, accepted_written}
use Rattle.answers.specs.Files.{one_number, file_call, refusal_in, file_left, Alike}
use Rattle.answers.proofs.FileTheorems.{left_is, number_is, roomy, good_left}

-- ---- the writing of a plan that passes the checks
module _ (f : Frame) (ts : List Task) (g : Good f ts) where
  abbrev file : List ℕ
  file = written f ts

  module _ (c : Call) (out : List ℕ) (p : placed_in (resource_count f) c ≡ true) (l : length file ≤ length out) (x : Result) (e : call_of c f ts ≡ x) where
    pub call_left : file_left c file out ≡ written f x.tasks
    call_left = left_is f ts g c out ∙ ap (λ (r : Result). written f r.tasks) (roomy f ts g c out p l ∙ e)

    pub call_number : (file_call c file out).answer ≡ one_number (told_answer x.answer)
    call_number = number_is f ts g c out x.answer (ap (λ (r : Result). r.answer) (roomy f ts g c out p l ∙ e))

  passed : (o : Outcome) → pass f ts ≡ o → call_of Pass f ts ≡ stepped ts o
  passed o e = call_answered Pass f ts g.passes refl ∙ ap (stepped ts) e

  settles : (s : Settled) → settle f ts ≡ s → call_of Settle f ts ≡ settled ts s
  settles s e = call_answered Settle f ts g.passes refl ∙ ap (settled ts) e

-- a written plan is one plan
written_once : (f : Frame) (ts us : List Task) → Good f ts → Good f us → written f us ≡ written f ts → us ≡ ts
written_once f ts us g h e =
    let both : Read.Plan f us ≡ Read.Plan f ts = sym (written_read f us h) ∙ ap read_plan e ∙ written_read f ts g in
    cc

-- ---- after a pass
module _ (f : Frame) (ts : List Task) (g : Good f ts) (out a b : List ℕ) (l : length (written f ts) ≤ length out) (m : length (written f ts) ≤ length a) (n : length (written f ts) ≤ length b) where
  none_by : (o : Outcome) → pass f ts ≡ o → refusal_in (file_call Pass (written f ts) out).answer ≡ 7 → refusal_in (file_call Settle (written f ts) a).answer ≡ 7
  none_by Outcome.NoPlan e d =
      let k = call_number f ts g Settle a refl m (settled ts Settled.Refused) (settles f ts g Settled.Refused (settle_refused f ts g.passes e)) in
      omega arith
  none_by (Outcome.Plan us) e d =
      let k = call_number f ts g Pass out refl l (stepped ts (Outcome.Plan us)) (passed f ts g (Outcome.Plan us) e) in
      absurd (omega arith)

  module _ (us : List Task) (e : pass f ts ≡ Outcome.Plan us) where
    abbrev next : List ℕ
    next = file_left Pass (written f ts) out

    next_is : next ≡ written f us
    next_is = call_left f ts g Pass out refl l (stepped ts (Outcome.Plan us)) (passed f ts g (Outcome.Plan us) e)

    keeps : Keeps f ts us
    keeps = pass_keeps f ts g.passes us e

    left_good : Good f us
    left_good = good_left f ts us g keeps

    -- the same bytes are the same tasks
    last_is : next ≡ written f ts → ((file_call Settle (written f ts) a).answer ≡ 1) × (file_left Settle (written f ts) a ≡ written f ts)
    last_is q =
        let same = written_once f ts us g left_good (sym next_is ∙ q) in
        let s = settle_last f ts g.passes us e (subst (λ (vs : List Task). same_tasks ts vs ≡ true) (sym same) (same_tasks_self ts)) in
        let x = settled ts (Settled.After 1 us) in
        let h = settles f ts g (Settled.After 1 us) s in
        let k = call_number f ts g Settle a refl m x h in
        (omega arith, call_left f ts g Settle a refl m x h ∙ ap (written f) same)

    room : length (written f us) ≤ length b
    room = omega (arith, n, length_written f us, length_written f ts, subs_length keeps.inside)

    more_by : (s : Settled) → settle f us ≡ s → settle f ts ≡ one_pass_more s → Alike (written f ts) a (written f us) b
    more_by Settled.Refused u t =
        let k = call_number f us left_good Settle b refl room (settled us Settled.Refused) (settles f us left_good Settled.Refused u) in
        let j = call_number f ts g Settle a refl m (settled ts Settled.Refused) (settles f ts g Settled.Refused t) in
        record { counted = λ z. absurd (omega arith); left = λ z. absurd (omega arith); none = λ z. omega arith }
    more_by (Settled.After i vs) u t =
        let h = settles f us left_good (Settled.After i vs) u in
        let r = settles f ts g (Settled.After (suc i) vs) t in
        let k = call_number f us left_good Settle b refl room (settled us (Settled.After i vs)) h in
        let j = call_number f ts g Settle a refl m (settled ts (Settled.After (suc i) vs)) r in
        record {
          counted = λ z. omega arith;
          left = λ z. call_left f ts g Settle a refl m (settled ts (Settled.After (suc i) vs)) r ∙ sym (call_left f us left_good Settle b refl room (settled us (Settled.After i vs)) h);
          none = λ z. let i-small = settle_small f us left_good.passes i vs u in absurd (omega arith);
        }
    more_by (Settled.Unsettled vs) u t = absurd (settle_settles f us left_good.passes vs u)

    more_is : (next ≡ written f ts → ⊥) → Alike (written f ts) a next b
    more_is q =
        let other = false_in (same_tasks ts us) (λ s. q (next_is ∙ ap (written f) (sym (same_tasks_is ts us s)))) in
        subst (λ (y : List ℕ). Alike (written f ts) a y b) (sym next_is) (more_by (settle f us) refl (settle_more f ts g.passes us e other))

  -- a pass that is not refused left a plan
  left_by : {P : Type 0} (o : Outcome) → pass f ts ≡ o → refusal_in (file_call Pass (written f ts) out).answer ≡ 0 → ((us : List Task) → pass f ts ≡ Outcome.Plan us → P) → P
  left_by Outcome.NoPlan e d k =
      let j = call_number f ts g Pass out refl l (stepped ts Outcome.NoPlan) (passed f ts g Outcome.NoPlan e) in
      absurd (omega arith)
  left_by (Outcome.Plan us) e d k = k us e

-- ---- a lent file that holds a plan
module _ (file : List ℕ) (bytes : AllBytes file) (f : Frame) (ts : List Task) (plan : read_plan file ≡ Read.Plan f ts) (out a b : List ℕ) (l : length file ≤ length out) (m : length file ≤ length a) (n : length file ≤ length b) where
  good : Good f ts × (written f ts ≡ file)
  good = accepted_written file bytes f ts plan

  -- from the writing of the plan to the file
  carried : (P : List ℕ → Type 0) → ((length (written f ts) ≤ length out) → (length (written f ts) ≤ length a) → (length (written f ts) ≤ length b) → P (written f ts)) → P file
  carried P k = subst P good.1 (k (room out l) (room a m) (room b n))
    where
      room : (o : List ℕ) → length file ≤ length o → length (written f ts) ≤ length o
      room o h = subst (λ (y : List ℕ). length y ≤ length o) (sym good.1) h

  -- where a pass finds no plan, settling finds none
  pub pass_finds_none : refusal_in (file_call Pass file out).answer ≡ 7 → refusal_in (file_call Settle file a).answer ≡ 7
  pass_finds_none =
      carried (λ y. refusal_in (file_call Pass y out).answer ≡ 7 → refusal_in (file_call Settle y a).answer ≡ 7)
      (λ x y z. none_by f ts good.0 out a b x y z (pass f ts) refl)

  -- where it leaves the same bytes, the plan is settled: one pass
  pub pass_is_last : refusal_in (file_call Pass file out).answer ≡ 0 → file_left Pass file out ≡ file → ((file_call Settle file a).answer ≡ 1) × (file_left Settle file a ≡ file)
  pass_is_last =
      carried (λ y. refusal_in (file_call Pass y out).answer ≡ 0 → file_left Pass y out ≡ y → ((file_call Settle y a).answer ≡ 1) × (file_left Settle y a ≡ y))
      (λ x y z d. left_by f ts good.0 out a b x y z (pass f ts) refl d (last_is f ts good.0 out a b x y z))

  -- else settling what it left comes to the same, with one pass fewer
  pub pass_goes_on : refusal_in (file_call Pass file out).answer ≡ 0 → (file_left Pass file out ≡ file → ⊥) → Alike file a (file_left Pass file out) b
  pass_goes_on =
      carried (λ y. refusal_in (file_call Pass y out).answer ≡ 0 → (file_left Pass y out ≡ y → ⊥) → Alike y a (file_left Pass y out) b)
      (λ x y z d. left_by f ts good.0 out a b x y z (pass f ts) refl d (more_is f ts good.0 out a b x y z))

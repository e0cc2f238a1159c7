-- What a step answers, and a call at least on a plan as it is for its sense.
use Rattle.std.specs.Prelude.{Option, Some, None, Ok, Err}
use Rattle.std.specs.Option.{MatchOption, IsSomeAnd, ok_or}
use mathlib.Core.Path.{◌≡◌, refl, sym, ap, ◌∙◌}
use mathlib.Core.Bool.{true}
use mathlib.Core.List.{List}
use Prim.Native.Nat.{ℕ}
use lib.ListN.{length}
use Rattle.plan.specs.declared.Band.{Band}
use Rattle.plan.specs.declared.Call.{Call}
use Rattle.plan.specs.declared.Refusal.TheVariants.{NoPlan}
use Rattle.plan.specs.declared.Task.{Task}
use Rattle.plan.specs.declared.Resource.{Resource}
use Rattle.plan.specs.declared.Sense.{Sense}
use Rattle.plan.specs.declared.Sense.TheVariants.{AtMost, AtLeast}
use Rattle.plan.specs.Refusals.{Answer, accepted}
use Rattle.rules.specs.Frame.{Frame, framed}
use Rattle.rules.specs.Balance.{Outcome}
use Rattle.rules.specs.Calls.{check, stepped, placed_in, answered, call_of, result_of}
use Rattle.rules.proofs.Calls.{call_answered}
use Rattle.rules.specs.Negation.{negated_resource}
use Rattle.changes.specs.Changes.{outcome_of}
use Rattle.held.specs.Held.{some_held}
use Rattle.held.proofs.Room.{held_map}
use Rattle.negation.specs.Senses.{tasks_for, resources_for, frame_for}
use Rattle.negation.proofs.Senses.{check_for}
use Rattle.rules.proofs.Checks.{check_sense}

-- a step or a pass makes no passes to report
abbrev left_of : {A : Type 0} → Option A → Answer
left_of (Some a) = Ok 0
left_of None = Err NoPlan

left_map : {A : Type 0} {Q : A → ℕ → Type 0} → ((x : A) (n : ℕ) → Q x n → n ≡ 0) → (o : Option A) (m : Option ℕ)
    → MatchOption o (m ≡ None) (λ x. IsSomeAnd m (Q x)) → ok_or m NoPlan ≡ left_of o
left_map q None m h = rw h
left_map q (Some a) None h = absurd h
left_map q (Some a) (Some n) h = ap Ok (q a n h)

left_stepped : {A : Type 0} (o : Option A) (ts us : List Task) (x : Outcome) → outcome_of o us ≡ x → result_of (left_of o) ts us ≡ stepped ts x
left_stepped None ts us x p = ap (stepped ts) p
left_stepped (Some a) ts us x p = ap (stepped ts) p

pub left_answers : {A : Type 0} {Q : A → ℕ → Type 0} → ((x : A) (n : ℕ) → Q x n → n ≡ 0) → (o : Option A) (m : Option ℕ) (a : Answer)
    → MatchOption o (m ≡ None) (λ x. IsSomeAnd m (Q x)) → a ≡ ok_or m NoPlan
    → (ts us : List Task) (x : Outcome) → outcome_of o us ≡ x → result_of a ts us ≡ stepped ts x
left_answers q o m a h e ts us x p = ap (λ (b : Answer). result_of b ts us) (e ∙ left_map q o m h) ∙ left_stepped o ts us x p

-- what a call of its own answers is what the call answers
pub answers : (c : Call) (resources : List Resource) (bands : List Band) (ts : List Task) {x : Call} → check (framed AtLeast resources bands) ts ≡ accepted
    → placed_in (length resources) c ≡ true → c ≡ x → answered x (framed AtLeast resources bands) ts ≡ call_of c (framed AtLeast resources bands) ts
answers c resources bands ts a p e =
    let f = framed AtLeast resources bands in
    ap (λ (x : Call). answered x f ts) (sym e) ∙ sym (call_answered c f ts a p)

-- the lists hold the plan as it is for its sense: it passes the checks as it did
pub accepted_for : (f : Frame) (ts : List Task) → check (framed AtLeast f.resources f.bands) ts ≡ accepted → check (frame_for f) (tasks_for f.sense ts) ≡ accepted
accepted_for f ts a = check_for f ts ∙ check_sense f.sense AtLeast f.resources f.bands ts ∙ a

-- as many resources are held, whatever the sense
pub held_for : (sense : Sense) (qs : List Resource) → some_held (resources_for sense qs) ≡ some_held qs
unfolding negated_resource
held_for AtLeast qs = refl
held_for AtMost qs = held_map negated_resource (λ q. refl) qs

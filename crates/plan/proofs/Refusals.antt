-- A refusal is known by its number and its place, an answer by the number and values that the page gives it.
use Rattle.std.specs.Prelude.{Ok, Err}
use mathlib.Core.Path.{◌≡◌, refl, sym, ap, ap₂, ◌∙◌}
use mathlib.Core.List.{List, [], ◌∷◌}
use Prim.Native.Nat.{ℕ, ◌≤◌}
use native.Mathlib.Omega.{arith}
use lib.Dec.{eqb}
use Rattle.integers.specs.Tests.{if}
use Rattle.plan.specs.declared.Refusal.{Refusal}
use Rattle.plan.specs.declared.Refusal.TheVariants.{TooManyTasks, ResourceCount, RepeatedIdentifier, LimitOutside, RangeOutside, SetOutside, NoPlan, WrongMark, CutShort, BufferShort, ListShort, NoSuchResource, BandOutside}
use Rattle.plan.specs.Refusals.{number, place, Told, told, told_refusal, told_answer, Answer}

-- numbers count from 1 to 13
pub number_ends : (f : Refusal) → (1 ≤ number f) × (number f ≤ 13)
number_ends TooManyTasks = (omega arith, omega arith)
number_ends ResourceCount = (omega arith, omega arith)
number_ends (RepeatedIdentifier k) = (omega arith, omega arith)
number_ends (LimitOutside k) = (omega arith, omega arith)
number_ends (RangeOutside k) = (omega arith, omega arith)
number_ends (SetOutside k) = (omega arith, omega arith)
number_ends NoPlan = (omega arith, omega arith)
number_ends (WrongMark k) = (omega arith, omega arith)
number_ends (CutShort k) = (omega arith, omega arith)
number_ends BufferShort = (omega arith, omega arith)
number_ends ListShort = (omega arith, omega arith)
number_ends NoSuchResource = (omega arith, omega arith)
number_ends (BandOutside k) = (omega arith, omega arith)

-- the refusal of a number and a place
abbrev refusal_of : ℕ → ℕ → Refusal
refusal_of n k =
    if (eqb n 1) TooManyTasks
    (if (eqb n 2) ResourceCount
    (if (eqb n 3) (RepeatedIdentifier k)
    (if (eqb n 4) (LimitOutside k)
    (if (eqb n 5) (RangeOutside k)
    (if (eqb n 6) (SetOutside k)
    (if (eqb n 7) NoPlan
    (if (eqb n 8) (WrongMark k)
    (if (eqb n 9) (CutShort k)
    (if (eqb n 10) BufferShort
    (if (eqb n 11) ListShort (if (eqb n 12) NoSuchResource (BandOutside k))))))))))))

refusal_back : (f : Refusal) → refusal_of (number f) (place f) ≡ f
refusal_back TooManyTasks = refl
refusal_back ResourceCount = refl
refusal_back (RepeatedIdentifier k) = refl
refusal_back (LimitOutside k) = refl
refusal_back (RangeOutside k) = refl
refusal_back (SetOutside k) = refl
refusal_back NoPlan = refl
refusal_back (WrongMark k) = refl
refusal_back (CutShort k) = refl
refusal_back BufferShort = refl
refusal_back ListShort = refl
refusal_back NoSuchResource = refl
refusal_back (BandOutside k) = refl

-- the same number and place are the same refusal
pub refusal_once : (f g : Refusal) → number f ≡ number g → place f ≡ place g → f ≡ g
refusal_once f g n p = sym (refusal_back f) ∙ ap₂ refusal_of n p ∙ refusal_back g

-- 7 is no plan
pub number_none : (f : Refusal) → number f ≡ 7 → f ≡ NoPlan
number_none f e = sym (refusal_back f) ∙ ap (λ (n : ℕ). refusal_of n (place f)) e

-- ---- answers in the page's number and values
pub first_value : {x y : ℕ} {xs ys : List ℕ} → ◌≡◌ {A = List ℕ} (x ∷ xs) (y ∷ ys) → x ≡ y
first_value e = cc

-- what is told of a refusal is told of no success, and of one refusal
pub told_refused : (f : Refusal) (vs : List ℕ) {P : Type 0} → told_refusal f ≡ told 0 vs → P
told_refused f vs e =
    let n : number f ≡ 0 = ap (λ (t : Told). t.number) e in
    let s = (number_ends f).0 in
    absurd (omega arith)

pub told_refusals : (f g : Refusal) → told_refusal f ≡ told_refusal g → f ≡ g
told_refusals f g e = refusal_once f g (ap (λ (t : Told). t.number) e) (first_value (ap (λ (t : Told). t.values) e))

pub told_once : (a b : Answer) → told_answer a ≡ told_answer b → a ≡ b
told_once (Ok n) (Ok m) e = ap Ok (first_value (ap (λ (t : Told). t.values) e))
told_once (Ok n) (Err g) e = told_refused g (n ∷ []) (sym e)
told_once (Err f) (Ok m) e = told_refused f (m ∷ []) e
told_once (Err f) (Err g) e = ap Err (told_refusals f g e)

pub told_none : (a : Answer) → (told_answer a).number ≡ 7 → a ≡ Err NoPlan
told_none (Ok n) e = absurd (omega arith)
told_none (Err f) e = ap Err (number_none f e)

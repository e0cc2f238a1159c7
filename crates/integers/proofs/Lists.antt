-- Laws of what holds of each element: of the one at a place, of one among them, of a mapped and of a joined list.
use mathlib.Core.Path.{◌≡◌, refl, sym, ◌∙◌}
use mathlib.Core.List.{List, [], ◌∷◌, ◌++◌, map}
use mathlib.Core.Bool.{Bool, true, false}
use Prim.Native.Nat.{ℕ, zero, suc, ◌<◌, suc-le-suc, zero-le}
use native.Mathlib.Nat.{not-suc-le-zero, le_of_suc-le-suc}
use lib.ListN.{length, get_or}
use Rattle.integers.specs.Tests.{all, any}
use Rattle.integers.specs.Lists.{Each, In}
use Rattle.integers.specs.Lists.Each.{nothing, also}
use Rattle.integers.specs.Lists.In.{head, tail}
use Rattle.integers.proofs.Tests.{clash, by_cases, and_first, and_second, and_in, or_left, any_first, any_later}

module _ {A : Type 0} where
  -- ---- one among them
  pub in_at : (d : A) (k : ℕ) (xs : List A) → k < length xs → In (get_or xs k d) xs
  in_at d k [] h = absurd (not-suc-le-zero h)
  in_at d zero (x ∷ xs) h = head
  in_at d (suc k) (x ∷ xs) h = tail (in_at d k xs (le_of_suc-le-suc h))

  pub in_any : (q : A → Bool) {x : A} {xs : List A} → In x xs → q x ≡ true → any q xs ≡ true
  in_any q {x} (head {xs}) e = any_first q x xs e
  in_any q (tail {y} {xs} k) e = any_later q y xs (in_any q k e)

  -- one that passes a test
  pub any_in : (q : A → Bool) (xs : List A) → any q xs ≡ true → (x : A) × In x xs × (q x ≡ true)
  unfolding any
  any_in q [] h = clash false h refl
  any_in q (x ∷ xs) h =
      by_cases (q x) (λ e. (x, head, e))
      (λ e. let p = any_in q xs (sym (or_left (q x) (any q xs) e) ∙ h) in (p.0, tail p.1, p.2))

  pub all_members : (p : A → Bool) (xs : List A) → ((x : A) → In x xs → p x ≡ true) → all p xs ≡ true
  unfolding all
  all_members p [] f = refl
  all_members p (x ∷ xs) f = and_in (p x) (all p xs) (f x head) (all_members p xs (λ y m. f y (tail m)))

  -- the place of one that passes a test
  pub record Place (q : A → Bool) (d : A) (xs : List A) : Type 0 where
    pub at : ℕ
    pub inside : at < length xs
    pub holds : q (get_or xs at d) ≡ true

  pub any_place : (q : A → Bool) (d : A) (xs : List A) → any q xs ≡ true → Place q d xs
  unfolding any
  any_place q d [] e = clash false e refl
  any_place q d (x ∷ xs) e =
      by_cases (q x) (λ p. record { at = 0; inside = suc-le-suc zero-le; holds = p })
      (λ p.
      let r = any_place q d xs (sym (or_left (q x) (any q xs) p) ∙ e) in
      record { at = suc r.at; inside = suc-le-suc r.inside; holds = r.holds })

  -- ---- each of them
  module _ {P : A → Type 0} where
    pub each_in : {x : A} {xs : List A} → Each P xs → In x xs → P x
    each_in nothing k = elim k [ ]
    each_in (also p ps) head = p
    each_in (also p ps) (tail k) = each_in ps k

    pub each_at : (d : A) (k : ℕ) {xs : List A} → Each P xs → k < length xs → P (get_or xs k d)
    each_at d k {xs} ps h = each_in ps (in_at d k xs h)

    pub each_first : (xs ys : List A) → Each P (xs ++ ys) → Each P xs
    each_first [] ys ps = nothing
    each_first (x ∷ xs) ys (also p ps) = also p (each_first xs ys ps)

    pub each_last : (xs ys : List A) → Each P (xs ++ ys) → Each P ys
    each_last [] ys ps = ps
    each_last (x ∷ xs) ys (also p ps) = each_last xs ys ps

    pub each_so : {Q : A → Type 0} → ((x : A) → P x → Q x) → {xs : List A} → Each P xs → Each Q xs
    each_so f nothing = nothing
    each_so f (also {x} p ps) = also (f x p) (each_so f ps)

pub each_all : {A : Type 0} (p : A → Bool) (xs : List A) → all p xs ≡ true → Each (λ x. p x ≡ true) xs
unfolding all
each_all p [] h = nothing
each_all p (x ∷ xs) h = also (and_first (p x) (all p xs) h) (each_all p xs (and_second (p x) (all p xs) h))

pub each_map : {A B : Type 0} {P : A → Type 0} {Q : B → Type 0} (g : A → B) → ((x : A) → P x → Q (g x)) → {xs : List A} → Each P xs → Each Q (map g xs)
each_map g f nothing = nothing
each_map g f (also {x} p ps) = also (f x p) (each_map g f ps)

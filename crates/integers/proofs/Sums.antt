-- Laws of sums: of two lists joined, how many elements pass a test, and how far from 0 a sum can be.
use mathlib.Core.Path.{◌≡◌, refl, sym, ap, ◌∙◌}
use mathlib.Core.Bool.{Bool}
use mathlib.Core.List.{List, [], ◌∷◌, ◌++◌}
use Prim.Native.Nat.{ℕ, ◌+◌, ◌≤◌}
use lib.IntN.{ℤ, pos, ◌+ℤ◌, +ℤ_assoc, +ℤ_idl}
use lib.Signed.{◌≤ℤ◌, lt_z}
use Rattle.integers.specs.Tests.{if, any}
use Rattle.integers.specs.Sums.{sum_of}
use Rattle.integers.proofs.Z.{z, up, dn, +z, lt_z_in}
use Rattle.integers.proofs.Tests.{by_cases}

-- y lies between -b and b
pub record Near (b : ℕ) (y : ℤ) : Type 0 where
  pub over : up y ≤ b + dn y
  pub under : dn y ≤ b + up y

module _ {A : Type 0} (f : A → ℤ) where
  pub sum_append : (xs ys : List A) → sum_of f (xs ++ ys) ≡ sum_of f xs +ℤ sum_of f ys
  unfolding sum_of
  sum_append [] ys = sym (+ℤ_idl (sum_of f ys))
  sum_append (x ∷ xs) ys = ap (λ (s : ℤ). f x +ℤ s) (sum_append xs ys) ∙ sym (+ℤ_assoc (f x) (sum_of f xs) (sum_of f ys))

-- ---- how many pass a test
module _ {A : Type 0} (p : A → Bool) where
  -- 1 for each that passes
  abbrev pub one : A → ℤ
  one x = if (p x) (pos 1) (pos 0)

  pub ones_least : (xs : List A) → pos 0 ≤ℤ sum_of one xs
  unfolding sum_of
  ones_least [] = omega z
  ones_least (x ∷ xs) =
      let l = ones_least xs in
      by_cases (p x) (λ e. rw e (omega (z, +z (pos 1) (sum_of one xs)))) (λ e. rw e (omega (z, +z (pos 0) (sum_of one xs))))

  -- one passes where the number of those that pass is positive
  pub any_ones : (xs : List A) → any p xs ≡ lt_z (pos 0) (sum_of one xs)
  unfolding any sum_of
  any_ones [] = refl
  any_ones (x ∷ xs) =
      let l = ones_least xs in
      by_cases (p x)
      (λ e. rw e (sym (lt_z_in (pos 0) (pos 1 +ℤ sum_of one xs) (omega (z, +z (pos 1) (sum_of one xs))))))
      (λ e. rw (e, +ℤ_idl (sum_of one xs)) (any_ones xs))

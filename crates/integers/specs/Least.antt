-- The least and the greatest of the numbers that a list's elements have, with one to begin from.
use Rattle.std.specs.Prelude.{List, [], ◌∷◌, ℤ}
use Rattle.integers.specs.Whole.{larger, smaller}

module _ {A : Type 0} (g : A → ℤ) where
  unfoldable pub least_of : ℤ → List A → ℤ
  least_of a [] = a
  least_of a (x ∷ xs) = least_of (smaller a (g x)) xs

  unfoldable pub greatest_of : ℤ → List A → ℤ
  greatest_of a [] = a
  greatest_of a (x ∷ xs) = greatest_of (larger a (g x)) xs

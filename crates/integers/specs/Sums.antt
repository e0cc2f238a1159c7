-- The sum of a whole number for each element of a list.
use Rattle.std.specs.Prelude.{List, [], ◌∷◌, ℤ, pos, ◌+ℤ◌}

module _ {A : Type 0} (f : A → ℤ) where
  unfoldable pub sum_of : List A → ℤ
  sum_of [] = pos 0
  sum_of (x ∷ xs) = f x +ℤ sum_of xs

-- A list laid behind the first n elements of another: how many there are then, and what they are.
use Rattle.std.specs.Prelude.{◌≡◌, List, ◌++◌, ℕ, ◌+◌, length, take}

pub record Laid {A : Type 0} (before after : List A) (n m : ℕ) (xs : List A) : Type 0 where
  pub many : m ≡ n + length xs
  pub front : take m after ≡ take n before ++ xs

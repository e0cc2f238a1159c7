-- Lists: what holds of each element, and one element among them.
use Rattle.std.specs.Prelude.{List, [], ◌∷◌}

pub data Each {A : Type 0} (P : A → Type 0) : List A → Type 0 where
  nothing : Each P []
  also : {x : A} {xs : List A} → P x → Each P xs → Each P (x ∷ xs)

pub data In {A : Type 0} (x : A) : List A → Type 0 where
  head : {xs : List A} → In x (x ∷ xs)
  tail : {y : A} {xs : List A} → In x xs → In x (y ∷ xs)

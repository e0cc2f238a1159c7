-- Tests that compute: a choice by a test, both, either, one from the other; and tests over a list.
use Rattle.std.specs.Prelude.{List, [], ◌∷◌, Bool, true, false}

abbrev pub if {ℓ} : {A : Type ℓ} → Bool → A → A → A
if true a b = a
if false a b = b

abbrev pub and : Bool → Bool → Bool
and true b = b
and false b = false

abbrev pub or : Bool → Bool → Bool
or true b = true
or false b = b

-- where the first holds, the second does
abbrev pub implies : Bool → Bool → Bool
implies true b = b
implies false b = true

-- those that pass, in their order
unfoldable pub filter {ℓ} : {A : Type ℓ} → (A → Bool) → List A → List A
filter p [] = []
filter p (x ∷ xs) = if (p x) (x ∷ filter p xs) (filter p xs)

unfoldable pub all {ℓ} : {A : Type ℓ} → (A → Bool) → List A → Bool
all p [] = true
all p (x ∷ xs) = and (p x) (all p xs)

unfoldable pub any {ℓ} : {A : Type ℓ} → (A → Bool) → List A → Bool
any p [] = false
any p (x ∷ xs) = or (p x) (any p xs)

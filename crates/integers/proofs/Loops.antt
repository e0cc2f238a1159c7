-- Lists mapped in place from the front.
use mathlib.Core.Path.{◌≡◌, refl, ap}
use mathlib.Core.List.{List, [], ◌∷◌, map}
use Prim.Native.Nat.{ℕ, zero, suc, ◌+◌, ◌≤◌, ◌<◌}
use native.Mathlib.Nat.{not-suc-le-zero, le_of_suc-le-suc}
use native.Mathlib.Numerals.{add-one}
use lib.ListN.{length, set, get_or}

-- ---- f of each element in its place
module _ {A : Type 0} (f : A → A) where
  -- f of the first i, the others as they were
  unfoldable pub mapped : ℕ → List A → List A
  mapped zero xs = xs
  mapped (suc i) [] = []
  mapped (suc i) (x ∷ xs) = f x ∷ mapped i xs

  pub mapped_none : (xs : List A) → mapped 0 xs ≡ xs
  unfolding mapped
  mapped_none xs = refl

  mapped_suc : (d : A) (i : ℕ) (xs : List A) → i < length xs → set (mapped i xs) i (f (get_or xs i d)) ≡ mapped (suc i) xs
  unfolding mapped
  mapped_suc d i [] h = absurd (not-suc-le-zero h)
  mapped_suc d zero (x ∷ xs) h = refl
  mapped_suc d (suc i) (x ∷ xs) h = ap (λ (l : List A). f x ∷ l) (mapped_suc d i xs (le_of_suc-le-suc h))

  -- a store of f of what stood at i
  pub mapped_more : (d : A) (i : ℕ) (xs : List A) → i < length xs → set (mapped i xs) i (f (get_or xs i d)) ≡ mapped (i + 1) xs
  mapped_more d i xs h = rw add-one (mapped_suc d i xs h)

  -- what stands at i is what stood there
  pub mapped_at : (d : A) (i : ℕ) (xs : List A) → get_or (mapped i xs) i d ≡ get_or xs i d
  unfolding mapped
  mapped_at d zero xs = refl
  mapped_at d (suc i) [] = refl
  mapped_at d (suc i) (x ∷ xs) = mapped_at d i xs

  pub mapped_all : (i : ℕ) (xs : List A) → length xs ≤ i → mapped i xs ≡ map f xs
  unfolding mapped
  mapped_all zero [] h = refl
  mapped_all zero (x ∷ xs) h = absurd (not-suc-le-zero h)
  mapped_all (suc i) [] h = refl
  mapped_all (suc i) (x ∷ xs) h = ap (λ (l : List A). f x ∷ l) (mapped_all i xs (le_of_suc-le-suc h))

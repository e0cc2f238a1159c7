-- Sets worked out by hand: how many resources each has, whether it has one at most, the lowest, and the next after a place.
use mathlib.Core.Path.{◌≡◌, refl}
use mathlib.Core.Bool.{Bool, true, false}
use Prim.Native.Nat.{ℕ, ◌+◌, ◌-◌, ◌^◌}
use Rattle.plan.specs.Sets.{has, at_most_one, size, lowest, after, next}

-- a set of so many resources, one at most or not, and the lowest of them
abbrev Counted : ℕ → ℕ → Bool → ℕ → Type 0
Counted s n one k = (size 64 s ≡ n) × (at_most_one s ≡ one) × (lowest 64 s ≡ k)

-- none; the first; the fourth; the last; the second and the fourth; the first and the last; the last two; all
pub counted_cases : Counted 0 0 true 64 × Counted 1 1 true 0 × Counted 8 1 true 3 × Counted (2 ^ 63) 1 true 63
    × Counted 10 2 false 1 × Counted (2 ^ 63 + 1) 2 false 0 × Counted (2 ^ 63 + 2 ^ 62) 2 false 62 × Counted (2 ^ 64 - 1) 64 false 0
unfolding size at_most_one lowest has
counted_cases =
    ((refl, refl, refl), (refl, refl, refl), (refl, refl, refl), (refl, refl, refl), (refl, refl, refl), (refl, refl, refl), (refl, refl, refl), (refl, refl, refl))

-- in the set of the second and the fourth; of the first and the last; of all; and of none. 64 where none is left
pub next_cases : (next 64 10 0 ≡ 1) × (next 64 10 1 ≡ 3) × (next 64 10 2 ≡ 3) × (next 64 10 3 ≡ 64)
    × (next 64 (2 ^ 63 + 1) 0 ≡ 63) × (next 64 (2 ^ 63 + 1) 62 ≡ 63) × (next 64 (2 ^ 63 + 1) 63 ≡ 64)
    × (next 64 (2 ^ 64 - 1) 0 ≡ 1) × (next 64 (2 ^ 64 - 1) 62 ≡ 63) × (next 64 (2 ^ 64 - 1) 63 ≡ 64)
    × (next 64 0 0 ≡ 64)
unfolding next after lowest has
next_cases = (refl, refl, refl, refl, refl, refl, refl, refl, refl, refl, refl)

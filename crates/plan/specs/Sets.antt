-- A set of resources as a number: "bit k is resource k". What holds of sets is said over numbers, whatever their width.
use Rattle.std.specs.Prelude.{◌≡◌, Bool, true, ℕ, zero, suc, ◌+◌, ◌-◌, ◌*◌, ◌/◌, ◌%◌, ◌^◌, eqb}
use Rattle.std.specs.Int.Bits.{bit_and, bit_or, bit_xor}
use Rattle.integers.specs.Tests.{if}

-- a task's set has so many bits: the constant `SET_BITS`
abbrev pub set_bits : ℕ
set_bits = 64

-- resource k is in the set
unfoldable pub has : ℕ → ℕ → Bool
has s zero = eqb (s % 2) 1
has s (suc k) = has (s / 2) k

-- resource k is in the set, and no other
unfoldable pub only : ℕ → ℕ → Bool
only s k = eqb s (2 ^ k)

-- a set of one resource, or of none: nothing is left without its lowest bit (the law `size_at_most_one`)
unfoldable pub at_most_one : ℕ → Bool
at_most_one s = eqb (bit_and s (s - 1)) 0

-- the set without resource k
unfoldable pub without : ℕ → ℕ → ℕ
without s k = if (has s k) (s - 2 ^ k) s

-- every resource of s' is one of s
abbrev pub SubSet : ℕ → ℕ → Type 0
SubSet s' s = (k : ℕ) → has s' k ≡ true → has s k ≡ true

-- how many of the first m places the set has
unfoldable pub size : ℕ → ℕ → ℕ
size zero s = 0
size (suc m) s = s % 2 + size m (s / 2)

-- the lowest of the first m places that the set has; m where it has none of them (the laws `lowest_in`, `below_lowest`)
unfoldable pub lowest : ℕ → ℕ → ℕ
lowest zero s = 0
lowest (suc m) s = if (has s 0) 0 (suc (lowest m (s / 2)))

-- the places of the set after k (the laws `after_out`, `after_has`)
unfoldable pub after : ℕ → ℕ → ℕ
after s k = s / 2 ^ suc k * 2 ^ suc k

-- the next place after k, of the first m, that the set has; m where it has none (the laws `next_in`, `before_next`)
unfoldable pub next : ℕ → ℕ → ℕ → ℕ
next m s k = lowest m (after s k)

-- the places of either set (the law `union_has`)
unfoldable pub union : ℕ → ℕ → ℕ
union a b = bit_or a b

-- the places of one of two sets but not of the other: where it has none, they agree (the law `differing_has`)
unfoldable pub differing : ℕ → ℕ → ℕ
differing a b = bit_xor a b

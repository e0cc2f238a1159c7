-- Ranges: the values of one, listed, and the range from the smallest to the largest value that a test leaves.
use Rattle.std.specs.Prelude.{List, [], ◌∷◌, Bool, ℕ, zero, suc, ℤ, pos, negsuc, ◌-ℤ◌, nat_abs, ◌≤ℤ◌}
use Rattle.std.proofs.Math.IntN.{suc_ℤ}
use Rattle.std.specs.Int.Signed.{le_z}
use Rattle.integers.specs.Whole.{eq_z}
use Rattle.integers.specs.Tests.{and, filter}

-- lowest and highest value, both inside
pub record Range : Type 0 where
  pub low : ℤ
  pub high : ℤ

abbrev pub range : ℤ → ℤ → Range
range a b = record { low = a; high = b }

unfoldable pub within : Range → ℤ → Bool
within s v = and (le_z s.low v) (le_z v s.high)

-- the same two ends
unfoldable pub same_range : Range → Range → Bool
same_range a b = and (eq_z a.low b.low) (eq_z a.high b.high)

-- the range s lies within the ends e, and its low is not above its high
unfoldable pub fits : Range → Range → Bool
fits e s = and (le_z e.low s.low) (and (le_z s.low s.high) (le_z s.high e.high))

-- the range s' lies inside s
pub record Sub (s' s : Range) : Type 0 where
  pub above : s.low ≤ℤ s'.low
  pub below : s'.high ≤ℤ s.high

-- how far apart its two ends are
unfoldable pub width : Range → ℕ
width s = nat_abs (s.high -ℤ s.low)

-- n values from a upwards
unfoldable pub up_from : ℤ → ℕ → List ℤ
up_from a zero = []
up_from a (suc n) = a ∷ up_from (suc_ℤ a) n

-- how many values lie between two whose difference is given
unfoldable pub count_of : ℤ → ℕ
count_of (pos n) = suc n
count_of (negsuc n) = zero

-- every value of a range, from the lowest
unfoldable pub values : Range → List ℤ
values s = up_from s.low (count_of (s.high -ℤ s.low))

unfoldable pub last : ℤ → List ℤ → ℤ
last x [] = x
last x (y ∷ ys) = last y ys

pub data Left : Type 0 where
  Nothing : Left
  Some : Range → Left

-- of values that rise: from the smallest to the largest
unfoldable pub hull : List ℤ → Left
hull [] = Nothing
hull (x ∷ xs) = Some (range x (last x xs))

-- what a test leaves of a range; values dropped in between stay inside
unfoldable pub left : (ℤ → Bool) → Range → Left
left p s = hull (filter p (values s))

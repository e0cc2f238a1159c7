-- A value within a range, and a range within its ends, as orders.
use Rattle.std.specs.Prelude.{ℤ, ◌≤ℤ◌}
use Rattle.integers.specs.Hull.{Range}

pub record Within (s : Range) (v : ℤ) : Type 0 where
  pub least : s.low ≤ℤ v
  pub most : v ≤ℤ s.high

-- and its low not above its high
pub record InEnds (e s : Range) : Type 0 where
  pub least : e.low ≤ℤ s.low
  pub rises : s.low ≤ℤ s.high
  pub most : s.high ≤ℤ e.high

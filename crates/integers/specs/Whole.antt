-- Whole numbers: the larger and the smaller of two, and a test that two are the same.
use Rattle.std.specs.Prelude.{Bool, false, cond, eqb, ℤ, pos, negsuc}
use Rattle.std.specs.Int.Signed.{lt_z}

abbrev pub larger : ℤ → ℤ → ℤ
larger a b = cond (lt_z a b) b a

abbrev pub smaller : ℤ → ℤ → ℤ
smaller a b = cond (lt_z b a) b a

abbrev pub eq_z : ℤ → ℤ → Bool
eq_z (pos a) (pos b) = eqb a b
eq_z (pos a) (negsuc b) = false
eq_z (negsuc a) (pos b) = false
eq_z (negsuc a) (negsuc b) = eqb a b

-- A list of bands is known by its first 64 and its length: where these pass, a 65th is the first that does not.
use mathlib.Core.Path.{◌≡◌, refl}
use mathlib.Core.Bool.{Bool, true, false}
use mathlib.Core.List.{List, [], ◌∷◌}
use Prim.Native.Nat.{ℕ, zero, suc, ◌+◌, ◌-◌}
use native.Mathlib.Omega.{arith}
use lib.Dec.{ltb}
use lib.ListN.{length, take}
use borrow.Author.Tests.{lt-ltb, le-ltb}
use Rattle.integers.specs.Tests.{and}
use Rattle.plan.specs.declared.Band.{Band}
use Rattle.plan.specs.declared.Refusal.TheVariants.{BandOutside}
use Rattle.plan.specs.Refusals.{Checked}
use Rattle.plan.specs.Tasks.{most_bands}
use Rattle.rules.specs.Calls.{or_else, refuse_if, earlier, band_fits, band_unless, bands_after, bands_fit}

-- a list that is too long
abbrev pub too_many : ℕ → Checked
too_many bands = refuse_if (ltb most_bands bands) (BandOutside most_bands)

-- a refusal stays the first
unless_then : (t : Bool) (k : ℕ) (c d e : Checked) → c ≡ or_else d e → band_unless t k c ≡ or_else (band_unless t k d) e
unless_then true k c d e h = h
unless_then false k c d e h = refl

-- m places are left for the bands from k on, of so many in all
after_first : (n m k bands : ℕ) (a : Band) (bs : List Band) → k + m ≡ most_bands → k + length bs ≡ bands
    → bands_after n k a bs ≡ or_else (bands_after n k a (take m bs)) (too_many bands)
unfolding bands_after
after_first n zero k bands a [] e l = rw (le-ltb most_bands bands (omega arith))
after_first n (suc m) k bands a [] e l = rw (le-ltb most_bands bands (omega arith))
after_first n zero k bands a (b ∷ bs) e l =
    let q : k ≡ most_bands = omega arith in
    rw (le-ltb k most_bands (omega arith), lt-ltb most_bands bands (omega arith), q)
after_first n (suc m) k bands a (b ∷ bs) e l =
    unless_then (and (ltb k most_bands) (and (earlier a b) (band_fits n b))) k _ _ _ (after_first n m (suc k) bands b bs (omega arith) (omega arith))

pub bands_first : (n : ℕ) (bs : List Band) → bands_fit n bs ≡ or_else (bands_fit n (take most_bands bs)) (too_many (length bs))
unfolding bands_fit
bands_first n [] = refl
bands_first n (b ∷ bs) = unless_then (band_fits n b) 0 _ _ _ (after_first n (most_bands - 1) 1 (length (b ∷ bs)) b bs refl (omega arith))

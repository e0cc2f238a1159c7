-- What the entry checks leave of the bands: those of each place come in rising days, each within its ends.
use Rattle.std.specs.Prelude.{◌≡◌, true, List, [], ◌∷◌, ℕ, eqb, ℤ, ◌<ℤ◌}
use Rattle.std.proofs.Math.IntN.{pred_ℤ}
use Rattle.integers.specs.Tests.{if, all}
use Rattle.plan.specs.declared.Band.{Band}
use Rattle.plan.specs.Days.{day_low}
use Rattle.rules.specs.Calls.{band_ends}

-- the bands of place r come in rising days, all of them after day d
unfoldable pub Rises : ℕ → ℤ → List Band → Type 0
Rises r d [] = Unit
Rises r d (b ∷ bs) =
    (eqb b.place r ≡ true → d <ℤ b.from.0) × Rises r (if (eqb b.place r) b.from.0 d) bs

-- before every day that a band can have
abbrev pub early : ℤ
early = pred_ℤ day_low

-- what a resource's step asks of the bands
pub record Banded (r : ℕ) (bs : List Band) : Type 0 where
  pub ends : all band_ends bs ≡ true
  pub rises : Rises r early bs

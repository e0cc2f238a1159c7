-- The check from place k on: the bands that are left give the answer, one law where the next passes and one where it does not.
use mathlib.Core.Path.{◌≡◌, refl}
use mathlib.Core.Bool.{true, false}
use mathlib.Core.List.{List}
use Prim.Native.Nat.{ℕ, zero, suc, ◌+◌, ◌-◌, ◌≤◌, ◌<◌}
use native.Mathlib.Omega.{arith}
use native.Mathlib.Numerals.{add-one}
use borrow.Author.Tests.{ne_eqb}
use lib.ListN.{length, get_or, drop, drop_of_length-le}
use lib.Seq.{drop-cons}
use Rattle.std.proofs.Common.{Err}
use Rattle.plan.specs.declared.Band.{Band}
use Rattle.plan.specs.declared.Refusal.TheVariants.{BandOutside}
use Rattle.plan.specs.Refusals.{Checked, accepted}
use Rattle.plan.specs.Tasks.{no_band}
use Rattle.rules.specs.Calls.{band_unless, bands_after, bands_fit}
use Rattle.bands.specs.Checks.{passes_at}

module _ (n : ℕ) (bs : List Band) where
  -- the bands from place k on, behind the one before it
  unfoldable pub bands_from : ℕ → Checked
  bands_from zero = bands_fit n bs
  bands_from (suc k) = bands_after n (suc k) (get_or bs k no_band) (drop (suc k) bs)

  pub bands_start : bands_from 0 ≡ bands_fit n bs
  unfolding bands_from
  bands_start = refl

  bands_at : (k : ℕ) → k < length bs → bands_from k ≡ band_unless (passes_at n bs k) k (bands_from (suc k))
  unfolding bands_from bands_fit bands_after
  bands_at zero h = rw (drop-cons bs 0 no_band h)
  bands_at (suc k) h = let e : suc k - 1 ≡ k = omega arith in rw (drop-cons bs (suc k) no_band h, ne_eqb (suc k) 0 (λ e. omega arith), e)

  pub bands_past : (k : ℕ) → k < length bs → passes_at n bs k ≡ true → bands_from (k + 1) ≡ bands_from k
  bands_past k h e = rw (add-one, bands_at k h, e)

  pub bands_here : (k : ℕ) → k < length bs → passes_at n bs k ≡ false → bands_from k ≡ Err (BandOutside k)
  bands_here k h e = rw (bands_at k h, e)

  pub bands_end : (k : ℕ) → length bs ≤ k → bands_from k ≡ accepted
  unfolding bands_from bands_fit bands_after
  bands_end zero h = rw (drop_of_length-le bs {i = 0} h)
  bands_end (suc k) h = rw (drop_of_length-le bs {i = suc k} h)

pub ruleset bands_steps = (bands_start, bands_past, bands_here, bands_end)

-- The test of refusal 13 that one band of a list passes: one of the first 64, behind the one before it, within its ends.
use Rattle.std.specs.Prelude.{Bool, List, ℕ, ◌-◌, eqb, ltb, get_or}
use Rattle.integers.specs.Tests.{and, or}
use Rattle.plan.specs.declared.Band.{Band}
use Rattle.plan.specs.Tasks.{no_band, most_bands}
use Rattle.rules.specs.Calls.{earlier, band_fits}

-- the first is behind none
abbrev pub rises_at : List Band → ℕ → Bool
rises_at bs k = or (eqb k 0) (earlier (get_or bs (k - 1) no_band) (get_or bs k no_band))

abbrev pub passes_at : ℕ → List Band → ℕ → Bool
passes_at n bs k = and (ltb k most_bands) (and (rises_at bs k) (band_fits n (get_or bs k no_band)))

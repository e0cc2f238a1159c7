-- The bands of place r between two days: those up to the first day only move the start, those from the last day on count for nothing,
-- each of the others is one change of the limit.
use Rattle.std.specs.Prelude.{List, [], ◌∷◌, ◌++◌, ℕ, eqb, ℤ, pos, ◌-ℤ◌}
use Rattle.std.specs.Int.Signed.{lt_z, le_z}
use Rattle.integers.specs.Tests.{if}
use Rattle.plan.specs.declared.Band.{Band}
use Rattle.plan.specs.declared.Power.{Power}
use Rattle.rules.specs.Frame.{stands}
use Rattle.events.specs.Keys.{key_of}
use Rattle.levels.specs.declared.Levels.{Levels}

-- before the first band: n keys, those of others, and the resource's own limit
abbrev pub own_limit : ℕ → Power → Levels
own_limit n x = record { events = n; start = x; limit = x }

-- the key of a band of this place, x being the limit before it: as much more slack as the limit falls, and no task
unfoldable pub band_key : ℤ → ℤ → ℤ → Band → List ℕ
band_key low high x b =
    if (le_z b.from.0 low) []
    (if (lt_z b.from.0 high) (key_of b.from.0 (x -ℤ b.limit.0) (pos 0) ∷ []) [])

-- those of any band: at most one
unfoldable pub band_events : ℕ → ℤ → ℤ → ℤ → Band → List ℕ
band_events r low high x b = if (eqb b.place r) (band_key low high x b) []

-- the limit after the band
unfoldable pub limit_after : ℕ → ℤ → Band → ℤ
limit_after r x b = if (eqb b.place r) b.limit.0 x

-- the limit on day low after the band
unfoldable pub start_after : ℕ → ℤ → ℤ → Band → ℤ
start_after r low x b = if (stands r low b) b.limit.0 x

-- those of every band, each after the limit of the one before it
unfoldable pub band_keys : ℕ → ℤ → ℤ → ℤ → List Band → List ℕ
band_keys r low high x [] = []
band_keys r low high x (b ∷ bs) = band_events r low high x b ++ band_keys r low high (limit_after r x b) bs

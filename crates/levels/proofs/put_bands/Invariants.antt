use mathlib.Core.Path.{◌≡◌}
use mathlib.Core.List.{◌++◌}
use Prim.Native.Nat.{◌+◌, ◌≤◌}
use lib.ListN.{length, take, drop}
use Rattle.integers.specs.Ends.{Within}
use Rattle.plan.specs.Powers.{power_ends}
use Rattle.rules.specs.Frame.{limit_from}
use Rattle.levels.specs.Levels.{band_keys}
use Rattle.levels.proofs.put_bands.Given as goal

abbrev pub invariant-loop-b : goal.invariant-loop-b
invariant-loop-b l =
    record {
      in_range : l.b-index ≤ length l.bands;
      same_length : length l.keys ≡ length l.initial.keys;
      few : l.c.events ≤ l.n + l.b-index;
      laid :
          take l.c.events l.keys ++ band_keys l.r l.low.0 l.high.0 l.c.limit.0 (drop l.b-index l.bands)
          ≡ take l.n l.initial.keys ++ band_keys l.r l.low.0 l.high.0 l.fn.limit.0 l.bands;
      start : limit_from l.r l.c.start.0 (drop l.b-index l.bands) l.low.0 ≡ limit_from l.r l.fn.limit.0 l.bands l.low.0;
      within : Within power_ends l.c.limit.0;
    }

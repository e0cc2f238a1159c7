use mathlib.Core.Path.{◌≡◌}
use Rattle.rules.specs.Calls.{bands_fit}
use Rattle.bands.proofs.Checks.{bands_from}
use Rattle.bands.proofs.check_bands.Given as goal

abbrev pub invariant-loop-k : goal.invariant-loop-k
invariant-loop-k l = bands_from l.resources l.bands l.k ≡ bands_fit l.resources l.bands

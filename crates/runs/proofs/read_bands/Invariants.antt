use mathlib.Core.Path.{◌≡◌}
use Prim.Native.Nat.{◌-◌}
use Rattle.format.specs.Reading.{looked_at}
use Rattle.runs.proofs.Going.{Going}
use Rattle.runs.proofs.read_bands.Given as goal

abbrev pub invariant-loop-reader : goal.invariant-loop-reader
invariant-loop-reader l =
    (l.reader.file ≡ l.initial.reader.file) × Going l.initial.reader.file.now l.initial.reader.at l.initial.bands l.k l.reader.at l.bands

abbrev pub decreases-loop-reader : goal.decreases-loop-reader
decreases-loop-reader l = looked_at - l.k

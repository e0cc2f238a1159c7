use mathlib.Core.Path.{◌≡◌}
use lib.ListN.{length}
use Rattle.format.proofs.Runs.{Reading}
use Rattle.runs.proofs.read_run.Given as goal

abbrev pub invariant-loop-x : goal.invariant-loop-x
invariant-loop-x g l =
    (l.reader.file ≡ l.initial.reader.file) × Reading g.T.Recorded.layout l.initial.reader.file.now l.initial.reader.at (length l.initial.list) l.initial.list l.x-index l.reader.at l.list

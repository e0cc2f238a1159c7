use Rattle.format.proofs.Runs.{Storing}
use Rattle.writer.proofs.put_records.Given as goal

abbrev pub invariant-loop-x : goal.invariant-loop-x
invariant-loop-x g l = Storing g.R.Stored.layout l.list l.initial.out l.from l.x-index l.at l.out

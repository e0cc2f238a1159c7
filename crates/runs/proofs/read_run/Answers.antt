-- What is still due from the reader on decides; the records still to come, put into the list as it is now, give the list with all of them.
use native.Mathlib.Omega.{arith}
use mathlib.Core.Path.{sym, ap, ◌∙◌}
use lib.ListN.{set}
use Rattle.std.proofs.lemmas.Result.{err_from_is_err_and}
use Rattle.format.proofs.Runs.{reading_goes_on, reading_refused, reading_ends}
use Rattle.reader.proofs.Handing.{one_taken, none_taken}
use Rattle.runs.proofs.read_run.Goals as goal

pub returns-in_err-x-clause-read : goal.returns-in_err-x-clause-read
returns-in_err-x-clause-read g c =
    let l = c.loop-x in
    let p = err_from_is_err_and c.from_residual.result c.from_residual.ensures.1 in
    rw (p.1, p.2)
    (reading_refused l.invariant.1 (omega arith) (rw l.invariant.0 at (none_taken g.T.Recorded.layout l.reader.file.now l.reader.at (sym c.take.ensures.taken ∙ c.in_err-x.was))))

pub loop-x-preserved : goal.loop-x-preserved
loop-x-preserved g c =
    let l = c.loop-x in
    let t = rw l.invariant.0 at (one_taken g.T.Recorded.layout l.reader.file.now l.reader.at (sym c.take.ensures.taken ∙ c.in_ok-x.was)) in (
      c.take.ensures.same_file ∙ l.invariant.0,
      rw c.in_ok-x.ensures.past (reading_goes_on l.invariant.1 (omega arith) t.0 (ap (set l.list l.x-index) t.1)),
    )

pub returns-clause-read : goal.returns-clause-read
returns-clause-read g c = reading_ends c.loop-x.invariant.1 (omega arith) (omega arith)

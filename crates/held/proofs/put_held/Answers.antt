-- The span of the tasks fits into keys.
use Rattle.held.proofs.Adds.{span_fits}
use Rattle.held.proofs.put_held.Goals as goal

pub put_span-requires-clause-change_fits : goal.put_span-requires-clause-change_fits
put_span-requires-clause-change_fits c = rw c.span_of.ensures (span_fits c.args.r c.args.tasks.now c.requires.each)

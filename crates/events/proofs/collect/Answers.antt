-- `events::collect`: a turn of the loop for each task; at the end there is no task left.
use native.Mathlib.Omega.{arith}
use mathlib.Core.Path.{◌∙◌}
use mathlib.Core.List.{append-nil}
use lib.ListN.{take, get_or}
use Rattle.plan.specs.Tasks.{no_task}
use Rattle.integers.proofs.Lists.{each_at}
use Rattle.events.specs.Events.{keys_of}
use Rattle.events.proofs.Laid.{laid_all}
use Rattle.events.proofs.Loops.{events_few, keys_more, extremes_more, keys_end, extremes_end}
use Rattle.events.proofs.collect.Goals as goal

pub collect_task-c-requires-clause-bounded : goal.collect_task-c-requires-clause-bounded
collect_task-c-requires-clause-bounded c = each_at _ c.loop-t.t-index c.requires.each (omega arith)

pub loop-t-preserved : goal.loop-t-preserved
unfolding no_task
loop-t-preserved c =
    let k = c.collect_task-c in
    let l = c.loop-t in
    let ts = c.args.tasks.now in
    record {
      in_range = omega arith;
      few = omega (arith, k.ensures.laid.many, events_few c.args.r (get_or ts l.t-index no_task));
      laid = keys_more c.args.r _ ts l.t-index (omega arith) _ _ _ _ k.ensures.laid ∙ l.invariant.laid;
      extremes = rw k.ensures.extremes_value (extremes_more c.args.r _ ts l.t-index (omega arith) l.c.extremes ∙ l.invariant.extremes);
    }

pub returns-clause-laid : goal.returns-clause-laid
returns-clause-laid c =
    let l = c.loop-t in
    let ts = c.args.tasks.now in
    laid_all _ _ l.c.events (keys_of c.args.r ts) (omega arith)
    (rw (keys_end c.args.r ts l.t-index (omega arith), append-nil (take l.c.events l.keys)) at l.invariant.laid)

pub returns-clause-extremes_value : goal.returns-clause-extremes_value
returns-clause-extremes_value c =
    let l = c.loop-t in rw (extremes_end c.args.r l.c.extremes c.args.tasks.now l.t-index (omega arith)) at l.invariant.extremes

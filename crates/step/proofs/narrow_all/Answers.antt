-- From the front: the first tasks are done, the others as they entered; whatever the stretches tell of, what is left to do gives the answer.
use native.Mathlib.Omega.{arith}
use mathlib.Core.Path.{sym, ◌∙◌}
use Rattle.plan.specs.Tasks.{no_task}
use Rattle.step.proofs.Under.{least_under}
use Rattle.step.proofs.Narrowing.{narrowing_start, next_fits, narrowing_kept, narrowing_same, narrowing_out, narrowing_end}
use Rattle.step.proofs.narrow_all.Goals.{then-asks_more+in_ok-u, else-asks_more}
use Rattle.step.proofs.narrow_all.Goals as goal

pub loop-t-init : goal.loop-t-init
loop-t-init c = narrowing_start c.args.r c.args.stretches.now c.args.tasks.now

pub asks_more-requires : goal.asks_more-requires
unfolding no_task
asks_more-requires c =
    let l = c.loop-t in
    (c.requires.0, next_fits c.args.r c.args.stretches.now c.args.tasks.now c.requires.1 l.t-index l.tasks l.touched l.invariant (omega arith))

pub narrow-requires : goal.narrow-requires
unfolding no_task
narrow-requires c =
    let l = c.loop-t in
    record {
      place = c.requires.0;
      fits = next_fits c.args.r c.args.stretches.now c.args.tasks.now c.requires.1 l.t-index l.tasks l.touched l.invariant (omega arith);
    }

pub returns-in_err-u-clause-outcome : goal.returns-in_err-u-clause-outcome
unfolding no_task
returns-in_err-u-clause-outcome c =
    let l = c.loop-t in
    rw c.from_residual.ensures
    (narrowing_out c.args.r c.args.stretches.now c.args.tasks.now c.requires.1 l.t-index l.tasks l.touched l.invariant (omega arith)
    c.narrow.result c.narrow.ensures (sym c.ok.ensures.value ∙ c.in_err-u.was))

pub loop-t-preserved : goal.loop-t-preserved
unfolding no_task
loop-t-preserved c =
    let l = c.loop-t in
    elim c.if-asks_more.branch [
      | then-asks_more+in_ok-u w ↦
          let p = w.put_changed-touched.ensures in
          rw (w.tasks-is, w.touched-is, p.after, p.noted)
          (narrowing_kept c.args.r c.args.stretches.now c.args.tasks.now c.requires.1 l.t-index l.tasks l.touched l.invariant (omega arith)
          w.narrow.result w.narrow.ensures w.in_ok-u.u (sym w.ok.ensures.value ∙ w.in_ok-u.was))
      | else-asks_more w ↦
          rw (w.tasks-is, w.touched-is)
          (narrowing_same c.args.r c.args.stretches.now c.args.tasks.now c.requires.1 l.t-index l.tasks l.touched l.invariant (omega arith)
          c.of-least.result (rw c.of-least.ensures (least_under c.args.stretches.now)) (sym c.asks_more.ensures ∙ w.if-asks_more.false))
    ]

pub returns-clause-outcome : goal.returns-clause-outcome
returns-clause-outcome c =
    let l = c.loop-t in
    narrowing_end c.args.r c.args.stretches.now c.args.tasks.now l.t-index l.tasks l.touched l.invariant (omega arith)

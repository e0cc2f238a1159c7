-- Worked out at least, on the plan as it is for its sense, and back.
use Rattle.std.specs.Prelude.{Ok, Err}
use mathlib.Core.Path.{◌≡◌, sym, ap, ◌∙◌}
use Rattle.std.proofs.Common.{rules}
use Rattle.plan.specs.declared.Sense.TheVariants.{AtLeast}
use Rattle.plan.specs.Refusals.{Answer, accepted}
use Rattle.rules.specs.Frame.{framed}
use Rattle.rules.specs.Calls.{check, call_of, result_of}
use Rattle.rules.proofs.Calls.{call_keeps}
use Rattle.negation.specs.Senses.{tasks_for, resources_for, bands_for, result_for}
use Rattle.negation.proofs.Senses.{call_for, call_back, resources_twice, bands_twice}
use Rattle.engine.proofs.Calls.{accepted_for, held_for}
use Rattle.engine.proofs.apply.Goals as goal

pub apply_at_least-requires : goal.apply_at_least-requires
apply_at_least-requires c =
    let f = framed c.args.sense c.args.resources.now c.args.bands.now in
    let n = c.negate_for.ensures in
    let k = c.negate_for.auto in (
      rw k.resources c.requires.0,
      record {
        accepted = rw (n.resources, n.bands, n.tasks) (accepted_for f c.args.tasks.now c.requires.1.accepted);
        lent = rw (k.bands, k.tasks, n.resources, held_for c.args.sense c.args.resources.now) c.requires.1.lent;
      },
    )

pub returns-in_err-n-clause-answered : goal.returns-in_err-n-clause-answered
returns-in_err-n-clause-answered c =
    let f = framed c.args.sense c.args.resources.now c.args.bands.now in
    let ts = c.args.tasks.now in
    let n = c.negate_for.ensures in
    let a : Answer = Err c.in_err-n.field-0.0 in
    let e : c.from_residual.result ≡ a = search rules in
    let out : result_of a (tasks_for c.args.sense ts) ts ≡ result_for c.args.sense (call_of c.args.c f ts) =
    (rw (n.resources, n.bands, n.tasks) at c.in_err-n.ensures.answered) ∙ call_for c.args.c f ts in
    rw e (call_back c.args.sense a ts ts (call_of c.args.c f ts) out)

pub negate_for-requires-2 : goal.negate_for-requires-2
negate_for-requires-2 c =
    let f = framed c.args.sense c.args.resources.now c.args.bands.now in
    let n = c.negate_for.ensures in
    let g = framed AtLeast c.negate_for.new.resources c.negate_for.new.bands in
    let vs = c.negate_for.new.tasks in
    let a : check g vs ≡ accepted = rw (n.resources, n.bands, n.tasks) (accepted_for f c.args.tasks.now c.requires.1.accepted) in
    (call_keeps g vs c.args.c c.in_ok-n.n c.apply_at_least.new.tasks a (sym c.in_ok-n.ensures.answered)).accepted

pub returns-clause-answered : goal.returns-clause-answered
returns-clause-answered c =
    let f = framed c.args.sense c.args.resources.now c.args.bands.now in
    let ts = c.args.tasks.now in
    let us = c.apply_at_least.new.tasks in
    let n = c.negate_for.ensures in
    let a : Answer = Ok c.in_ok-n.n in
    let out : result_of a (tasks_for c.args.sense ts) us ≡ result_for c.args.sense (call_of c.args.c f ts) =
    (rw (n.resources, n.bands, n.tasks) at c.in_ok-n.ensures.answered) ∙ call_for c.args.c f ts in
    rw c.negate_for-2.ensures.tasks (call_back c.args.sense a ts us (call_of c.args.c f ts) out)

pub returns-clause-restored : goal.returns-clause-restored
returns-clause-restored c =
    let n = c.negate_for.ensures in
    let off = c.negate_for-2.ensures in (
      off.resources ∙ ap (resources_for c.args.sense) n.resources ∙ resources_twice c.args.sense c.args.resources.now,
      off.bands ∙ ap (bands_for c.args.sense) n.bands ∙ bands_twice c.args.sense c.args.bands.now,
    )

-- What passed the checks fits a file; where the call is done, what is left is accepted again and as long in a file.
use mathlib.Core.Path.{◌≡◌, sym, ◌∙◌}
use lib.ListN.{length}
use Rattle.plan.specs.declared.Sense.TheVariants.{AtLeast}
use Rattle.plan.specs.Refusals.{accepted}
use Rattle.rules.specs.Frame.{framed}
use Rattle.rules.specs.Calls.{check}
use Rattle.rules.proofs.Calls.{call_keeps}
use Rattle.rules.proofs.Checks.{accepts, check_sense}
use Rattle.calls.proofs.Files.{lent_is}
use Rattle.calls.proofs.apply_to_plan.Goals as goal

pub check_lent-requires : goal.check_lent-requires
check_lent-requires c =
    let a = accepts (framed AtLeast c.args.resources.now c.args.bands.now) c.args.tasks.now c.requires.accepted in
    (a.most, a.few_bands, a.few)

pub apply-requires : goal.apply-requires
apply-requires c = ((lent_is c.args.c (length c.args.resources.now) _ (length c.args.out.now) (sym c.in_ok-check_lent.ensures)).0, c.requires)

pub put_plan-requires-clause-accepted : goal.put_plan-requires-clause-accepted
put_plan-requires-clause-accepted c =
    let f = framed c.args.sense c.args.resources.now c.args.bands.now in
    let ts = c.args.tasks.now in
    let checked : check f ts ≡ accepted = check_sense c.args.sense AtLeast c.args.resources.now c.args.bands.now ts ∙ c.requires.accepted in
    let restored = c.in_ok-done.ensures.restored in
    rw (restored.0, restored.1) (call_keeps f ts c.args.c c.in_ok-done.done c.apply.new.tasks checked (sym c.in_ok-done.ensures.answered)).accepted

pub put_plan-requires-clause-room : goal.put_plan-requires-clause-room
put_plan-requires-clause-room c =
    rw (c.apply.auto.resources, c.apply.auto.bands, c.apply.auto.tasks) (lent_is c.args.c (length c.args.resources.now) _ (length c.args.out.now) (sym c.in_ok-check_lent.ensures)).1

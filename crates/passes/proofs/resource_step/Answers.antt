-- The step's own function asked with the resource at the place; what it touched is noted.
use Rattle.std.specs.Prelude.{Some}
use mathlib.Core.Path.{◌≡◌, refl, ◌∙◌}
use mathlib.Core.Bool.{not}
use lib.Dec.{eqb}
use Rattle.integers.specs.Tests.{or}
use Rattle.plan.specs.Sets.{union}
use Rattle.plan.specs.Tasks.{no_resource}
use Rattle.plan.specs.declared.Sense.TheVariants.{AtLeast}
use Rattle.rules.specs.Frame.{framed}
use Rattle.rules.proofs.Checks.{check_wide}
use Rattle.idle.proofs.Mask.{step_took}
use Rattle.passes.proofs.Ready.{place_small, ready_asks, ready_lent, at_place}
use Rattle.passes.proofs.resource_step.Goals.{then-p, else-p}
use Rattle.passes.proofs.resource_step.Goals as goal

pub step-requires-clause-asks : goal.step-requires-clause-asks
unfolding no_resource
step-requires-clause-asks c = ready_asks c.requires.ready.1 c.args.place c.requires.ready.0

pub step-requires-clause-lent : goal.step-requires-clause-lent
unfolding no_resource
step-requires-clause-lent c = ready_lent c.requires.ready.1 c.args.place c.requires.ready.0

pub step-requires-clause-each : goal.step-requires-clause-each
step-requires-clause-each c = check_wide (framed AtLeast c.args.resources.now c.args.bands.now) c.args.tasks.now c.requires.ready.1.accepted

pub returns-in_err-touched-clause-took : goal.returns-in_err-touched-clause-took
unfolding no_resource
returns-in_err-touched-clause-took c =
    let e = c.in_err-touched.ensures.outcome ∙ at_place c.args.resources.now c.args.bands.now c.args.place c.args.tasks.now in
    rw c.from_residual.ensures record { outcome = e; noted = tt }

pub without_resource-requires : goal.without_resource-requires
without_resource-requires c = place_small c.requires.ready.1 c.args.place c.requires.ready.0

pub returns-clause-took : goal.returns-clause-took
unfolding union no_resource
returns-clause-took c =
    let q = c.args.resources.now in
    let b = c.args.bands.now in
    let s = c.step in
    let n = c.in_ok-touched in
    let changed : c.if-p.result ≡ or c.args.p.changed (not (eqb n.touched 0)) =
    elim c.if-p.branch [ then-p w ↦ rw (w.result-is, w.if-p.true) refl | else-p w ↦ rw (w.result-is, w.if-p.false) refl ] in
    rw (changed, c.without_resource.ensures)
    (step_took (framed AtLeast q b) refl c.args.tasks.now s.new.tasks c.requires.ready.1.accepted (Some n.touched) n.ensures.noted c.args.place c.requires.ready.0
    c.args.p.changed c.args.p.mask c.requires.idle (n.ensures.outcome ∙ at_place q b c.args.place c.args.tasks.now))

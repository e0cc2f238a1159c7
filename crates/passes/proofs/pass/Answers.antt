-- Balance, then the steps on what it left; where balance finds no plan, so does the pass.
use Rattle.std.specs.Prelude.{Some}
use mathlib.Core.Path.{refl}
use mathlib.Core.Bool.{false}
use Rattle.integers.proofs.Lists.{each_so}
use Rattle.plan.specs.Sets.{union}
use Rattle.plan.specs.declared.Sense.TheVariants.{AtLeast}
use Rattle.rules.specs.Frame.{framed}
use Rattle.rules.proofs.Checks.{accepts}
use Rattle.idle.proofs.Mask.{after, balance_took}
use Rattle.idle.proofs.Passing.{pass_none, balance_keeps, pass_took}
use Rattle.passes.proofs.Ready.{stays_ready}
use Rattle.passes.proofs.pass.Goals as goal

pub balance-requires : goal.balance-requires
balance-requires c =
    each_so (λ t k. k.ranges) (accepts (framed AtLeast c.args.resources.now c.args.bands.now) c.args.tasks.now c.requires.ready.accepted).tasks

pub returns-in_err-touched-clause-took : goal.returns-in_err-touched-clause-took
returns-in_err-touched-clause-took c =
    let f = framed AtLeast c.args.resources.now c.args.bands.now in
    rw c.from_residual.ensures
    (pass_none f c.args.tasks.now c.requires.ready.accepted c.balance.new.tasks record { outcome = c.in_err-touched.ensures.after; noted = tt })

pub steps-requires-clause-ready : goal.steps-requires-clause-ready
steps-requires-clause-ready c =
    let f = framed AtLeast c.args.resources.now c.args.bands.now in
    let ts = c.args.tasks.now in
    let a = c.requires.ready.accepted in
    let us = c.balance.new.tasks in
    let n = c.in_ok-touched in
    let took = balance_took f refl ts us a (Some n.touched) n.ensures.noted c.args.mask c.requires.idle n.ensures.after in
    stays_ready c.requires.ready us c.args.work.now (balance_keeps f ts a (after false c.args.mask n.touched) us took).accepted c.balance.auto.tasks
    record { keys = refl; stretches = refl }

pub steps-requires-clause-idle : goal.steps-requires-clause-idle
unfolding union
steps-requires-clause-idle c =
    let f = framed AtLeast c.args.resources.now c.args.bands.now in
    let n = c.in_ok-touched in
    (balance_took f refl c.args.tasks.now c.balance.new.tasks c.requires.ready.accepted (Some n.touched) n.ensures.noted c.args.mask c.requires.idle n.ensures.after).noted.idle

pub returns-clause-took : goal.returns-clause-took
unfolding union
returns-clause-took c =
    let f = framed AtLeast c.args.resources.now c.args.bands.now in
    let ts = c.args.tasks.now in
    let a = c.requires.ready.accepted in
    let us = c.balance.new.tasks in
    let n = c.in_ok-touched in
    let took = balance_took f refl ts us a (Some n.touched) n.ensures.noted c.args.mask c.requires.idle n.ensures.after in
    pass_took f ts a (after false c.args.mask n.touched) us took c.steps.result c.steps.new.tasks c.steps.ensures.took

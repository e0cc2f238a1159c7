-- Room of our own is enough for what passed the checks.
use Rattle.std.proofs.Common.{◌≤◌, length, refl, ◌∙◌, arith}
use Rattle.plan.specs.declared.Sense.TheVariants.{AtLeast}
use Rattle.plan.specs.Tasks.{most_tasks}
use Rattle.rules.specs.Frame.{framed}
use Rattle.rules.proofs.Checks.{accepts, check_sense}
use Rattle.held.specs.Held.{some_held}
use Rattle.held.proofs.Room.{room_most}
use Rattle.report.proofs.report_plan.Goals as goal

pub apply-requires : goal.apply-requires
apply-requires c =
    let qs = c.args.resources.now in
    let bs = c.args.bands.now in
    let ts = c.args.tasks.now in
    let a = accepts (framed c.args.sense qs bs) ts c.requires.0 in
    let few = a.few in
    let few_bands = a.few_bands in
    let room = room_most (some_held qs) in
    (refl, record { accepted = check_sense AtLeast c.args.sense qs bs ts ∙ c.requires.0; lent = record { keys_long = omega arith; stretches_long = omega arith } })

pub put_plan-requires : goal.put_plan-requires
put_plan-requires c =
    let few : length c.args.tasks.now ≤ most_tasks = (accepts (framed c.args.sense c.args.resources.now c.args.bands.now) c.args.tasks.now c.requires.0).few in
    (omega (arith, c.apply.auto.tasks), c.requires.1)

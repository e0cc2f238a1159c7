-- Accepted, the lists fit arrays for the most that a plan counts.
use Rattle.std.proofs.Common.{rules, ◌≡◌}
use Rattle.plan.specs.Refusals.{accepted}
use Rattle.plan.specs.declared.Sense.TheVariants.{AtLeast}
use Rattle.rules.specs.Frame.{framed}
use Rattle.rules.specs.Calls.{check}
use Rattle.rules.proofs.Checks.{accepts}
use Rattle.lists.proofs.apply.Goals as goal

pub apply_checked-requires-clause-few : goal.apply_checked-requires-clause-few
apply_checked-requires-clause-few c =
    let e : check (framed AtLeast c.args.resources.now c.args.bands.now) c.args.tasks.now ≡ accepted = search rules in
    let a = accepts (framed AtLeast c.args.resources.now c.args.bands.now) c.args.tasks.now e in
    (a.most, a.few_bands, a.few)

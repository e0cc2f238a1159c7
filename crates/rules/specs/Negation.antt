-- The same plan, negated: "every height and limit negated and each height's two ends swapped", the limits of bands too. At most becomes at least,
-- and back.
use Rattle.std.specs.Prelude.{map}
use Rattle.plan.specs.declared.Resource.{Resource}
use Rattle.plan.specs.declared.Band.{Band}
use Rattle.plan.specs.declared.Sense.{Sense}
use Rattle.plan.specs.declared.Sense.TheVariants.{AtMost, AtLeast}
use Rattle.plan.specs.Powers.{negated_power}
use Rattle.rules.specs.Frame.{Frame}
use Rattle.rules.specs.Step.{negated}
use Rattle.rules.specs.Settle.{Settled}
use Rattle.rules.specs.Calls.{Result}

abbrev pub opposite : Sense → Sense
opposite AtMost = AtLeast
opposite AtLeast = AtMost

unfoldable pub negated_resource : Resource → Resource
negated_resource q = record { id = q.id; limit = negated_power q.limit; kind = q.kind }

unfoldable pub negated_band : Band → Band
negated_band b = record { place = b.place; from = b.from; limit = negated_power b.limit }

abbrev pub negated_frame : Frame → Frame
negated_frame f = record { sense = opposite f.sense; resources = map negated_resource f.resources; bands = map negated_band f.bands }

-- what settling or a call leaves, negated
abbrev pub negated_settled : Settled → Settled
negated_settled Settled.Refused = Settled.Refused
negated_settled (Settled.After n ts) = Settled.After n (map negated ts)
negated_settled (Settled.Unsettled ts) = Settled.Unsettled (map negated ts)

abbrev pub negated_result : Result → Result
negated_result x = record { answer = x.answer; tasks = map negated x.tasks }

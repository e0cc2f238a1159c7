-- A plan by its sense: at least it is worked on as it is, at most negated: "every height and limit negated and each height's two ends swapped".
use Rattle.std.specs.Prelude.{List, map}
use Rattle.plan.specs.declared.Task.{Task}
use Rattle.plan.specs.declared.Resource.{Resource}
use Rattle.plan.specs.declared.Band.{Band}
use Rattle.plan.specs.declared.Sense.{Sense}
use Rattle.plan.specs.declared.Sense.TheVariants.{AtMost, AtLeast}
use Rattle.rules.specs.Frame.{Frame, framed}
use Rattle.rules.specs.Step.{negated}
use Rattle.rules.specs.Calls.{Result}
use Rattle.rules.specs.Negation.{negated_resource, negated_band, negated_result}

abbrev pub tasks_for : Sense → List Task → List Task
tasks_for AtLeast ts = ts
tasks_for AtMost ts = map negated ts

abbrev pub resources_for : Sense → List Resource → List Resource
resources_for AtLeast qs = qs
resources_for AtMost qs = map negated_resource qs

abbrev pub bands_for : Sense → List Band → List Band
bands_for AtLeast bs = bs
bands_for AtMost bs = map negated_band bs

-- a frame as the steps work on it, at least
abbrev pub frame_for : Frame → Frame
frame_for f = framed AtLeast (resources_for f.sense f.resources) (bands_for f.sense f.bands)

-- what a call answers and leaves
abbrev pub result_for : Sense → Result → Result
result_for AtLeast x = x
result_for AtMost x = negated_result x

-- What steps and calls on lists ask, and what a call on them promises.
use Rattle.std.specs.Prelude.{◌≡◌, List, ◌+◌, length}
use Rattle.plan.specs.declared.Band.{Band}
use Rattle.plan.specs.declared.Call.{Call}
use Rattle.plan.specs.declared.Resource.{Resource}
use Rattle.plan.specs.declared.Sense.TheVariants.{AtLeast}
use Rattle.plan.specs.declared.Task.{Task}
use Rattle.plan.specs.Refusals.{Answer, accepted}
use Rattle.rules.specs.Frame.{Frame, framed}
use Rattle.rules.specs.Calls.{check, call_of, result_of}
use Rattle.held.specs.Held.{room_if, some_held}
use Rattle.profile.specs.declared.Work.{Work}
use Rattle.profile.specs.Lent.{Lent}

-- the lists hold a plan that passed the checks, and enough is lent to work in
pub record Ready (resources : List Resource) (bands : List Band) (tasks : List Task) (work : Work) : Type 0 where
  pub accepted : check (framed AtLeast resources bands) tasks ≡ accepted
  pub lent : Lent (length tasks) (room_if (some_held resources) + length bands) (length work.keys.now) (length work.stretches.now)

-- a call that was answered on tasks ts and left us
abbrev pub Answered : Call → Frame → List Task → Answer → List Task → Type 0
Answered c f ts a us = result_of a ts us ≡ call_of c f ts

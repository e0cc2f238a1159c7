-- The tasks of a plan that passed the checks, whatever its frame: the bound reads nothing of it.
use Rattle.plan.specs.Refusals.{accepted}
use Rattle.std.specs.Prelude.{◌≡◌, List}
use Rattle.plan.specs.declared.Task.{Task}
use Rattle.rules.specs.Frame.{Frame}
use Rattle.rules.specs.Calls.{check}

abbrev pub Entered : List Task → Type 0
Entered ts = (f : Frame) × (check f ts ≡ accepted)

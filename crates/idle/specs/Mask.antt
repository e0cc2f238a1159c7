-- The mask: a bit for each resource whose step may still change something. A bit that is clear saves a step and changes no answer.
use Rattle.std.specs.Prelude.{◌≡◌, Bool, false, not, List, filter, fold, ℕ, ◌<◌, Option, IfSome}
use Rattle.integers.specs.Tests.{or}
use Rattle.plan.specs.declared.Task.{Task}
use Rattle.plan.specs.Sets.{has, union}
use Rattle.rules.specs.Frame.{Frame, resource_count}
use Rattle.rules.specs.Balance.{Outcome}
use Rattle.rules.specs.Balance.Outcome.{Plan}
use Rattle.rules.specs.Step.{resource_step}
use Rattle.rules.specs.Settle.{same_tasks}
use Rattle.changes.specs.Changes.{outcome_of}
use Rattle.idle.specs.declared.Passed.{Passed}
use Rattle.idle.specs.Lively.{lively}

-- the places of the lively tasks, joined to m: at first only their resources can change something
unfoldable pub lively_places : ℕ → List Task → ℕ
lively_places m ts = fold (λ a t. union a t.set) m (filter lively ts)

-- where the bit is clear, the step of that resource would change nothing now
abbrev pub Idle : ℕ → Frame → List Task → Type 0
Idle mask f ts = (r : ℕ) → r < resource_count f → has mask r ≡ false → resource_step f r ts ≡ Plan ts

-- a step left us of ts: the mask is right again, and what has changed so far is noted
pub record Noted (f : Frame) (ts us : List Task) (before after : Bool) (mask : ℕ) : Type 0 where
  pub idle : Idle mask f us
  pub changed : after ≡ or before (not (same_tasks ts us))

-- some steps were taken on ts and left us: a plan or none, as the page has it; of a plan the mask is right, and what has changed so far is noted
pub record Took (taken : List Task → Outcome) (f : Frame) (before : Bool) (ts : List Task) (p : Option Passed) (us : List Task) : Type 0 where
  pub outcome : outcome_of p us ≡ taken ts
  pub noted : IfSome p (λ q. Noted f ts us before q.changed q.mask)

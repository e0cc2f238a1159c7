-- One task against a finished profile: what is asked, and the task that is left, put together from its parts.
use Rattle.std.specs.Prelude.{◌≡◌, Bool, true, false, List, ℕ, ◌<◌, ◌^◌, eqb, ℤ, pos, ◌+ℤ◌, ◌-ℤ◌, ◌≤ℤ◌, ◌<ℤ◌, Ok, Err}
use Rattle.std.specs.Int.Signed.{lt_z}
use Rattle.integers.specs.Tests.{if, and, any}
use Rattle.integers.specs.Whole.{larger}
use Rattle.integers.specs.Lists.{In}
use Rattle.integers.specs.Hull.{Left}
use Rattle.integers.specs.Hull.Left.{Nothing, Some}
use Rattle.plan.specs.declared.Task.{Task}
use Rattle.plan.specs.declared.Day.{Day}
use Rattle.plan.specs.declared.Power.{Power}
use Rattle.plan.specs.declared.Span.{Span}
use Rattle.plan.specs.declared.Value.TheVariants.{Origin, Duration, End, Set}
use Rattle.plan.specs.Refusals.{Narrowed}
use Rattle.plan.specs.Days.{days_of, empty_span, cut_to}
use Rattle.plan.specs.Powers.{power}
use Rattle.plan.specs.Sets.{set_bits, only, without}
use Rattle.plan.specs.Tasks.{Bounded}
use Rattle.rules.specs.Frame.{Floor}
use Rattle.rules.specs.Step.{shortfall, listed_days, narrowed}
use Rattle.stretches.specs.declared.Stretch.{Stretch}
use Rattle.stretches.specs.Tells.{Tells}
use Rattle.stretches.specs.Asks.{bar_of}
use Rattle.searches.specs.declared.Days.{Days}
use Rattle.searches.specs.declared.Reach.{Reach}
use Rattle.searches.specs.Searches.{needed_part, hit_days, Needed, Slack, Least, BothIn, days_in}

-- a place of a set, and a task whose ranges lie within their ends
pub record Ready (r : ℕ) (t : Task) : Type 0 where
  pub place : r < set_bits
  pub fits : Bounded t

-- what a caller knows of a profile and of the list that it was made from
pub record Known (r : ℕ) (limit : Floor) (ts : List Task) (t : Task) (ss : List Stretch) : Type 0 where
  pub tells : Tells r limit ts t ss
  pub among : In t ts
  pub enough : any (shortfall r limit ts) (listed_days ts) ≡ false

-- THE PROMISE: for every limit and list of tasks that the stretches tell of, what the page leaves of the task
abbrev pub ByPage : ℕ → Task → List Stretch → Narrowed → Type 0
ByPage r t ss out = (limit : Floor) (ts : List Task) → Known r limit ts t ss → out ≡ narrowed r limit ts (listed_days ts) t

-- the task has a possible day
abbrev pub HasDay : Task → Type 0
HasDay t = t.origin.low.0 <ℤ t.end.high.0

-- ---- a task as its searches see it
abbrev pub possible_days : Task → Days
possible_days t = record { from = t.origin.low; to = t.end.high }

abbrev pub running_days : Task → Days
running_days t = record { from = t.origin.high; to = t.end.low }

abbrev pub reach_of : Task → Reach
reach_of t = record { days = possible_days t; sure = running_days t; bar = power (bar_of t) }

-- "it gets r as its only resource, origin within i - duration high + 1 .. i, end within i + 1 .. i + duration high", for the first and
-- the last day i of s; a task that is nowhere needed stays
unfoldable pub with_needs : ℕ → Days → Task → Task
with_needs r s t =
    if (lt_z s.from.0 t.end.high.0)
    (record {
      set = 2 ^ r;
      origin = cut_to (s.to.0 -ℤ t.duration.high.0) s.from.0 t.origin;
      duration = t.duration;
      end = cut_to s.to.0 (s.from.0 +ℤ t.duration.high.0) t.end;
      height = t.height;
    })
    t

-- the days on which a task is needed: where its highest height is positive, the stretches tell them
abbrev pub NeedsTold : Task → List Stretch → (ℤ → Bool) → Type 0
NeedsTold t ss q = (i : ℤ) → q i ≡ and (lt_z (pos 0) t.height.high.0) (hit_days (needed_part (possible_days t) t.height.high) ss i)

-- s runs from the first of them to past the last
abbrev pub NeedsFound : Task → List Stretch → Days → Type 0
NeedsFound t ss s = (q : ℤ → Bool) → NeedsTold t ss q → Needed q (possible_days t) s

-- the task after the needs of all days
pub record Joined (r : ℕ) (t : Task) (ss : List Stretch) (u : Task) : Type 0 where
  pub days : Days
  pub among : BothIn (days_in (possible_days t)) (days_in days)
  pub found : NeedsFound t ss days
  pub is : u ≡ with_needs r days t

-- no possible day leaves the task less than it asks
abbrev pub Free : Task → List Stretch → Type 0
Free t ss = (y : ℤ) → Slack ss (possible_days t) y → bar_of t ≤ℤ y

-- a height of one value stays; any other is lifted to the highest less the least slack on the running days, which is not below 0 where
-- there is no shortfall
pub record Raised (t : Task) (ss : List Stretch) (low : ℤ) : Type 0 where
  pub slack : ℤ
  pub least : Least ss (running_days t) (t.height.high.0 -ℤ t.height.low.0) slack
  pub is : low ≡ t.height.high.0 -ℤ larger slack (pos 0)

pub record Lifted (t : Task) (ss : List Stretch) (h : Span Power) : Type 0 where
  pub high : h.high ≡ t.height.high
  pub raised : lt_z t.height.low.0 t.height.high.0 ≡ true → Raised t ss h.low.0
  pub same : lt_z t.height.low.0 t.height.high.0 ≡ false → h.low ≡ t.height.low

-- "r leaves its set"
abbrev pub without_here : ℕ → Task → Task
without_here r t =
    record { set = without t.set r; origin = t.origin; duration = t.duration; end = t.end; height = t.height }

-- a task of one origin, end and height that is only here and fills its days: no rule can change it
pub record Still (r : ℕ) (t : Task) : Type 0 where
  pub alone : only t.set r ≡ true
  pub origin : t.origin.high.0 ≤ℤ t.origin.low.0
  pub end : t.end.high.0 ≤ℤ t.end.low.0
  pub height : t.height.high.0 ≤ℤ t.height.low.0
  pub long : t.end.high.0 ≤ℤ (t.origin.low.0 +ℤ t.duration.high.0)

-- ---- what is left: a range whose low end is above its high end is empty
abbrev pub left_of : Span Day → Left
left_of s = if (empty_span s) Nothing (Some (days_of s))

-- the task, or the first of its values of which nothing is left; the height is never that value
unfoldable pub finished : Task → Narrowed
finished t =
    if (empty_span t.origin) (Err Origin)
    (if (empty_span t.duration) (Err Duration)
    (if (empty_span t.end) (Err End) (if (eqb t.set 0) (Err Set) (Ok t))))

-- The days that count on a held resource are one span over the tasks that have only it: from the least origin high to one before the greatest
-- end low. As events it is one change of the count.
use Rattle.std.specs.Prelude.{Bool, List, [], fold, ℕ, pos}
use Rattle.std.specs.Int.Signed.{lt_z}
use Rattle.integers.specs.Whole.{larger, smaller}
use Rattle.integers.specs.Tests.{if, any}
use Rattle.plan.specs.declared.Kind.{Kind}
use Rattle.plan.specs.declared.Resource.{Resource}
use Rattle.plan.specs.declared.Day.{Day}
use Rattle.plan.specs.declared.Span.{Span}
use Rattle.plan.specs.declared.Task.{Task}
use Rattle.plan.specs.Days.{day, day_low, day_high}
use Rattle.plan.specs.Sets.{only}
use Rattle.rules.specs.Frame.{is_held}
use Rattle.events.specs.declared.Change.{Change}
use Rattle.events.specs.Events.{change, change_keys}

-- of no task: the ends of days the other way round
abbrev pub no_span : Span Day
no_span = record { low = day day_high; high = day day_low }

-- with a task, where it has only r
unfoldable pub with_only : ℕ → Span Day → Task → Span Day
with_only r e t =
    if (only t.set r)
    (record { low = day (smaller e.low.0 t.origin.high.0); high = day (larger e.high.0 t.end.low.0) })
    e

unfoldable pub span_over : ℕ → Span Day → List Task → Span Day
span_over r e ts = fold (with_only r) e ts

-- no power, and one more that makes a day count
abbrev pub span_change : Span Day → Change
span_change e = change e.low.0 e.high.0 (pos 0) (pos 1)

-- its two keys, where it has a day: a step asks for room for them where its resource is held, and nowhere else
abbrev pub held_events : ℕ
held_events = 2

abbrev pub room_if : Bool → ℕ
room_if held = if held held_events 0

unfoldable pub some_held : List Resource → Bool
some_held qs = any (λ q. is_held q.kind) qs

unfoldable pub span_keys : Span Day → List ℕ
span_keys e = if (lt_z e.low.0 e.high.0) (change_keys (span_change e)) []

-- a plain resource has none
unfoldable pub held_keys : ℕ → Kind → List Task → List ℕ
held_keys r k ts = if (is_held k) (span_keys (span_over r no_span ts)) []

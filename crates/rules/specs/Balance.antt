-- "Balance", and what a step gives: a plan, or none.
use Rattle.std.specs.Prelude.{Ok, Err}
use Rattle.plan.specs.Refusals.{Narrowed}
use Rattle.std.specs.Prelude.{List, [], ◌∷◌, ◌+ℤ◌, ◌-ℤ◌}
use Rattle.integers.specs.Tests.{if}
use Rattle.plan.specs.declared.Task.{Task}
use Rattle.plan.specs.declared.Value.TheVariants.{Origin, Duration, End}
use Rattle.plan.specs.Days.{cut_to, empty_span}

-- "A set or range left empty means no plan."
pub data Outcome : Type 0 where
  NoPlan : Outcome
  Plan : List Task → Outcome

-- one task after a step, before those that follow it
abbrev pub and_then : Narrowed → Outcome → Outcome
and_then (Err v) o = NoPlan
and_then (Ok t) NoPlan = NoPlan
and_then (Ok t) (Plan ts) = Plan (t ∷ ts)

-- a step that takes each task by itself
unfoldable pub each : (Task → Narrowed) → List Task → Outcome
each f [] = Plan []
each f (t ∷ ts) = and_then (f t) (each f ts)

-- "origin is cut to (end low - duration high) .. (end high - duration low); end to (origin low + duration low) .. (origin high +
-- duration high); duration to (end low - origin high) .. (end high - origin low)", all from the ranges as they entered
unfoldable pub cuts : Task → Task
cuts t =
    record {
      set = t.set;
      origin = cut_to (t.end.low.0 -ℤ t.duration.high.0) (t.end.high.0 -ℤ t.duration.low.0) t.origin;
      duration = cut_to (t.end.low.0 -ℤ t.origin.high.0) (t.end.high.0 -ℤ t.origin.low.0) t.duration;
      end = cut_to (t.origin.low.0 +ℤ t.duration.low.0) (t.origin.high.0 +ℤ t.duration.high.0) t.end;
      height = t.height;
    }

-- the task, or the first of its ranges that is empty
unfoldable pub unless_empty : Task → Narrowed
unless_empty t =
    if (empty_span t.origin) (Err Origin)
    (if (empty_span t.duration) (Err Duration) (if (empty_span t.end) (Err End) (Ok t)))

unfoldable pub balanced : Task → Narrowed
balanced t = unless_empty (cuts t)

-- "For every task"
unfoldable pub balance : List Task → Outcome
balance ts = each balanced ts

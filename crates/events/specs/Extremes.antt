-- The extremes of a resource's tasks: the days between which they may be under way, and the most slack below which a rule may touch one.
use Rattle.std.specs.Prelude.{List, [], ◌∷◌, ℕ, pos}
use Rattle.integers.specs.Whole.{larger, smaller}
use Rattle.integers.specs.Tests.{if}
use Rattle.plan.specs.declared.Task.{Task}
use Rattle.plan.specs.Days.{day, day_low, day_high}
use Rattle.plan.specs.Powers.{power}
use Rattle.plan.specs.Sets.{has}
use Rattle.stretches.specs.Asks.{bar_of, lift_of}
use Rattle.events.specs.declared.Extremes.{Extremes}

unfoldable pub with_task : Extremes → Task → Extremes
with_task e t =
    record {
      low = day (smaller e.low.0 t.origin.low.0);
      high = day (larger e.high.0 t.end.high.0);
      bar = power (larger e.bar.0 (bar_of t));
      lift = power (larger e.lift.0 (lift_of t));
    }

-- with a task, where it has r in its set
unfoldable pub joined : ℕ → Extremes → Task → Extremes
joined r e t = if (has t.set r) (with_task e t) e

-- with every such task
unfoldable pub extremes_of : ℕ → Extremes → List Task → Extremes
extremes_of r e [] = e
extremes_of r e (t ∷ ts) = extremes_of r (joined r e t) ts

-- of no task: the ends of days the other way round
abbrev pub no_extremes : Extremes
no_extremes = record { low = day day_high; high = day day_low; bar = power (pos 0); lift = power (pos 0) }

-- What the step of one resource asks of its plan, and what is lent to work in.
use Rattle.std.specs.Prelude.{List, ℕ, ◌+◌, ◌*◌, ◌≤◌, ◌<◌, length}
use Rattle.integers.specs.Ends.{Within}
use Rattle.plan.specs.declared.Band.{Band}
use Rattle.plan.specs.declared.Power.{Power}
use Rattle.plan.specs.Powers.{power_ends}
use Rattle.plan.specs.Sets.{set_bits}
use Rattle.plan.specs.Tasks.{most_bands, most_tasks}
use Rattle.rules.specs.Rises.{Banded}
use Rattle.events.specs.Events.{events_a_task}
use Rattle.held.specs.Held.{held_events}

-- a place of a set, a limit within its ends, bands that change it, not too many of them, and not too many tasks
pub record Asks (r : ℕ) (limit : Power) (bs : List Band) (tasks : ℕ) : Type 0 where
  pub place : r < set_bits
  pub limited : Within power_ends limit.0
  pub banded : Banded r bs
  pub few_bands : length bs ≤ most_bands
  pub few : tasks ≤ most_tasks

-- the events that so many tasks give at the most, and so many more: one for each band, and those of a held resource's span
abbrev pub most_events : ℕ → ℕ → ℕ
most_events tasks more = events_a_task * tasks + more

-- in the largest plan
abbrev pub most_more : ℕ
most_more = held_events + most_bands

-- keys for every event, and a stretch up to each event and one behind the last
pub record Lent (tasks more keys stretches : ℕ) : Type 0 where
  pub keys_long : most_events tasks more ≤ keys
  pub stretches_long : most_events tasks more < stretches

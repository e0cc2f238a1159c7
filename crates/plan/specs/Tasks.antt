-- A task, a resource or a band of nothing but zeros, a task whose ranges lie within their ends, and the counts of a plan.
use Rattle.std.specs.Prelude.{ℕ, ◌^◌, ◌<◌, pos}
use Rattle.integers.specs.Hull.{range}
use Rattle.integers.specs.Ends.{InEnds}
use Rattle.plan.specs.declared.Task.{Task}
use Rattle.plan.specs.declared.Resource.{Resource}
use Rattle.plan.specs.declared.Kind.TheVariants.{Plain}
use Rattle.plan.specs.declared.Band.{Band}
use Rattle.plan.specs.Days.{day, days_of, span_of, day_ends, duration_ends}
use Rattle.plan.specs.Powers.{power, powers_of, power_span_of, power_ends}

-- "1 to 16 resources", "up to 64 bands", "0 to 256 tasks": the constants `MOST_RESOURCES`, `MOST_BANDS` and `MOST_TASKS` (`most_counts`)
abbrev pub most_resources : ℕ
most_resources = 16

abbrev pub most_bands : ℕ
most_bands = 64

abbrev pub most_tasks : ℕ
most_tasks = 256

-- what stands past the end of a list
unfoldable pub no_task : Task
no_task =
    let none = range (pos 0) (pos 0) in
    record { set = 0; origin = span_of none; duration = span_of none; end = span_of none; height = power_span_of none }

unfoldable pub no_resource : Resource
no_resource = record { id = pos 0; limit = power (pos 0); kind = Plain }

unfoldable pub no_band : Band
no_band = record { place = 0; from = day (pos 0); limit = power (pos 0) }

-- each range within its ends, low not above high: what refusal 5 leaves
pub record Bounded (t : Task) : Type 0 where
  pub origin : InEnds day_ends (days_of t.origin)
  pub duration : InEnds duration_ends (days_of t.duration)
  pub end : InEnds day_ends (days_of t.end)
  pub height : InEnds power_ends (powers_of t.height)

-- and a set of some of n resources: what refusal 6 leaves
pub record TaskFits (n : ℕ) (t : Task) : Type 0 where
  pub ranges : Bounded t
  pub some : 0 < t.set
  pub places : t.set < 2 ^ n

-- How little slack a task may find on a day before a rule touches it.
use Rattle.std.specs.Prelude.{ℤ, pos, neg_ℤ, ◌-ℤ◌}
use Rattle.integers.specs.Whole.{larger}
use Rattle.plan.specs.declared.Task.{Task}

-- a task is barred only where the slack is below this
unfoldable pub bar_of : Task → ℤ
bar_of t = larger (pos 0) (neg_ℤ t.height.high.0)

-- and needed, or its height raised, only where the tight slack is below this
unfoldable pub lift_of : Task → ℤ
lift_of t = larger t.height.high.0 (t.height.high.0 -ℤ t.height.low.0)

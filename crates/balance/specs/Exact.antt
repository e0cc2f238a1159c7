-- A task whose end is the sum of the other two at both of its ends.
use Rattle.std.specs.Prelude.{Bool, ◌+ℤ◌}
use Rattle.integers.specs.Tests.{and}
use Rattle.integers.specs.Whole.{eq_z}
use Rattle.plan.specs.declared.Task.{Task}

-- end low = origin low + duration low, and end high = origin high + duration high
unfoldable pub exact : Task → Bool
exact t =
    and (eq_z t.end.low.0 (t.origin.low.0 +ℤ t.duration.low.0))
    (eq_z t.end.high.0 (t.origin.high.0 +ℤ t.duration.high.0))

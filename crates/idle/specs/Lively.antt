-- A task that can be sure or hold a day, or that a bar can touch: "origin high <= i < end low" on some day, or one resource only.
use Rattle.std.specs.Prelude.{Bool}
use Rattle.std.specs.Int.Signed.{lt_z}
use Rattle.integers.specs.Tests.{or}
use Rattle.plan.specs.declared.Task.{Task}
use Rattle.plan.specs.Sets.{at_most_one}

unfoldable pub lively : Task → Bool
lively t = or (lt_z t.origin.high.0 t.end.low.0) (at_most_one t.set)

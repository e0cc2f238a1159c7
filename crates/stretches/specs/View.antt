-- What stands past the end of a list of stretches, and the days of a stretch.
use Rattle.std.specs.Prelude.{Bool, ℤ, pos}
use Rattle.std.specs.Int.Signed.{le_z, lt_z}
use Rattle.integers.specs.Tests.{and}
use Rattle.plan.specs.Days.{day}
use Rattle.plan.specs.Powers.{power}
use Rattle.stretches.specs.declared.Stretch.{Stretch}

-- what stands past the end
unfoldable pub no_stretch : Stretch
no_stretch = record { from = day (pos 0); to = day (pos 0); slack = power (pos 0); tight = power (pos 0) }

-- day i is one of the stretch's: from .. to - 1
unfoldable pub on_day : ℤ → Stretch → Bool
on_day i s = and (le_z s.from.0 i) (lt_z i s.to.0)

-- Powers and ranges of powers: "height, limit -1,000,000 .. 1,000,000".
use Rattle.std.specs.Prelude.{ℤ, pos, negsuc, neg_ℤ}
use Rattle.integers.specs.Hull.{Range, range}
use Rattle.plan.specs.declared.Power.{Power}
use Rattle.plan.specs.declared.Span.{Span}

abbrev pub power : ℤ → Power
power x = record { 0 = x }

-- the ends of heights and limits: the constants of `Power` (`Power::ends`)
abbrev pub power_low : ℤ
power_low = negsuc 999999

abbrev pub power_high : ℤ
power_high = pos 1000000

abbrev pub power_ends : Range
power_ends = range power_low power_high

-- a range of powers as a range of numbers, and back
abbrev pub powers_of : Span Power → Range
powers_of s = range s.low.0 s.high.0

abbrev pub power_span_of : Range → Span Power
power_span_of s = record { low = power s.low; high = power s.high }

-- "every height and limit negated and each height's two ends swapped"
abbrev pub negated_power : Power → Power
negated_power p = power (neg_ℤ p.0)

unfoldable pub negated_powers : Span Power → Span Power
negated_powers s = record { low = negated_power s.high; high = negated_power s.low }

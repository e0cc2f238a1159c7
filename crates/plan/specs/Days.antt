-- Days and ranges of days: "origin, end (day number) -100,000 .. 100,000; duration 0 .. 10,000".
use Rattle.std.specs.Prelude.{Bool, ℤ, pos, negsuc}
use Rattle.std.specs.Int.Signed.{lt_z}
use Rattle.integers.specs.Whole.{larger, smaller}
use Rattle.integers.specs.Hull.{Range, range}
use Rattle.plan.specs.declared.Day.{Day}
use Rattle.plan.specs.declared.Span.{Span}

abbrev pub day : ℤ → Day
day x = record { 0 = x }

-- the ends of days and of durations: the constants of `Day` (`Day::ends`, `Day::lengths`)
abbrev pub day_low : ℤ
day_low = negsuc 99999

abbrev pub day_high : ℤ
day_high = pos 100000

abbrev pub duration_low : ℤ
duration_low = pos 0

abbrev pub duration_high : ℤ
duration_high = pos 10000

abbrev pub day_ends : Range
day_ends = range day_low day_high

abbrev pub duration_ends : Range
duration_ends = range duration_low duration_high

-- a range of days as a range of numbers, and back
abbrev pub days_of : Span Day → Range
days_of s = range s.low.0 s.high.0

abbrev pub span_of : Range → Span Day
span_of s = record { low = day s.low; high = day s.high }

-- "is cut to a .. b": what lies below a, or above b, goes
unfoldable pub cut_below : ℤ → Span Day → Span Day
cut_below a s = record { low = day (larger s.low.0 a); high = s.high }

unfoldable pub cut_above : ℤ → Span Day → Span Day
cut_above b s = record { low = s.low; high = day (smaller s.high.0 b) }

unfoldable pub cut_to : ℤ → ℤ → Span Day → Span Day
cut_to a b s = cut_above b (cut_below a s)

-- no value left: low above high
abbrev pub empty_span : Span Day → Bool
empty_span s = lt_z s.high.0 s.low.0

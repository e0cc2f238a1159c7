-- An event as one number, a key: a day, a change of power from that day on, a change of the count of what makes a day count, sure
-- tasks and a held resource's span, each counted from the least that a key holds. Keys rise with the day.
use Rattle.std.specs.Prelude.{ℕ, ◌+◌, ◌*◌, ◌/◌, ◌%◌, ◌^◌, ℤ, pos, negsuc, ◌+ℤ◌, ◌-ℤ◌, nat_abs}
use Rattle.integers.specs.Hull.{Range, range}
use Rattle.integers.specs.Ends.{Within}
use Rattle.plan.specs.Days.{day_low, day_ends}
use Rattle.plan.specs.Powers.{power_low, power_high}
use Rattle.events.specs.declared.Count.{Count}

abbrev pub count : ℤ → Count
count n = record { 0 = n }

-- a change of power: a height come or gone, or one limit in place of another
abbrev pub change_ends : Range
change_ends = range (power_low -ℤ power_high) (power_high -ℤ power_low)

-- a change of the count: one sure task or span less, or one more
abbrev pub count_ends : Range
count_ends = range (negsuc 0) (pos 1)

-- how many values a field tells apart: a power of two that is enough for the ends
abbrev pub count_field : ℕ
count_field = 2 ^ 2

abbrev pub power_field : ℕ
power_field = 2 ^ 22

-- the day stands above both
abbrev pub day_place : ℕ
day_place = power_field * count_field

unfoldable pub day_of : ℕ → ℤ
day_of k = day_low +ℤ pos (k / day_place)

unfoldable pub power_of : ℕ → ℤ
power_of k = change_ends.low +ℤ pos (k % day_place / count_field)

unfoldable pub sure_of : ℕ → ℤ
sure_of k = count_ends.low +ℤ pos (k % count_field)

-- the three made one
unfoldable pub key_of : ℤ → ℤ → ℤ → ℕ
key_of d p u = nat_abs (d -ℤ day_low) * day_place + nat_abs (p -ℤ change_ends.low) * count_field + nat_abs (u -ℤ count_ends.low)

-- what a key can hold
pub record EventFits (d p u : ℤ) : Type 0 where
  pub day : Within day_ends d
  pub power : Within change_ends p
  pub sure : Within count_ends u

-- Laws of keys: the parts of a key made of them, that keys rise with the day, and how far a change is from 0.
use mathlib.Core.Path.{◌≡◌}
use Prim.Native.Nat.{ℕ, ◌+◌, ◌*◌, ◌/◌, ◌%◌, ◌≤◌, ◌<◌, ◌^◌}
use native.Mathlib.Omega.{arith}
use lib.IntN.{ℤ, pos, ◌+ℤ◌, ◌-ℤ◌, nat_abs}
use lib.Signed.{◌≤ℤ◌, ◌<ℤ◌}
use mir.Syntax.{w64}
use mir.Val.{to_z}
use mir.Facts.{to_z_pos}
use Rattle.integers.proofs.Z.{z, +z, -z}
use Rattle.integers.proofs.Sums.{Near}
use Rattle.integers.proofs.Hull.{abs_up}
use Rattle.plan.specs.Days.{day_low}
use Rattle.events.specs.Keys.{change_ends, count_ends, count_field, power_field, day_place, day_of, power_of, sure_of, key_of, EventFits}

-- ---- a field: how far a value lies above the least, and back
module _ (x least : ℤ) (h : least ≤ℤ x) where
  abbrev pub field : ℕ
  field = nat_abs (x -ℤ least)

  pub field_back : least +ℤ pos field ≡ x
  field_back =
      let n = abs_up (x -ℤ least) (omega (z, -z x least)) in
      omega (z, -z x least, +z least (pos field))

  pub field_small : (n : ℕ) → x <ℤ (least +ℤ pos n) → field < n
  field_small n l =
      let m = abs_up (x -ℤ least) (omega (z, -z x least)) in
      omega (z, -z x least, +z least (pos n))

-- ---- the parts of a key
module _ (d p u : ℤ) (f : EventFits d p u) where
  abbrev day_part : ℕ
  day_part = nat_abs (d -ℤ day_low)

  abbrev power_part : ℕ
  power_part = nat_abs (p -ℤ change_ends.low)

  abbrev sure_part : ℕ
  sure_part = nat_abs (u -ℤ count_ends.low)

  pub record InFields : Type 0 where
    pub day : day_part < day_place
    pub power : power_part < power_field
    pub sure : sure_part < count_field

  pub parts_fit : InFields
  parts_fit =
      record {
        day = field_small d day_low f.day.least day_place (omega (z, f.day.most));
        power = field_small p change_ends.low f.power.least power_field (omega (z, f.power.most));
        sure = field_small u count_ends.low f.sure.least count_field (omega (z, f.sure.most));
      }

  pub key_day : day_of (key_of d p u) ≡ d
  unfolding day_of key_of
  key_day =
      let s = parts_fit in
      let q : (day_part * day_place + power_part * count_field + sure_part) / day_place ≡ day_part = omega arith in
      rw q (field_back d day_low f.day.least)

  pub key_power : power_of (key_of d p u) ≡ p
  unfolding power_of key_of
  key_power =
      let s = parts_fit in
      let q : (day_part * day_place + power_part * count_field + sure_part) % day_place / count_field ≡ power_part = omega arith in
      rw q (field_back p change_ends.low f.power.least)

  pub key_sure : sure_of (key_of d p u) ≡ u
  unfolding sure_of key_of
  key_sure =
      let s = parts_fit in
      let q : (day_part * day_place + power_part * count_field + sure_part) % count_field ≡ sure_part = omega arith in
      rw q (field_back u count_ends.low f.sure.least)

-- ---- any key
pub day_rises : (k l : ℕ) → k ≤ l → day_of k ≤ℤ day_of l
unfolding day_of
day_rises k l h = omega (z, +z day_low (pos (k / day_place)), +z day_low (pos (l / day_place)))

pub power_near : (k : ℕ) → Near power_field (power_of k)
unfolding power_of
power_near k = omega (z, +z change_ends.low (pos (k % day_place / count_field)))

pub sure_near : (k : ℕ) → Near count_field (sure_of k)
unfolding sure_of
sure_near k = omega (z, +z count_ends.low (pos (k % count_field)))

-- ---- a field as the code reads it, out of bits
pub read_is : (x : ℕ) → x < 2 ^ 62 → to_z w64 x ≡ pos x
read_is x h = to_z_pos w64 {n = x} (omega arith)

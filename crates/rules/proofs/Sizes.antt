-- How large the sums of a plan get: "the largest sum has a size of 256,000,000".
use Rattle.plan.specs.Refusals.{accepted}
use mathlib.Core.Path.{◌≡◌, refl, ap}
use mathlib.Core.List.{List}
use Prim.Native.Nat.{ℕ, suc, ◌*◌, ◌-◌, ◌<◌}
use native.Mathlib.Omega.{arith}
use lib.IntN.{ℤ, pos, ◌+ℤ◌, ◌-ℤ◌, nat_abs}
use lib.ListN.{length}
use lib.Signed.{lt_z}
use Rattle.integers.specs.Sums.{sum_of}
use Rattle.integers.specs.Lists.{Each, In}
use Rattle.integers.specs.Lists.Each.{nothing, also}
use Rattle.integers.specs.Lists.In.{head, tail}
use Rattle.integers.proofs.Z.{z, +z, -z}
use Rattle.integers.proofs.Tests.{if-case}
use Rattle.integers.proofs.Sums.{Near}
use Rattle.integers.proofs.Lists.{each_so}
use Rattle.plan.specs.declared.Task.{Task}
use Rattle.plan.specs.Powers.{power_high}
use Rattle.plan.specs.Tasks.{most_tasks, Bounded}
use Rattle.rules.specs.Frame.{Frame, resource_count, limit_on}
use Rattle.rules.specs.Step.{possible, sure, hope, total, others}
use Rattle.rules.specs.Calls.{check}
use Rattle.rules.proofs.Checks.{accepts, check_limits}

-- the size of a height or a limit
abbrev pub most_power : ℕ
most_power = nat_abs power_high

module _ (r : ℕ) (i : ℤ) where
  pub hope_near : (t : Task) → Bounded t → Near most_power (hope r i t)
  unfolding hope
  hope_near t h =
      let p = h.height in
      let top : Near most_power t.height.high.0 = omega z in
      let zero_near : Near most_power (pos 0) = omega arith in
      if-case (Near most_power) (lt_z (pos 0) t.height.high.0) _ _
      (λ e. if-case (Near most_power) (possible r i t) t.height.high.0 (pos 0) (λ f. top) (λ f. zero_near))
      (λ e. if-case (Near most_power) (sure r i t) t.height.high.0 (pos 0) (λ f. top) (λ f. zero_near))

  pub total_within : {ts : List Task} → Each Bounded ts → Near (length ts * most_power) (total r ts i)
  unfolding total sum_of
  total_within nothing = omega arith
  total_within (also {x = t} {xs = ts} h f) =
      let a = hope_near t h in
      let b = total_within f in
      omega (z, +z (hope r i t) (sum_of (hope r i) ts))

  -- one task fewer
  others_within : {t : Task} {ts : List Task} → Each Bounded ts → In t ts → (m : ℕ) × (suc m ≡ length ts) × Near (m * most_power) (others r ts t i)
  unfolding total sum_of others
  others_within {t = t} nothing k = elim k [ ]
  others_within (also {x = t} {xs = ts} h f) head =
      let b = total_within f in
      (length ts, refl, omega (z, +z (hope r i t) (sum_of (hope r i) ts), -z (hope r i t +ℤ sum_of (hope r i) ts) (hope r i t)))
  others_within {t} (also {x = u} {xs = ts} h f) (tail k) =
      let a = hope_near u h in
      let e = others_within f k in
      let m = e.0 in
      let b = e.2 in (
        suc m,
        ap suc e.1,
        omega
            (z, +z (hope r i u) (sum_of (hope r i) ts), -z (hope r i u +ℤ sum_of (hope r i) ts) (hope r i t), -z (sum_of (hope r i) ts) (hope r i t)),
      )

-- "the largest sum has a size of 256,000,000"
abbrev pub most_sum : ℕ
most_sum = most_tasks * most_power

module _ (f : Frame) (ts : List Task) (ok : check f ts ≡ accepted) (r : ℕ) (i : ℤ) where
  bounded : Each Bounded ts
  bounded = each_so (λ t h. h.ranges) (accepts f ts ok).tasks

  pub total_near : Near most_sum (total r ts i)
  total_near =
      let b = total_within r i bounded in
      let c = (accepts f ts ok).few in
      omega arith

  pub others_near : (t : Task) → In t ts → Near (most_sum - most_power) (others r ts t i)
  others_near t k =
      let e = others_within r i bounded k in
      let m = e.0 in
      let l : suc m ≡ length ts = e.1 in
      let b = e.2 in
      let c = (accepts f ts ok).few in
      omega arith

  pub lift_near : r < resource_count f → (t : Task) → In t ts → Near most_sum (limit_on f r i -ℤ others r ts t i)
  lift_near l t k =
      let b = check_limits f ts ok r l i in
      let c = others_near t k in
      omega (z, -z (limit_on f r i) (others r ts t i))

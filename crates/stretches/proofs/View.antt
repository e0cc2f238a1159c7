-- The days of a stretch.
use mathlib.Core.Path.{◌≡◌}
use mathlib.Core.Bool.{true}
use lib.IntN.{ℤ}
use lib.Signed.{le_z, lt_z, ◌≤ℤ◌, ◌<ℤ◌}
use Rattle.integers.proofs.Z.{z, le_z_in, lt_z_in}
use Rattle.integers.proofs.Tests.{and_first, and_second, and_in}
use Rattle.stretches.specs.declared.Stretch.{Stretch}
use Rattle.stretches.specs.View.{on_day}

pub record On (s : Stretch) (i : ℤ) : Type 0 where
  pub late : s.from.0 ≤ℤ i
  pub early : i <ℤ s.to.0

pub on_out : (s : Stretch) (i : ℤ) → on_day i s ≡ true → On s i
unfolding on_day
on_out s i h =
    let a : le_z s.from.0 i ≡ true = and_first (le_z s.from.0 i) (lt_z i s.to.0) h in
    let b : lt_z i s.to.0 ≡ true = and_second (le_z s.from.0 i) (lt_z i s.to.0) h in
    record { late = omega z; early = omega z }

pub on_in : (s : Stretch) (i : ℤ) → s.from.0 ≤ℤ i → i <ℤ s.to.0 → on_day i s ≡ true
unfolding on_day
on_in s i h k = and_in (le_z s.from.0 i) (lt_z i s.to.0) (le_z_in s.from.0 i h) (lt_z_in i s.to.0 k)

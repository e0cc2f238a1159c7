-- The spans of a task's events: what hopeful, surely and fixed say, fact by fact, and that a day of a hope or a sure day makes them true.
use mathlib.Core.Path.{◌≡◌}
use mathlib.Core.Bool.{Bool, true}
use Prim.Native.Nat.{ℕ}
use lib.IntN.{ℤ, pos}
use lib.Signed.{◌<ℤ◌, le_z, lt_z}
use Rattle.integers.proofs.Z.{z, lt_z_in}
use Rattle.integers.proofs.Tests.{and_first, and_second, and_in}
use Rattle.plan.specs.declared.Task.{Task}
use Rattle.plan.specs.Sets.{only}
use Rattle.plan.specs.Tasks.{Bounded}
use Rattle.rules.specs.Step.{possible, sure}
use Rattle.rules.proofs.TaskDay.{possible_is, running_is, sure_only, sure_running}
use Rattle.events.specs.Events.{hopeful, surely, fixed}

module _ (t : Task) where
  abbrev positive : Bool
  positive = lt_z (pos 0) t.height.high.0

  pub record Hopes : Type 0 where
    pub height : lt_z (pos 0) t.height.high.0 ≡ true
    pub days : t.origin.low.0 <ℤ t.end.high.0

  pub hopeful_is : hopeful t ≡ true → Hopes
  unfolding hopeful
  hopeful_is h =
      let b = lt_z t.origin.low.0 t.end.high.0 in
      let d : b ≡ true = and_second positive b h in
      record { height = and_first positive b h; days = omega z }

  pub hopeful_in : (r : ℕ) (i : ℤ) → positive ≡ true → possible r i t ≡ true → hopeful t ≡ true
  unfolding hopeful
  hopeful_in r i h p =
      let q = possible_is r i t p in
      and_in positive (lt_z t.origin.low.0 t.end.high.0) h (lt_z_in t.origin.low.0 t.end.high.0 (omega z))

  -- where the possible days are the sure ones, they begin and end together
  pub fixed_is : Bounded t → fixed t ≡ true → (t.origin.low.0 ≡ t.origin.high.0) × (t.end.high.0 ≡ t.end.low.0)
  unfolding fixed
  fixed_is b h =
      let x = le_z t.origin.high.0 t.origin.low.0 in
      let y = le_z t.end.high.0 t.end.low.0 in
      let p : x ≡ true = and_first x y h in
      let q : y ≡ true = and_second x y h in
      (omega (z, b.origin), omega (z, b.end))

  module _ (r : ℕ) where
    pub record Sures : Type 0 where
      pub alone : only t.set r ≡ true
      pub days : t.origin.high.0 <ℤ t.end.low.0

    pub surely_is : surely r t ≡ true → Sures
    unfolding surely
    surely_is h =
        let b = lt_z t.origin.high.0 t.end.low.0 in
        let d : b ≡ true = and_second (only t.set r) b h in
        record { alone = and_first (only t.set r) b h; days = omega z }

    pub surely_in : (i : ℤ) → sure r i t ≡ true → surely r t ≡ true
    unfolding surely
    surely_in i s =
        let q = running_is r i t (sure_running r i t s) in
        and_in (only t.set r) (lt_z t.origin.high.0 t.end.low.0) (sure_only r i t s) (lt_z_in t.origin.high.0 t.end.low.0 (omega z))

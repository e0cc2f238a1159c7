-- A task of which something is left: no range and no set is empty. The entry checks say so of every task of a plan.
use mathlib.Core.Path.{◌≡◌}
use Prim.Native.Nat.{ℕ}
use native.Mathlib.Omega.{arith}
use mathlib.Core.List.{List, map}
use mathlib.Core.Bool.{false}
use lib.Signed.{◌≤ℤ◌}
use lib.Dec.{eqb}
use borrow.Author.Tests.{ne_eqb}
use Rattle.integers.specs.Lists.{Each}
use Rattle.integers.proofs.Z.{z, ~z}
use Rattle.integers.proofs.Lists.{each_map}
use Rattle.plan.specs.declared.Task.{Task}
use Rattle.plan.specs.Powers.{negated_powers}
use Rattle.plan.specs.Tasks.{Bounded, TaskFits}
use Rattle.rules.specs.Step.{negated}

pub record Live (t : Task) : Type 0 where
  pub origin : t.origin.low.0 ≤ℤ t.origin.high.0
  pub duration : t.duration.low.0 ≤ℤ t.duration.high.0
  pub end : t.end.low.0 ≤ℤ t.end.high.0
  pub height : t.height.low.0 ≤ℤ t.height.high.0
  pub set : eqb t.set 0 ≡ false

abbrev pub Lives : List Task → Type 0
Lives ts = Each Live ts

-- what passes the checks of ranges and sets is live
pub live_bounded : (t : Task) → Bounded t → eqb t.set 0 ≡ false → Live t
live_bounded t b e =
    record { origin = b.origin.rises; duration = b.duration.rises; end = b.end.rises; height = b.height.rises; set = e }

pub live_fits : (n : ℕ) (t : Task) → TaskFits n t → Live t
live_fits n t h = let some = h.some in live_bounded t h.ranges (ne_eqb t.set 0 (omega arith))

-- negation keeps tasks live
pub live_negated : (t : Task) → Live t → Live (negated t)
unfolding negated negated_powers
live_negated t h =
    record {
      origin = h.origin;
      duration = h.duration;
      end = h.end;
      height = omega (z, h.height, ~z t.height.low.0, ~z t.height.high.0);
      set = h.set;
    }

pub lives_negated : {ts : List Task} → Lives ts → Lives (map negated ts)
lives_negated h = each_map negated live_negated h

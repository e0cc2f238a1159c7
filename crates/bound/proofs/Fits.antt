-- The ranges of a task that passed the checks: how far apart their ends are, and that its set has a resource.
use Prim.Native.Nat.{◌≤◌}
use native.Mathlib.Omega.{arith}
use borrow.Author.Tests.{ne_eqb}
use Rattle.integers.specs.Hull.{width}
use Rattle.integers.proofs.Z.{z}
use Rattle.integers.proofs.Hull.{width_most}
use Rattle.plan.specs.declared.Task.{Task}
use Rattle.plan.specs.Days.{days_of, day_ends, duration_ends}
use Rattle.plan.specs.Powers.{powers_of, power_ends}
use Rattle.plan.specs.Sets.{set_bits, size}
use Rattle.plan.specs.Tasks.{TaskFits}
use Rattle.plan.proofs.Sets.{size_some, some_place}
use Rattle.rules.proofs.Bounds.{size_most}

pub record Small (t : Task) : Type 0 where
  pub starts : width (days_of t.origin) ≤ 200000
  pub lengths : width (days_of t.duration) ≤ 10000
  pub ends : width (days_of t.end) ≤ 200000
  pub heights : width (powers_of t.height) ≤ 2000000
  pub one_resource : 1 ≤ size set_bits t.set
  pub resources : size set_bits t.set ≤ 64

pub task_small : (t : Task) → TaskFits set_bits t → Small t
task_small t k =
    let s = k.some in
    let p = some_place t.set (ne_eqb t.set 0 (λ e. omega arith)) in
    record {
      starts = width_most day_ends (days_of t.origin) 200000 (omega z) k.ranges.origin;
      lengths = width_most duration_ends (days_of t.duration) 10000 (omega z) k.ranges.duration;
      ends = width_most day_ends (days_of t.end) 200000 (omega z) k.ranges.end;
      heights = width_most power_ends (powers_of t.height) 2000000 (omega z) k.ranges.height;
      one_resource = size_some set_bits t.set p.0 k.places p.1;
      resources = size_most set_bits t.set;
    }

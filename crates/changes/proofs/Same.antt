-- The same task, by a comparison of all parts; and the same ranges, by the task with the other's set.
use mathlib.Core.Path.{◌≡◌, refl}
use lib.IntN.{ℤ}
use Rattle.std.specs.Ordering.{int_eq}
use Rattle.std.specs.Cmp.{signed_Decides}
use Rattle.integers.specs.Whole.{eq_z}
use Rattle.integers.proofs.Tests.{same_test}
use Rattle.integers.proofs.Z.{eq_z_in, eq_z_is}
use Rattle.plan.specs.declared.Task.{Task}
use Rattle.plan.proofs.Sets.{eqb_in}
use Rattle.rules.specs.Settle.{same_ranges, same_task}

pub same_int : (x y : ℤ) → int_eq x y ≡ eq_z x y
same_int x y =
    let d = signed_Decides x y in
    same_test (int_eq x y) (eq_z x y) (λ h. eq_z_in x y (d.0 h)) (λ h. d.1 (eq_z_is x y h))

pub same_with_set : (t u : Task) → same_task (record { set = u.set; origin = t.origin; duration = t.duration; end = t.end; height = t.height }) u ≡ same_ranges t u
unfolding same_task same_ranges
same_with_set t u = rw (eqb_in u.set u.set refl)

-- A task that is not lively: it is sure nowhere, and no bar touches it.
use mathlib.Core.Path.{◌≡◌}
use mathlib.Core.Bool.{false}
use mathlib.Core.List.{List}
use Prim.Native.Nat.{ℕ}
use lib.IntN.{ℤ}
use lib.Signed.{lt_z}
use Rattle.integers.proofs.Z.{z}
use Rattle.integers.proofs.Tests.{clash, false_in, or_first, or_second, and_off}
use Rattle.plan.specs.declared.Task.{Task}
use Rattle.plan.specs.Sets.{only, at_most_one}
use Rattle.plan.proofs.Sets.{at_most_one_only}
use Rattle.rules.specs.Frame.{Floor}
use Rattle.rules.specs.Step.{running, sure, needed, barred, shut}
use Rattle.rules.proofs.TaskDay.{running_is}
use Rattle.rules.proofs.Untouched.{Untouched}
use Rattle.idle.specs.Lively.{lively}

module _ (t : Task) (dull : lively t ≡ false) where
  no_running : lt_z t.origin.high.0 t.end.low.0 ≡ false
  unfolding lively
  no_running = false_in (lt_z t.origin.high.0 t.end.low.0) (λ e. clash (lively t) (or_first (lt_z t.origin.high.0 t.end.low.0) (at_most_one t.set) e) dull)

  pub dull_running : (r : ℕ) (i : ℤ) → running r i t ≡ false
  dull_running r i = false_in (running r i t) (λ e. let a = running_is r i t e in absurd (omega (z, no_running)))

  pub dull_only : (r : ℕ) → only t.set r ≡ false
  unfolding lively
  dull_only r =
      false_in (only t.set r)
      (λ e. clash (lively t) (or_second (lt_z t.origin.high.0 t.end.low.0) (at_most_one t.set) (at_most_one_only t.set r e)) dull)

  pub dull_sure : (r : ℕ) (i : ℤ) → sure r i t ≡ false
  unfolding sure
  dull_sure r i = rw (dull_only r)

  -- so where it is not needed, no rule touches it
  pub dull_untouched : (r : ℕ) (limit : Floor) (ts : List Task) (i : ℤ) → needed r limit ts t i ≡ false → Untouched r limit ts t i
  unfolding shut
  dull_untouched r limit ts i n =
      record {
        need = n;
        bar = rw (dull_only r);
        leave = rw (dull_running r i) (and_off (barred r limit ts t i));
        height = λ s. clash (sure r i t) s (dull_sure r i);
      }

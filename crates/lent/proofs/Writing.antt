-- The writing call where a count is above its most, and where the checks refuse.
use Rattle.std.specs.Prelude.{Err}
use mathlib.Core.Path.{◌≡◌, refl, sym}
use mathlib.Core.List.{List}
use Prim.Native.Nat.{ℕ, ◌≤◌, ◌<◌}
use native.Mathlib.Omega.{arith}
use lib.ListN.{length}
use borrow.Author.Tests.{lt-ltb, le-ltb, ne_eqb}
use Rattle.plan.specs.declared.Task.{Task}
use Rattle.plan.specs.declared.Resource.{Resource}
use Rattle.plan.specs.declared.Band.{Band}
use Rattle.plan.specs.declared.Sense.{Sense}
use Rattle.plan.specs.declared.Refusal.{Refusal}
use Rattle.plan.specs.declared.Refusal.TheVariants.{TooManyTasks, ResourceCount}
use Rattle.plan.specs.Tasks.{most_resources, most_tasks}
use Rattle.rules.specs.Frame.{Frame, framed}
use Rattle.rules.specs.Calls.{check}
use Rattle.format.specs.Writing.{write_result, write_call}

-- what the checks refuse is not written
checks_refused : (f : Frame) (ts : List Task) (out : List ℕ) (r : Refusal) → Err r ≡ check f ts → write_result (Err r) out ≡ write_call f ts out
unfolding write_call
checks_refused f ts out r e = rw (sym e) refl

module _ (sense : Sense) (qs : List Resource) (bs : List Band) (ts : List Task) (out : List ℕ) where
  pub many_tasks : most_tasks < length ts → write_result (Err TooManyTasks) out ≡ write_call (framed sense qs bs) ts out
  unfolding check
  many_tasks h = checks_refused (framed sense qs bs) ts out TooManyTasks (rw (lt-ltb most_tasks (length ts) h) refl)

  pub many_resources : length ts ≤ most_tasks → most_resources < length qs → write_result (Err ResourceCount) out ≡ write_call (framed sense qs bs) ts out
  unfolding check
  many_resources h k =
      checks_refused (framed sense qs bs) ts out ResourceCount
      (rw (le-ltb most_tasks (length ts) h, ne_eqb (length qs) 0 (λ e. omega arith), lt-ltb most_resources (length qs) k) refl)

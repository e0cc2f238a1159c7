-- From the front: the tasks before the next are done, the others as they entered, and what is left to do gives the answer. Of the list that the loop
-- goes over it is asked only that all of it is the tasks that are lent.
use mathlib.Core.Path.{◌≡◌, sym, ◌∙◌, subst}
use native.Mathlib.Omega.{arith}
use mathlib.Core.List.{List}
use Prim.Native.Nat.{ℕ, ◌<◌}
use lib.ListN.{length, get_or, take, drop, take-append-drop}
use Rattle.std.specs.Prelude.{Ok}
use Rattle.std.proofs.Common.{rules}
use Rattle.std.proofs.lemmas.Grind.{common_steps}
use Rattle.std.proofs.lemmas.List.{take_all}
use Rattle.integers.proofs.Lists.{each_at, each_first}
use Rattle.integers.specs.Lists.{Each}
use Rattle.plan.specs.declared.Task.{Task}
use Rattle.plan.specs.Tasks.{no_task, Bounded}
use Rattle.rules.specs.Balance.{balanced, balance}
use Rattle.changes.proofs.Walk.{Walk, walk_start, walk_next, walk_kept, walk_same, walk_out, walk_end}
use Rattle.balance.proofs.Stays.{exact_stays}
use Rattle.balance.proofs.balance.Goals as goal
use Rattle.balance.proofs.balance.Goals.{then-not-is_exact+in_ok-u, else-not-is_exact}

each_take : (n : ℕ) (ts : List Task) → Each Bounded ts → Each Bounded (take n ts)
each_take n ts b = each_first (take n ts) (drop n ts) (subst (Each Bounded) (sym (take-append-drop n ts)) b)

next_bounded : {ts : List Task} {us : List Task} {i touched : ℕ} → Walk balanced ts i us touched → Each Bounded ts → i < length ts → Bounded (get_or us i no_task)
next_bounded {ts} {us} {i} {touched} w bounded h = subst Bounded (sym (walk_next balanced ts i us touched w)) (each_at no_task i bounded h)

pub loop-t-init : goal.loop-t-init
loop-t-init c = walk_start balanced _

pub is_exact-requires : goal.is_exact-requires
unfolding no_task
is_exact-requires c = next_bounded c.loop-t.invariant (search (rules, each_take)) (omega arith)

pub balance_task-requires : goal.balance_task-requires
unfolding no_task
balance_task-requires c = next_bounded c.loop-t.invariant (search (rules, each_take)) (omega arith)

pub returns-in_err-u-clause-after : goal.returns-in_err-u-clause-after
unfolding balance no_task
returns-in_err-u-clause-after c =
    let out = walk_out balanced _ c.loop-t.t-index c.loop-t.tasks c.loop-t.touched (omega arith) (rw c.balance_task.ensures at c.in_err-u.ensures.value) c.loop-t.invariant in
    rw c.from_residual.ensures (grind (arith, common_steps, take_all, out))

-- a task that was cut is put back; one whose end is the exact sum stays as it is
pub loop-t-preserved : goal.loop-t-preserved
unfolding no_task
loop-t-preserved c =
    let us = c.loop-t.tasks in
    let i = c.loop-t.t-index in
    let w = c.loop-t.invariant in
    let touched = c.loop-t.touched in
    let l : i < length us = omega arith in
    elim c.if-not-is_exact.branch [
      | then-not-is_exact+in_ok-u b ↦
          rw (b.tasks-is, b.touched-is, b.put_changed-touched.ensures.after, b.put_changed-touched.ensures.noted)
          (walk_kept balanced _ i us touched b.in_ok-u.u l (rw b.balance_task.ensures at b.in_ok-u.ensures.value) w)
      | else-not-is_exact b ↦
          let t = get_or us i no_task in
          let stays : balanced t ≡ Ok t =
          exact_stays t (next_bounded w (search (rules, each_take)) (omega arith)) (sym c.is_exact.ensures ∙ b.if-not-is_exact.false) in
          rw (b.tasks-is, b.touched-is) (walk_same balanced _ i us touched l stays w)
    ]

pub returns-clause-after : goal.returns-clause-after
unfolding balance
returns-clause-after c =
    let end = walk_end balanced _ c.loop-t.t-index c.loop-t.tasks c.loop-t.touched (omega arith) c.loop-t.invariant in
    grind (arith, common_steps, take_all, end)

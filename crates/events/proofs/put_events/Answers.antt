-- `events::put_events`: one arm for each line of the definition.
use native.Mathlib.Omega.{arith}
use mathlib.Core.Path.{sym}
use Rattle.events.specs.Events.{change_keys, task_keys}
use Rattle.events.proofs.Laid.{laid_none, laid_then}
use Rattle.events.proofs.put_events.Goals as goal

pub put_change-requires-in-true-true-2-clause-enough : goal.put_change-requires-in-true-true-2-clause-enough
unfolding change_keys
put_change-requires-in-true-true-2-clause-enough c = omega (arith, c.put_change-m.ensures.many, c.put_change-m.auto.keys)

pub returns-in-true-true : goal.returns-in-true-true
unfolding task_keys
returns-in-true-true c =
    rw (sym c.in-true-true.ensures, sym c.in-true-true.ensures', sym c.is_fixed.ensures, c.if-is_fixed.true)
    (rw c.hope.ensures at c.put_change.ensures)

pub returns-in-true-true-2 : goal.returns-in-true-true-2
unfolding task_keys
returns-in-true-true-2 c =
    rw (sym c.in-true-true.ensures, sym c.in-true-true.ensures', sym c.is_fixed.ensures, c.if-is_fixed.false)
    (laid_then _ _ _ _ _ _ _ _ (rw c.hope-in-true-true-2.ensures at c.put_change-m.ensures) (rw c.sure.ensures at c.put_change-in-true-true-2.ensures))

pub returns-in-true-false : goal.returns-in-true-false
unfolding task_keys
returns-in-true-false c =
    rw (sym c.in-true-false.ensures, sym c.in-true-false.ensures')
    (rw c.hope-in-true-false.ensures at c.put_change-in-true-false.ensures)

pub returns-in-false-true : goal.returns-in-false-true
unfolding task_keys
returns-in-false-true c =
    rw (sym c.in-false-true.ensures, sym c.in-false-true.ensures')
    (rw c.sure-in-false-true.ensures at c.put_change-in-false-true.ensures)

pub returns-in-false-false : goal.returns-in-false-false
unfolding task_keys
returns-in-false-false c = rw (sym c.in-false-false.ensures, sym c.in-false-false.ensures') (laid_none _ _)

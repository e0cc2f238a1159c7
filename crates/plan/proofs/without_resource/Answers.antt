-- The place is taken out where it is in.
use native.Mathlib.Omega.{arith}
use mathlib.Core.Path.{◌≡◌, sym, ◌∙◌}
use mathlib.Core.Bool.{true, false}
use Rattle.plan.specs.Sets.{has, without}
use Rattle.plan.proofs.Sets.{bit_small, has_le}
use Rattle.plan.proofs.without_resource.Goals as goal

pub overflow_sub-result : goal.overflow_sub-result
overflow_sub-result c = let b = c in
    let a = b.args in
    let h : has a.set a.k ≡ true = sym b.has_resource.ensures ∙ c.if-has_resource.true in
    omega (arith, bit_small a.k (omega arith), has_le a.set a.k h)

pub returns-then-has_resource : goal.returns-then-has_resource
unfolding without
returns-then-has_resource c = let b = c in
    let a = b.args in
    let h : has a.set a.k ≡ true = sym b.has_resource.ensures ∙ c.if-has_resource.true in
    simp (h, bit_small a.k (omega arith))

pub returns-else-has_resource : goal.returns-else-has_resource
unfolding without
returns-else-has_resource c = let b = c in
    let h : has b.args.set b.args.k ≡ false = sym b.has_resource.ensures ∙ c.if-has_resource.false in
    simp h

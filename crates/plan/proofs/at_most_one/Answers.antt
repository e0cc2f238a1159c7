-- None, or fewer ones than two.
use native.Mathlib.Omega.{arith}
use mathlib.Core.Path.{ap, ◌∙◌}
use Prim.Native.Nat.{ℕ}
use lib.Dec.{ltb}
use Rattle.plan.specs.Sets.{at_most_one}
use Rattle.plan.proofs.Counting.{ones_size, size_at_most_one}
use Rattle.plan.proofs.at_most_one.Goals as goal

pub returns-then-set-eq0 : goal.returns-then-set-eq0
unfolding at_most_one
returns-then-set-eq0 c = rw c.if-set-eq0.true

pub returns : goal.returns
returns c = let s = c.args.set in
    ap (λ (n : ℕ). ltb n 2) (ones_size 64 s (omega arith)) ∙ size_at_most_one 64 s (omega arith)

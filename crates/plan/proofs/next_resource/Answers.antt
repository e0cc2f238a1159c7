-- The lowest of those after k.
use native.Mathlib.Omega.{arith}
use mathlib.Core.Path.{ap, ◌∙◌}
use Prim.Native.Nat.{◌^◌}
use Rattle.plan.specs.Sets.{lowest, next}
use Rattle.plan.proofs.Counting.{after_shifted}
use Rattle.plan.proofs.next_resource.Goals as goal

pub returns : goal.returns
unfolding next
returns c = c.lowest_resource.ensures ∙ ap (lowest 64) (after_shifted (2 ^ 64) c.args.set c.args.k (omega arith))

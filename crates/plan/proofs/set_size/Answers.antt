-- The language's own count of ones.
use native.Mathlib.Omega.{arith}
use Rattle.plan.proofs.Counting.{ones_size}
use Rattle.plan.proofs.set_size.Goals as goal

pub returns : goal.returns
returns c = ones_size 64 c.args.set (omega arith)

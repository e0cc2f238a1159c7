-- The set is that of the one place.
use native.Mathlib.Omega.{arith}
use mathlib.Core.Path.{ap}
use lib.Dec.{eqb}
use Rattle.plan.specs.Sets.{only}
use Rattle.plan.proofs.Sets.{bit_small}
use Rattle.plan.proofs.only_resource.Goals as goal

pub returns : goal.returns
unfolding only
returns c = ap (eqb c.args.set) (bit_small c.args.k (omega arith))

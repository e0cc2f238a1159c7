-- Bit k by a shift.
use mathlib.Core.Path.{sym}
use Rattle.plan.proofs.Sets.{has_bit}
use Rattle.plan.proofs.has_resource.Goals as goal

pub returns : goal.returns
returns c = sym (has_bit c.args.set c.args.k)

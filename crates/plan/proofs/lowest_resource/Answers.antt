-- The language's own count of trailing zeros.
use Rattle.plan.proofs.Counting.{trailing_lowest}
use Rattle.plan.proofs.lowest_resource.Goals as goal

pub returns : goal.returns
returns c = trailing_lowest 64 c.args.set

-- The ends of days and of durations are far from those of 64 bits.
use Rattle.integers.proofs.Z.{z, -z}
use Rattle.balance.proofs.cut_task.Goals as goal

pub sub-requires : goal.sub-requires
sub-requires c = let t = c.args.t in omega (z, -z t.end.low.0 t.duration.high.0)

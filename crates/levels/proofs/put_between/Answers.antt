-- A change of the limit fits its type, and a key.
use Rattle.integers.proofs.Z.{z, -z}
use Rattle.rules.proofs.Bands.{ends_in}
use Rattle.levels.proofs.Adds.{change_fits}
use Rattle.levels.proofs.put_between.Goals as goal

pub sub-requires : goal.sub-requires
sub-requires c =
    omega (z, -z c.args.before.0 c.args.b.limit.0, (ends_in c.args.b c.requires.1).limit, c.requires.2)

pub key_of-requires : goal.key_of-requires
key_of-requires c =
    rw c.sub.ensures (change_fits c.args.b c.args.before.0 (ends_in c.args.b c.requires.1) c.requires.2)

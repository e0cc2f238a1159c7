-- Days and durations are small.
use Rattle.integers.proofs.Z.{z, -z}
use Rattle.narrow.proofs.Here.with_needs.Goals as goal

pub sub-requires : goal.sub-requires
sub-requires c = let t = c.args.self.t in
    let s = c.args.s in
    omega (z, c.args.self.ready.fits.origin, c.args.self.ready.fits.duration, c.args.self.ready.fits.end, c.requires, -z s.to.0 t.duration.high.0)

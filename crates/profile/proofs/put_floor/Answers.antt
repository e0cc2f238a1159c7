-- `profile::put_floor`: the keys of the span, those of the bands behind them.
use native.Mathlib.Omega.{arith}
use Rattle.rules.proofs.Bands.{limit_ends}
use Rattle.profile.proofs.put_floor.Goals as goal

pub returns-clause-events_bound : goal.returns-clause-events_bound
returns-clause-events_bound c =
    let a = c.args in
    let p = c.put_bands in
    let start = limit_ends a.r a.resource.limit.0 a.bands.now c.requires.enough.2.ends c.requires.enough.3 a.e.low.0 in
    (omega (arith, p.ensures.events_bound, c.put_held-m.ensures.upper_bound), rw p.ensures.start_value start)

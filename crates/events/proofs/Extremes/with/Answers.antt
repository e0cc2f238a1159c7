-- `events::Extremes::with`: each of the four joined to the task's.
use mathlib.Core.Path.{◌≡◌}
use Rattle.integers.specs.Whole.{larger, smaller}
use Rattle.plan.specs.Days.{day}
use Rattle.plan.specs.Powers.{power}
use Rattle.stretches.specs.Asks.{bar_of, lift_of}
use Rattle.events.specs.Extremes.{with_task}
use Rattle.std.proofs.Common.{rules}
use Rattle.events.proofs.Extremes.with.Goals as goal

pub returns : goal.returns
unfolding with_task
returns c =
    let e = c.args.self in
    let t = c.args.t in
    let low : c.min.result ≡ day (smaller e.low.0 t.origin.low.0) = search rules in
    let high : c.max.result ≡ day (larger e.high.0 t.end.high.0) = search rules in
    let bar : c.max-2.result ≡ power (larger e.bar.0 (bar_of t)) = search rules in
    let lift : c.max-3.result ≡ power (larger e.lift.0 (lift_of t)) = search rules in
    cc

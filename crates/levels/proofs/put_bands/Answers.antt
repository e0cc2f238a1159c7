-- `levels::put_bands`: a turn of the loop for each band; at the end there is no band left.
use native.Mathlib.Omega.{arith}
use mathlib.Core.Path.{ap, ◌∙◌}
use mathlib.Core.List.{append-nil}
use Prim.Native.Nat.{◌<◌}
use lib.ListN.{length, take, get_or}
use Rattle.integers.proofs.Lists.{each_at, each_all}
use Rattle.plan.specs.Powers.{power}
use Rattle.plan.specs.Tasks.{no_band}
use Rattle.rules.specs.Calls.{band_ends}
use Rattle.rules.proofs.Bands.{ends_in}
use Rattle.levels.proofs.Adds.{after_within}
use Rattle.levels.proofs.Loops.{events_few, keys_more, start_more, keys_end, start_end, laid_front}
use Rattle.levels.proofs.put_bands.Goals as goal

pub put_band-c-requires : goal.put_band-c-requires
put_band-c-requires c =
    let i = c.loop-b.b-index in
    let e = each_at _ i (each_all band_ends c.args.bands.now c.requires.1) (omega arith) in
    (omega arith, e, c.loop-b.invariant.within)

pub loop-b-preserved : goal.loop-b-preserved
unfolding no_band
loop-b-preserved c =
    let k = c.put_band-c in
    let l = c.loop-b in
    let bs = c.args.bands.now in
    let r = c.args.r in
    let low = c.args.low.0 in
    let high = c.args.high.0 in
    let i = l.b-index in
    let b = get_or bs i no_band in
    let h : i < length bs = omega arith in
    let f = ends_in b (each_at no_band i (each_all band_ends bs c.requires.1) h) in
    record {
      in_range = omega arith;
      same_length = k.auto.keys ∙ l.invariant.same_length;
      few = omega (arith, k.ensures.laid.many, events_few r low high l.c.limit.0 b);
      laid = rw k.ensures.limit_value (keys_more r low high no_band bs i h l.c.limit.0 _ _ _ _ k.ensures.laid ∙ l.invariant.laid);
      start = rw k.ensures.start_value (start_more r low high no_band bs i h l.c.start.0 ∙ l.invariant.start);
      within = rw k.ensures.limit_value (after_within r l.c.limit.0 b f l.invariant.within);
    }

pub returns-clause-laid : goal.returns-clause-laid
returns-clause-laid c =
    let l = c.loop-b in
    let none = keys_end c.args.r c.args.low.0 c.args.bands.now l.b-index (omega arith) c.args.high.0 l.c.limit.0 in
    laid_front _ _ _ _ _ (omega arith) (omega arith) (rw (none, append-nil (take l.c.events l.keys)) at l.invariant.laid)

pub returns-clause-start_value : goal.returns-clause-start_value
returns-clause-start_value c =
    let l = c.loop-b in
    ap power (rw (start_end c.args.r c.args.low.0 c.args.bands.now l.b-index (omega arith) l.c.start.0) at l.invariant.start)

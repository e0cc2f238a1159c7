-- By halves: the first `low` begin before the day, those from `high` on do not.
use Rattle.std.proofs.Common.{rules, ◌≡◌, true, false, ◌+◌, ◌-◌, ◌/◌, length, arith}
use lib.ListN.{get_or}
use lib.Signed.{lt_z}
use Rattle.integers.proofs.Z.{z}
use Rattle.stretches.specs.View.{no_stretch}
use Rattle.searches.proofs.Order.{begun_start, begun_low, begun_high}
use Rattle.searches.proofs.begun.Goals as goal

pub loop-low-init : goal.loop-low-init
loop-low-init c = let ss = c.args.stretches.now in (omega arith, omega arith, λ o. begun_start ss c.args.d.0 (length ss) (omega arith))

pub loop-low-preserved-then-lt : goal.loop-low-preserved-then-lt
unfolding no_stretch
loop-low-preserved-then-lt c =
    let ss = c.args.stretches.now in
    let low = c.loop-low.low in
    let high = c.loop-low.high in
    let mid = low + (high - low) / 2 in
    let e : lt_z (get_or ss mid no_stretch).from.0 c.args.d.0 ≡ true = search rules in
    (omega arith, omega arith, λ o. begun_low ss c.args.d.0 o low high mid (c.loop-low.invariant.2 o) (omega arith) (omega z))

pub loop-low-preserved : goal.loop-low-preserved
unfolding no_stretch
loop-low-preserved c =
    let ss = c.args.stretches.now in
    let low = c.loop-low.low in
    let high = c.loop-low.high in
    let mid = low + (high - low) / 2 in
    let e : lt_z (get_or ss mid no_stretch).from.0 c.args.d.0 ≡ false = search rules in
    (omega arith, omega arith, λ o. begun_high ss c.args.d.0 o low high mid (c.loop-low.invariant.2 o) (omega arith) (omega z))

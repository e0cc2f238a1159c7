-- Each resource's step in list order. The invariant: what is left to do on the list as it is now gives the answer, the list is one that the steps may
-- leave, the mask is right, and what changed is noted. A step whose bit is clear would change nothing.
use native.Mathlib.Omega.{arith}
use mathlib.Core.Path.{refl, sym, ◌∙◌, subst}
use Prim.Native.Nat.{ℕ, ◌<◌}
use Rattle.plan.specs.declared.Sense.TheVariants.{AtLeast}
use Rattle.plan.proofs.Counting.{next_above}
use Rattle.rules.specs.Frame.{framed}
use Rattle.idle.proofs.Passing.{passing_start, passing_more, passing_none, passing_end}
use Rattle.passes.proofs.Ready.{place_small, kept_on}
use Rattle.passes.proofs.Skips.{to_lowest, to_next}
use Rattle.passes.proofs.steps.Goals as goal

pub loop-place-init : goal.loop-place-init
loop-place-init c =
    let f = framed AtLeast c.args.resources.now c.args.bands.now in
    let ts = c.args.tasks.now in
    let a = c.requires.ready.accepted in
    let first = c.args.first in
    record {
      size = refl;
      kept = record { keys = refl; stretches = refl };
      passing = rw c.lowest_resource-place.ensures (to_lowest f ts a first.changed first ts 64 (passing_start f ts a first c.requires.idle));
    }

pub returns-in_err-p-clause-took : goal.returns-in_err-p-clause-took
returns-in_err-p-clause-took c =
    let f = framed AtLeast c.args.resources.now c.args.bands.now in
    let l = c.loop-place in
    rw c.from_residual.ensures
    (passing_none f c.args.tasks.now c.requires.ready.accepted c.args.first.changed l.place l.p l.tasks l.invariant.passing (omega arith)
    c.resource_step.new.tasks c.in_err-p.ensures.took)

pub next_resource-place-requires : goal.next_resource-place-requires
next_resource-place-requires c = place_small c.requires.ready c.loop-place.place (omega arith)

pub loop-place-smaller : goal.loop-place-smaller
loop-place-smaller c =
    let l = c.loop-place in
    let small = place_small c.requires.ready l.place (omega arith) in
    let up : l.place < c.next_resource-place.result =
    subst (λ (n : ℕ). l.place < n) (sym c.next_resource-place.ensures) (next_above 64 c.in_ok-p.p.mask l.place small) in
    omega arith

pub loop-place-preserved : goal.loop-place-preserved
loop-place-preserved c =
    let f = framed AtLeast c.args.resources.now c.args.bands.now in
    let ts = c.args.tasks.now in
    let a = c.requires.ready.accepted in
    let before = c.args.first.changed in
    let l = c.loop-place in
    let o = c.resource_step in
    let small = place_small c.requires.ready l.place (omega arith) in
    let past = passing_more f ts a before l.place l.p l.tasks l.invariant.passing (omega arith) o.new.tasks c.in_ok-p.p c.in_ok-p.ensures.took in
    record {
      size = o.auto.tasks ∙ l.invariant.size;
      kept = kept_on l.invariant.kept o.ensures.kept;
      passing = rw c.next_resource-place.ensures (to_next f ts a before c.in_ok-p.p o.new.tasks 64 l.place small past);
    }

pub returns-clause-took : goal.returns-clause-took
returns-clause-took c =
    let f = framed AtLeast c.args.resources.now c.args.bands.now in
    let l = c.loop-place in
    passing_end f c.args.tasks.now c.requires.ready.accepted c.args.first.changed l.place l.p l.tasks l.invariant.passing (omega arith)

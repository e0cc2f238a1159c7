-- `profile::sweep`: the stretches so far, joined to those that the keys left will make, are the answer.
use native.Mathlib.Omega.{arith}
use mathlib.Core.Path.{◌∙◌}
use Prim.Native.Nat.{◌≤◌}
use lib.ListN.{length, get_or}
use Rattle.events.proofs.Laid.{laid_all}
use Rattle.profile.proofs.Loops.{small_fits, small_more, swept_more, swept_end, worthy_few}
use Rattle.profile.proofs.sweep.Goals as goal

pub after-v-requires : goal.after-v-requires
after-v-requires c = small_fits c.loop-k.k-index c.loop-k.v _ c.loop-k.invariant.small (omega arith)

pub loop-k-preserved : goal.loop-k-preserved
loop-k-preserved c =
    let p = c.put_worthy-n in
    let t = c.stretch in
    let d = c.day_of-to in
    let e = c.args.e in
    let ks = c.args.keys.now in
    let l = c.loop-k in
    let j = l.k-index in
    record {
      in_range = omega arith;
      few = omega (arith, p.ensures.many, worthy_few e t.result);
      small = rw c.after-v.ensures (small_more j l.v (get_or ks j 0) l.invariant.small);
      laid = rw (c.after-v.ensures, d.ensures)
          (swept_more e ks j (omega arith) _ _ _ _ l.from.0 l.v (rw (t.ensures, d.ensures) at p.ensures) ∙ l.invariant.laid);
    }

pub returns-clause-laid : goal.returns-clause-laid
returns-clause-laid c =
    let p = c.put_worthy in
    let t = c.stretch-2 in
    let e = c.args.e in
    let l = c.loop-k in
    let m : p.result ≤ length p.new.stretches = omega (arith, p.ensures.many, worthy_few e t.result) in
    laid_all _ _ p.result _ m
    (swept_end e c.args.keys.now l.k-index (omega arith) _ _ _ _ l.from.0 l.v (rw t.ensures at p.ensures) ∙ l.invariant.laid)

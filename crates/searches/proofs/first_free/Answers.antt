-- Stretch by stretch: what is left gives what the whole search gives.
use Rattle.std.proofs.Common.{rules, ◌≡◌, true, false, sym, ◌∙◌, arith}
use lib.IntN.{◌+ℤ◌}
use lib.ListN.{get_or}
use lib.Signed.{◌<ℤ◌, le_z}
use Rattle.std.proofs.lemmas.List.{at_drop_all}
use Rattle.integers.specs.Whole.{larger}
use Rattle.integers.proofs.Z.{z, maxz}
use Rattle.stretches.specs.View.{no_stretch}
use Rattle.searches.specs.Searches.{shared}
use Rattle.searches.proofs.FirstFree.{first_from, first_stop, first_more, first_answer}
use Rattle.searches.proofs.first_free.Goals as goal
use Rattle.searches.proofs.first_free.Goals.{in-Some, in_default}

pub returns-then-le : goal.returns-then-le
unfolding no_stretch
returns-then-le c =
    let x = c.args.x in
    let d = c.args.d.0 in
    let ss = c.args.stretches.now in
    let v = c.loop-s.v.0 in
    let k = c.loop-s.s-index in
    let from = (shared x.days (get_or ss k no_stretch)).from.0 in
    let e : le_z (v +ℤ d) from ≡ true = search rules in
    let f = first_stop x d ss k v (omega arith) (omega z) in
    (c.loop-s.invariant.0, first_answer x d c.requires.2 ss c.args.low.0 v (sym f ∙ c.loop-s.invariant.1))

pub loop-s-preserved : goal.loop-s-preserved
unfolding no_stretch
loop-s-preserved c =
    let x = c.args.x in
    let d = c.args.d.0 in
    let ss = c.args.stretches.now in
    let v = c.loop-s.v.0 in
    let k = c.loop-s.s-index in
    let s = get_or ss k no_stretch in
    let from = (shared x.days s).from.0 in
    let m : c.max.result.0 ≡ from = search rules in
    let e : le_z c.add.result.0 c.max.result.0 ≡ false = search rules in
    let n : c.add.result.0 ≡ v +ℤ d = search rules in
    let g : from <ℤ (v +ℤ d) = omega z in
    elim c.match-barred.branch [
      | in-Some w ↦ (let u : c.match-barred.v.0 ≡ larger v w.in-Some.hit.to.0 = search rules in
          (omega (z, maxz v w.in-Some.hit.to.0, w.in-Some.ensures.among), rw u (sym (first_more x d ss k v (omega arith) g w.in-Some.ensures.part) ∙ c.loop-s.invariant.1)))
      | in_default w ↦ (rw w.v-is c.loop-s.invariant.0, rw (w.v-is) (sym (first_more x d ss k v (omega arith) g w.in_default.ensures.part) ∙ c.loop-s.invariant.1))
    ]

pub returns : goal.returns
returns c =
    let x = c.args.x in
    let d = c.args.d.0 in
    let ss = c.args.stretches.now in
    let v = c.loop-s.v.0 in
    let f = at_drop_all (λ l. first_from x d l v) ss c.loop-s.s-index (omega arith) in
    (c.loop-s.invariant.0, first_answer x d c.requires.2 ss c.args.low.0 v (sym f ∙ c.loop-s.invariant.1))

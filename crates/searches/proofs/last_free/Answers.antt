-- Stretch by stretch from the last: what is left gives what the whole search gives.
use Rattle.std.proofs.Common.{rules, ◌≡◌, true, false, sym, ◌∙◌}
use mathlib.Core.List.{[], ◌∷◌, ◌++◌}
use lib.IntN.{◌-ℤ◌}
use lib.Signed.{◌≤ℤ◌, ◌<ℤ◌, le_z}
use Rattle.std.specs.Slice.Iter.{iter_rest}
use Rattle.std.specs.Iterator.Adapters.{rev_source}
use Rattle.std.proofs.lemmas.List.{nil_from_length}
use Rattle.integers.specs.Whole.{smaller}
use Rattle.integers.proofs.Z.{z, -z, minz}
use Rattle.searches.specs.Searches.{shared}
use Rattle.searches.proofs.Parts.{min_is}
use Rattle.searches.proofs.Order.{ordered_front}
use Rattle.searches.proofs.LastFree.{last_stop, last_more, last_answer}
use Rattle.searches.proofs.last_free.Goals as goal

pub returns-then-le : goal.returns-then-le
returns-then-le c =
    let x = c.args.x in
    let d = c.args.d.0 in
    let ss = c.args.stretches.now in
    let v = c.loop-s.v.0 in
    let s = c.in-Some.s.now in
    let left = iter_rest (rev_source c.next.new.self) in
    let step : iter_rest (rev_source c.loop-s.s-iterator) ≡ left ++ s ∷ [] = c.in-Some.ensures.steps in
    let to = (shared x.days s).to.0 in
    let m : c.min.result.0 ≡ to = min_is s.to x.days.to c.min.ensures in
    let e : le_z c.min.result.0 v ≡ true = search rules in
    let h : to ≤ℤ v = omega z in (
      c.loop-s.invariant.0,
      last_answer x d c.requires.2 ss c.args.high.0 v (λ o.
          sym (last_stop x d left s v (rw step at (c.loop-s.invariant.1 o)) h) ∙ (rw step at c.loop-s.invariant.2)),
    )

pub loop-s-preserved-in-Some-barred : goal.loop-s-preserved-in-Some-barred
loop-s-preserved-in-Some-barred c =
    let x = c.args.x in
    let d = c.args.d.0 in
    let v = c.loop-s.v.0 in
    let s = c.in-Some.s.now in
    let left = iter_rest (rev_source c.next.new.self) in
    let step : iter_rest (rev_source c.loop-s.s-iterator) ≡ left ++ s ∷ [] = c.in-Some.ensures.steps in
    let to = (shared x.days s).to.0 in
    let m : c.min.result.0 ≡ to = min_is s.to x.days.to c.min.ensures in
    let e : le_z c.min.result.0 v ≡ false = search rules in
    let h : v <ℤ to = omega z in
    let p = c.in-Some-barred.hit in
    let u : c.min-v.result.0 ≡ smaller v (p.from.0 -ℤ d) = rw c.sub.ensures at (min_is c.loop-s.v c.sub.result c.min-v.ensures) in (
      omega (z, minz v (p.from.0 -ℤ d), -z p.from.0 d, c.in-Some-barred.ensures.among, c.requires),
      λ o. ordered_front left s (rw step at (c.loop-s.invariant.1 o)),
      rw u (sym (last_more x d left s v h c.in-Some-barred.ensures.part) ∙ (rw step at c.loop-s.invariant.2)),
    )

pub loop-s-preserved : goal.loop-s-preserved
loop-s-preserved c =
    let x = c.args.x in
    let d = c.args.d.0 in
    let v = c.loop-s.v.0 in
    let s = c.in-Some.s.now in
    let left = iter_rest (rev_source c.next.new.self) in
    let step : iter_rest (rev_source c.loop-s.s-iterator) ≡ left ++ s ∷ [] = c.in-Some.ensures.steps in
    let to = (shared x.days s).to.0 in
    let m : c.min.result.0 ≡ to = min_is s.to x.days.to c.min.ensures in
    let e : le_z c.min.result.0 v ≡ false = search rules in
    let h : v <ℤ to = omega z in (
      c.loop-s.invariant.0,
      λ o. ordered_front left s (rw step at (c.loop-s.invariant.1 o)),
      sym (last_more x d left s v h c.in_default.ensures.part) ∙ (rw step at c.loop-s.invariant.2),
    )

pub returns : goal.returns
returns c =
    let x = c.args.x in
    let d = c.args.d.0 in
    let v = c.loop-s.v.0 in
    let left = iter_rest (rev_source c.loop-s.s-iterator) in
    let none : left ≡ [] = nil_from_length left c.in-None.ensures.steps.0 in
    (c.loop-s.invariant.0, last_answer x d c.requires.2 c.args.stretches.now c.args.high.0 v (λ o. rw none at c.loop-s.invariant.2))

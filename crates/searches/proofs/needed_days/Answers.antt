-- Stretch by stretch.
use Rattle.std.proofs.Common.{◌≡◌, sym, ap₂, ◌∙◌, arith, Some}
use mathlib.Core.List.{foldl}
use lib.IntN.{ℤ}
use Rattle.std.proofs.lemmas.List.{at_drop_all}
use Rattle.integers.proofs.Z.{z, maxz, minz}
use Rattle.plan.specs.Days.{day}
use Rattle.stretches.specs.View.{no_stretch}
use Rattle.searches.specs.Searches.{needed_part, Needed}
use Rattle.searches.proofs.Parts.{for_tests, walk_more, max_is, min_is}
use Rattle.searches.proofs.NeededDays.{joined, needed_of}
use Rattle.searches.proofs.needed_days.Goals as goal
use Rattle.searches.proofs.needed_days.Goals.{in-Some, in_default}

pub loop-s-preserved : goal.loop-s-preserved
unfolding no_stretch
loop-s-preserved c =
    let w = c.args.w in
    let h = c.args.h in
    let ss = c.args.stretches.now in
    let k = c.loop-s.s-index in
    let r = c.loop-s.r in
    elim c.match-needed.branch [
      | in-Some b ↦ (let p = b.in-Some.hit in
          let x = min_is r.from p.from b.min.ensures in
          let y = max_is r.to p.to b.max.ensures in
          let e : c.match-needed.r ≡ joined (Some p) r = b.r-is ∙ ap₂ (λ (u v : ℤ). record { from = day u; to = day v }) x y in
          rw e (
            omega (z, c.loop-s.invariant.0, b.in-Some.ensures.among, minz r.from.0 p.from.0, maxz r.to.0 p.to.0),
            sym (walk_more (needed_part w h) joined r ss k (omega arith) b.in-Some.ensures.part) ∙ c.loop-s.invariant.1,
          ))
      | in_default b ↦ rw b.r-is (c.loop-s.invariant.0, sym (walk_more (needed_part w h) joined r ss k (omega arith) b.in_default.ensures.part) ∙ c.loop-s.invariant.1)
    ]

pub returns : goal.returns
returns c =
    let w = c.args.w in
    let h = c.args.h in
    let ss = c.args.stretches.now in
    let f = at_drop_all (λ l. foldl (λ r s. joined (needed_part w h s) r) c.loop-s.r l) ss c.loop-s.s-index (omega arith) in
    (c.loop-s.invariant.0, for_tests (needed_part w h) ss (λ q. Needed q w c.loop-s.r) (rw (sym f ∙ c.loop-s.invariant.1) (needed_of w h ss)))

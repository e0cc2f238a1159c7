-- Stretch by stretch, unless half the reach is enough.
use Rattle.std.proofs.Common.{rules, ◌≡◌, true, sym, ◌∙◌, arith, Some}
use mathlib.Core.List.{foldl}
use lib.Signed.{le_z}
use Rattle.std.proofs.lemmas.List.{at_drop_all}
use Rattle.integers.proofs.Z.{z}
use Rattle.stretches.specs.View.{no_stretch}
use Rattle.searches.specs.Searches.{barred_part, Longest}
use Rattle.searches.proofs.Parts.{for_tests, walk_more, max_is, min_is}
use Rattle.searches.proofs.Durations.{shorter, longest_of, longest_half}
use Rattle.searches.proofs.longest.Goals as goal
use Rattle.searches.proofs.longest.Goals.{in-Some, in_default}

pub returns-then-le : goal.returns-then-le
returns-then-le c =
    let h = c.half_of-half in
    let e : le_z c.args.most.0 h.result.0 ≡ true = search rules in
    λ q t. longest_half q c.args.x.days h.result.0 c.args.most.0 h.ensures (omega z)

pub loop-s-preserved : goal.loop-s-preserved
unfolding no_stretch
loop-s-preserved c =
    let x = c.args.x in
    let w = x.days in
    let h = c.half_of-half.result in
    let ss = c.args.stretches.now in
    let k = c.loop-s.s-index in
    let r = c.loop-s.r.0 in
    elim c.match-barred.branch [
      | in-Some b ↦ (let p = b.in-Some.hit in
          let y = rw (b.sub-before.ensures, b.sub-after.ensures) at (max_is b.sub-before.result b.sub-after.result b.max.ensures) in
          let e : c.match-barred.r.0 ≡ shorter w h.0 (Some p) r = rw (b.r-is, min_is c.loop-s.r b.max-in-Some.result b.min-r.ensures, max_is h b.max.result b.max-in-Some.ensures, y) in
          rw e (sym (walk_more (barred_part x) (shorter w h.0) r ss k (omega arith) b.in-Some.ensures.part) ∙ c.loop-s.invariant))
      | in_default b ↦ rw b.r-is (sym (walk_more (barred_part x) (shorter w h.0) r ss k (omega arith) b.in_default.ensures.part) ∙ c.loop-s.invariant)
    ]

pub returns : goal.returns
returns c =
    let x = c.args.x in
    let half = c.half_of-half in
    let ss = c.args.stretches.now in
    let f = at_drop_all (λ l. foldl (λ r s. shorter x.days half.result.0 (barred_part x s) r) c.loop-s.r.0 l) ss c.loop-s.s-index (omega arith) in
    for_tests (barred_part x) ss (λ q. Longest q x.days c.args.most.0 c.loop-s.r.0)
    (rw (sym f ∙ c.loop-s.invariant) (longest_of x.days half.result.0 half.ensures x ss c.args.most.0))

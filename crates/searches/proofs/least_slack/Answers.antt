-- Stretch by stretch, unless there is no day.
use Rattle.std.proofs.Common.{rules, ◌≡◌, true, false, sym, ◌∙◌, arith}
use mathlib.Core.List.{foldl}
use lib.ListN.{get_or}
use lib.Signed.{le_z, lt_z}
use Rattle.std.proofs.lemmas.List.{at_drop_more, at_drop_all}
use Rattle.integers.proofs.Z.{z}
use Rattle.stretches.specs.View.{no_stretch}
use Rattle.searches.specs.Searches.{meets}
use Rattle.searches.proofs.LeastSlack.{lowered, some_met, least_of_lem, least_none}
use Rattle.searches.proofs.least_slack.Goals as goal
use Rattle.searches.proofs.least_slack.Goals.{then-lt+then-is_some, else-lt, else-lt-via-then-lt+else-is_some, else-lt-via-else-lt}

pub returns-then-le : goal.returns-then-le
returns-then-le c =
    let e : le_z c.args.w.to.0 c.args.w.from.0 ≡ true = search rules in
    least_none c.args.stretches.now c.args.w c.args.most.0 (omega z)

pub loop-s-preserved : goal.loop-s-preserved
unfolding no_stretch
loop-s-preserved c =
    let w = c.args.w in
    let ss = c.args.stretches.now in
    let k = c.loop-s.s-index in
    let s = get_or ss k no_stretch in
    let f = at_drop_more (λ l. foldl (λ x u. lowered w u x) c.loop-s.x l) ss k no_stretch (omega arith) in
    let e : c.if-lt.x ≡ lowered w s c.loop-s.x = elim c.if-lt.branch [
      | then-lt+then-is_some b ↦ (let l : lt_z s.slack.0 c.loop-s.x.0 ≡ true = search rules in
          let m : meets w s ≡ true = sym (some_met w s b.shared.ensures.part) ∙ sym b.is_some.ensures ∙ b.if-is_some.true in rw (b.x-is, l, m))
      | else-lt b ↦ rw b.x-is (elim b.else-lt.branch [
        | else-lt-via-then-lt+else-is_some u ↦ (let l : lt_z s.slack.0 c.loop-s.x.0 ≡ true = search rules in
            let m : meets w s ≡ false = sym (some_met w s u.shared.ensures.part) ∙ sym u.is_some.ensures ∙ u.if-is_some.false in rw (l, m))
        | else-lt-via-else-lt u ↦ (let l : lt_z s.slack.0 c.loop-s.x.0 ≡ false = search rules in rw l)
      ])
    ] in
    rw e (sym f ∙ c.loop-s.invariant)

pub returns : goal.returns
returns c =
    let w = c.args.w in
    let ss = c.args.stretches.now in
    let f = at_drop_all (λ l. foldl (λ x u. lowered w u x) c.loop-s.x l) ss c.loop-s.s-index (omega arith) in
    rw (sym f ∙ c.loop-s.invariant) (least_of_lem w ss c.args.most)

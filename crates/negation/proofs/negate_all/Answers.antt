-- Each negated in its place, from the front.
use mathlib.Core.List.{List}
use mathlib.Core.Path.{◌≡◌, sym, ap, ap₂, ◌∙◌, subst}
use lib.ListN.{get_or, set}
use Rattle.integers.proofs.Lists.{each_at}
use Rattle.integers.proofs.Loops.{mapped_none, mapped_more, mapped_at, mapped_all}
use Rattle.negation.proofs.negate_all.Goals as goal

pub loop-x-init : goal.loop-x-init
loop-x-init g c = sym (mapped_none g.T.Negated.gives c.args.list.now)

pub negated-requires : goal.negated-requires
negated-requires g c =
    let f = g.T.Negated.gives in
    let xs = c.args.list.now in
    let i = c.loop-x.x-index in
    let d = c.x-item.result in
    let reached : get_or c.loop-x.list i d ≡ get_or xs i d = ap (λ (l : List g.row.T.Denot). get_or l i d) c.loop-x.invariant ∙ mapped_at f d i xs in
    subst g.T.Negated.can (sym reached) (each_at d i c.requires c.loop-x-test.true)

pub loop-x-preserved : goal.loop-x-preserved
loop-x-preserved g c =
    let f = g.T.Negated.gives in
    let xs = c.args.list.now in
    let i = c.loop-x.x-index in
    let d = c.x-item.result in
    let reached : get_or c.loop-x.list i d ≡ get_or xs i d = ap (λ (l : List g.row.T.Denot). get_or l i d) c.loop-x.invariant ∙ mapped_at f d i xs in
    ap₂ (λ (l : List g.row.T.Denot) (x : g.row.T.Denot). set l i x) c.loop-x.invariant (c.negated.ensures ∙ ap f reached) ∙ mapped_more f d i xs c.loop-x-test.true

pub returns : goal.returns
returns g c = c.loop-x.invariant ∙ mapped_all g.T.Negated.gives c.loop-x.x-index c.args.list.now c.loop-x-test.false

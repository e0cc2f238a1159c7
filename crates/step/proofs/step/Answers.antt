-- A shortfall is no plan; else every task by itself, as the page has it.
use Rattle.integers.proofs.Lists.{each_so}
use Rattle.rules.specs.Frame.{limit_from, floor}
use Rattle.changes.proofs.Changes.{touched_self}
use Rattle.step.proofs.Listed.{answered_short, answered_ok, answered_tells, answered_each, answered_calm}
use mathlib.Core.Path.{sym}
use Rattle.step.proofs.step.Goals as goal

pub profile-requires-clause-each : goal.profile-requires-clause-each
profile-requires-clause-each c = each_so (λ t h. h.ranges) c.requires.each

pub returns-in_err-n-clause-outcome : goal.returns-in_err-n-clause-outcome
returns-in_err-n-clause-outcome c =
    let limit = floor c.args.resource.kind (limit_from c.args.r c.args.resource.limit.0 c.args.bands.now) in
    rw c.from_residual.ensures
    (answered_short c.args.r limit c.args.tasks.now c.profile.new.work.stretches.now c.profile.result c.profile.ensures.answer
    c.in_err-n.ensures.value)

pub returns-then-n-eq0-clause-outcome : goal.returns-then-n-eq0-clause-outcome
returns-then-n-eq0-clause-outcome c =
    let limit = floor c.args.resource.kind (limit_from c.args.r c.args.resource.limit.0 c.args.bands.now) in
    let ss = c.profile.new.work.stretches.now in
    let are = answered_ok c.args.r limit c.args.tasks.now ss c.profile.result c.profile.ensures.answer c.in_ok-n.n c.in_ok-n.ensures.value in
    answered_calm c.args.r limit c.args.tasks.now ss c.requires.each (rw c.if-n-eq0.true at are)

pub returns-then-n-eq0-clause-noted : goal.returns-then-n-eq0-clause-noted
returns-then-n-eq0-clause-noted c = sym (touched_self c.args.tasks.now)

pub returns-clause-outcome : goal.returns-clause-outcome
returns-clause-outcome c =
    let limit = floor c.args.resource.kind (limit_from c.args.r c.args.resource.limit.0 c.args.bands.now) in
    let ss = c.profile.new.work.stretches.now in
    let are = answered_ok c.args.r limit c.args.tasks.now ss c.profile.result c.profile.ensures.answer c.in_ok-n.n c.in_ok-n.ensures.value in
    answered_each c.args.r limit c.args.tasks.now ss c.in_ok-n.n are _
    (c.narrow_all.ensures.outcome limit (answered_tells c.args.r limit c.args.tasks.now ss c.in_ok-n.n are))

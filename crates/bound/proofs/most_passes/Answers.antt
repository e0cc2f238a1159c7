-- The room of each task is added up, which fits: all the rooms do.
use native.Mathlib.Omega.{arith}
use mathlib.Core.Path.{◌≡◌, sym, subst, ◌∙◌}
use borrow.Author.Tests.{tests}
use Rattle.std.proofs.Common.{rules}
use Rattle.std.proofs.lemmas.Iterator.{YieldsList-from_slice, YieldsList-from_map}
use Rattle.std.proofs.lemmas.Iterator.Adapters.{serves_from_places}
use Rattle.std.proofs.lemmas.Iterator.Consumers.{fits_by_from_yields_list, sum_by_from_yields_List}
use Rattle.integers.proofs.Lists.{each_at}
use Rattle.plan.specs.Tasks.{TaskFits}
use Rattle.rules.specs.Settle.{room, rooms}
use Rattle.rules.proofs.Checks.{check_wide}
use Rattle.rules.proofs.Bounds.{rooms_most}
use Rattle.bound.proofs.Sums.{rooms_sum}
use Rattle.bound.proofs.most_passes.Goals as goal

pub sum-requires-clause-can : goal.sum-requires-clause-can
sum-requires-clause-can c =
    let ts = c.args.tasks.now in (
      tt,
      serves_from_places (YieldsList-from_slice ts (cc)) (λ x q h. search (rules, tests))
          (λ x k l e.
          let fits : TaskFits 64 x.now = subst (TaskFits 64) (sym e) (each_at x.now k (check_wide c.requires.0 ts c.requires.1) l) in
          search (rules, tests)),
    )

pub sum-requires-clause-fits : goal.sum-requires-clause-fits
sum-requires-clause-fits c =
    let ts = c.args.tasks.now in
    fits_by_from_yields_list room ts c.map.result _
    (YieldsList-from_map _ room (YieldsList-from_slice ts (cc)) c.map.ensures.closure (λ x r q k. search (rules, tests)))
    (omega (arith, rooms_sum ts, rooms_most c.requires.0 ts c.requires.1))

sum_is : (c : goal.After-sum) → c.sum.result ≡ rooms c.args.tasks.now
sum_is c =
    let ts = c.args.tasks.now in
    sum_by_from_yields_List room ts c.map.result c.sum.result c.sum.ensures.ran
    (YieldsList-from_map _ room (YieldsList-from_slice ts (cc)) c.map.ensures.closure (λ x r q k. search (rules, tests)))
    ∙ rooms_sum ts

pub overflow_add-result : goal.overflow_add-result
overflow_add-result c = omega (arith, sum_is c, rooms_most c.requires.0 c.args.tasks.now c.requires.1)

pub returns : goal.returns
returns c = omega (arith, sum_is c)

-- The first refusal, in the page's order, of a plan of which the first places are held.
use native.Mathlib.Omega.{arith}
use mathlib.Core.Path.{sym, ◌∙◌}
use borrow.Author.Tests.{lt-ltb}
use Rattle.std.proofs.lemmas.Result.{err_from_is_err_and}
use Rattle.plan.specs.Tasks.{most_bands}
use Rattle.plan.specs.declared.Sense.TheVariants.{AtLeast}
use Rattle.entry.proofs.Held.{held_tasks, held_none, held_resources, held_contents, held_whole}
use Rattle.entry.proofs.check_lists.Goals as goal
use Rattle.entry.proofs.check_lists.Goals.{then-resources_count-eq0-via-then-resources_count-eq0, then-resources_count-eq0-via-else-resources_count-eq0+then-resources_count-gt-MOST_RESOURCES}

pub returns-then-tasks_count-gt-MOST_TASKS : goal.returns-then-tasks_count-gt-MOST_TASKS
returns-then-tasks_count-gt-MOST_TASKS c f ts h = held_tasks h (omega arith)

pub returns-then-resources_count-eq0 : goal.returns-then-resources_count-eq0
returns-then-resources_count-eq0 c f ts h =
    elim c.then-resources_count-eq0.branch [
      | then-resources_count-eq0-via-then-resources_count-eq0 w ↦
          held_none h (omega arith) (omega (arith, w.if-resources_count-eq0))
      | then-resources_count-eq0-via-else-resources_count-eq0+then-resources_count-gt-MOST_RESOURCES w ↦
          held_resources h (omega arith) (omega (arith, w.if-resources_count-gt-MOST_RESOURCES))
    ]

pub returns-in_err-check_identifiers : goal.returns-in_err-check_identifiers
returns-in_err-check_identifiers c f ts h =
    let p = err_from_is_err_and c.from_residual.result c.from_residual.ensures.1 in
    let all = held_contents h (omega arith) (omega arith) (omega arith) in
    rw (p.1, p.2) (rw (sym c.check_identifiers.ensures ∙ c.in_err-check_identifiers.was) at all)

pub returns-in_err-check_limits : goal.returns-in_err-check_limits
returns-in_err-check_limits c f ts h =
    let p = err_from_is_err_and c.from_residual-in_err-check_limits.result c.from_residual-in_err-check_limits.ensures.1 in
    let all = held_contents h (omega arith) (omega arith) (omega arith) in
    rw (p.1, p.2) (rw (sym c.check_identifiers.ensures ∙ c.in_ok-check_identifiers.was, sym c.check_limits.ensures ∙ c.in_err-check_limits.was) at all)

pub returns-in_err-check_bands : goal.returns-in_err-check_bands
returns-in_err-check_bands c f ts h =
    let p = err_from_is_err_and c.from_residual-in_err-check_bands.result c.from_residual-in_err-check_bands.ensures.1 in
    let all = held_contents h (omega arith) (omega arith) (omega arith) in
    rw (p.1, p.2)
    (rw (sym c.check_identifiers.ensures ∙ c.in_ok-check_identifiers.was, sym c.check_limits.ensures ∙ c.in_ok-check_limits.was, sym c.check_bands.ensures ∙ c.in_err-check_bands.was) at all)

pub returns-then-bands_count-gt-MOST_BANDS : goal.returns-then-bands_count-gt-MOST_BANDS
returns-then-bands_count-gt-MOST_BANDS c f ts h =
    let all = held_contents h (omega arith) (omega arith) (omega arith) in
    rw (
      sym c.check_identifiers.ensures ∙ c.in_ok-check_identifiers.was,
      sym c.check_limits.ensures ∙ c.in_ok-check_limits.was,
      sym c.check_bands.ensures ∙ c.in_ok-check_bands.was,
      lt-ltb most_bands c.args.bands_count (omega arith),
    ) at all

pub returns : goal.returns
returns c f ts h = c.check.ensures AtLeast ∙ held_whole h AtLeast (omega arith) (omega arith) (omega arith)

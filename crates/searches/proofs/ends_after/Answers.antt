-- The origins found, moved, where the ranges agree; else the search.
use Rattle.std.proofs.Common.{rules, ◌≡◌, sym, subst}
use Rattle.plan.specs.declared.Day.{Day}
use Rattle.plan.specs.declared.Span.{Span}
use Rattle.searches.specs.Searches.{Freed, earlier}
use Rattle.searches.proofs.FreeSpan.{freed_ends}
use Rattle.searches.proofs.ends_after.Goals as goal

pub returns-then-eq : goal.returns-then-eq
returns-then-eq c = λ o q told f.
    let d = c.args.d.0 in
    let e : earlier d c.args.end ≡ c.args.s = search rules in
    rw c.later.ensures (freed_ends q d c.args.end c.args.o (subst (λ (x : Span Day). Freed q d x c.args.o) (sym e) f))

pub returns : goal.returns
returns c = λ o q told f.
    rw c.later-2.ensures (freed_ends q c.args.d.0 c.args.end c.free_span.result (rw c.earlier-origins.ensures at (c.free_span.ensures.1 o q told)))

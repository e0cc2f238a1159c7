-- The record that a reader at the start takes, then its checks.
use mathlib.Core.Path.{sym, ◌∙◌}
use Rattle.std.proofs.lemmas.Result.{err_from_is_err_and}
use Rattle.plan.specs.Refusals.{accepted}
use Rattle.file.proofs.First.{header_refused, header_taken}
use Rattle.file.proofs.read_header.Goals as goal

pub returns-in_err-h : goal.returns-in_err-h
returns-in_err-h c =
    let s = c.start-reader.ensures in
    let p = err_from_is_err_and c.from_residual.result c.from_residual.ensures.1 in
    rw (p.1, p.2) (header_refused c.args.file.now (rw (s.0, s.1) at (sym c.take.ensures.taken ∙ c.in_err-h.was)))

pub returns-in_err-check_header : goal.returns-in_err-check_header
returns-in_err-check_header c =
    let s = c.start-reader.ensures in
    let p = err_from_is_err_and c.from_residual-in_err-check_header.result c.from_residual-in_err-check_header.ensures.1 in
    rw (p.1, p.2)
    (header_taken c.args.file.now _ (rw (s.0, s.1) at (sym c.take.ensures.taken ∙ c.in_ok-h.was)) (sym c.check_header.ensures ∙ c.in_err-check_header.was))

pub returns : goal.returns
returns c =
    let s = c.start-reader.ensures in
    header_taken c.args.file.now accepted (rw (s.0, s.1) at (sym c.take.ensures.taken ∙ c.in_ok-h.was)) (sym c.check_header.ensures ∙ c.in_ok-check_header.was)

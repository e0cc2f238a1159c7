-- Needs cut the ranges; the least slack on the running days tells whether a bar takes the resource away.
use Rattle.std.proofs.Common.{rules, ◌≡◌, true, false, ap, ◌∙◌}
use lib.Signed.{lt_z}
use Rattle.stretches.specs.Asks.{bar_of}
use Rattle.narrow.specs.Ready.{without_here, finished}
use Rattle.narrow.proofs.NarrowedTask.{shared_page}
use Rattle.narrow.proofs.Here.shared.Goals as goal

pub returns-then-lt : goal.returns-then-lt
returns-then-lt c = λ beside has limit ts known.
    let t = c.args.self.t in
    let r = c.args.self.r in
    let s = c.joined-u.ensures in
    let x = c.least_slack.result.0 in
    let l = rw (c.running_days.ensures, c.bar_of-bar.ensures) at c.least_slack.ensures in
    let f : lt_z x c.bar_of-bar.result.0 ≡ true = search rules in
    let e : lt_z x (bar_of t) ≡ true = rw c.bar_of-bar.ensures at f in
    ap finished (c.without_here.ensures ∙ ap (without_here r) c.joined-u.ensures.is)
    ∙ (rw e at (shared_page r limit ts t c.args.self.stretches.now c.args.self.ready.fits known s.days s.found beside has x l))

pub returns-else-lt : goal.returns-else-lt
returns-else-lt c = λ beside has limit ts known.
    let t = c.args.self.t in
    let r = c.args.self.r in
    let s = c.joined-u.ensures in
    let x = c.least_slack.result.0 in
    let l = rw (c.running_days.ensures, c.bar_of-bar.ensures) at c.least_slack.ensures in
    let f : lt_z x c.bar_of-bar.result.0 ≡ false = search rules in
    let e : lt_z x (bar_of t) ≡ false = rw c.bar_of-bar.ensures at f in
    ap finished c.joined-u.ensures.is
    ∙ (rw e at (shared_page r limit ts t c.args.self.stretches.now c.args.self.ready.fits known s.days s.found beside has x l))

-- Where there is no stretch no rule touches it.
use Rattle.std.proofs.Common.{rules, ◌≡◌, length}
use Rattle.plan.proofs.Sets.{has_not_zero}
use Rattle.rules.proofs.Live.{live_bounded}
use Rattle.narrow.proofs.Window.{none_page}
use Rattle.narrow.proofs.Here.narrowed.Goals as goal

pub returns-then-is_empty : goal.returns-then-is_empty
returns-then-is_empty c = λ among limit ts known.
    let h = c.args.self in
    let e : length h.stretches.now ≡ 0 = search rules in
    none_page h.r limit ts h.t (live_bounded h.t h.ready.fits (has_not_zero h.t.set h.r among)) h.stretches.now known.tells e

-- A task with no possible day, one that may not stand here and one that nothing can change stay; of any other the stretches that can meet
-- its possible days tell what all tell.
use Rattle.std.proofs.Common.{rules, ◌≡◌, true, false, sym, ◌∙◌, Ok}
use lib.IntN.{ℤ}
use lib.Signed.{lt_z}
use Rattle.integers.proofs.Z.{z}
use Rattle.integers.proofs.Tests.{clash, false_in}
use Rattle.plan.specs.Refusals.{Narrowed}
use Rattle.plan.specs.Sets.{has}
use Rattle.rules.specs.Step.{possible, narrowed, listed_days}
use Rattle.rules.proofs.Live.{live_bounded}
use Rattle.rules.proofs.TaskDay.{Possible, possible_is}
use Rattle.narrow.proofs.NarrowedTask.{still_page, quiet_page, quiet_off}
use Rattle.narrow.proofs.narrow.Goals.{else-lt-via-then-lt+then-has_resource+else-not-is_still, else-lt-via-then-lt+else-has_resource, else-lt-via-else-lt}
use Rattle.narrow.proofs.Window.{met_tells}
use Rattle.narrow.proofs.narrow.Goals as goal

pub returns-then-not-is_still : goal.returns-then-not-is_still
returns-then-not-is_still c = λ full limit ts known.
    let r = c.args.r in
    let t = c.args.t in
    let us = c.met-stretches in
    let here : has t.set r ≡ true = sym c.has_resource.ensures ∙ c.if-has_resource.true in
    let met = rw c.possible_days.ensures at (us.ensures known.tells.ordered) in
    let tells = met_tells r limit ts t (live_bounded t c.requires.fits full) c.args.stretches.now us.result.now known.tells met in
    c.narrowed.ensures here limit ts (record { tells = tells; among = known.among; enough = known.enough })

pub returns-else-lt : goal.returns-else-lt
returns-else-lt c = λ full limit ts known.
    let r = c.args.r in
    let t = c.args.t in
    let live = live_bounded t c.requires.fits full in
    let nowhere : ((i : ℤ) → Possible r i t → ⊥) → ◌≡◌ {A = Narrowed} (Ok t) (narrowed r limit ts (listed_days ts) t) =
    λ f. quiet_page r limit ts t live (λ i. quiet_off r limit ts t live i (false_in (possible r i t) (λ p. f i (possible_is r i t p)))) in
    elim c.else-lt.branch [
      | else-lt-via-then-lt+then-has_resource+else-not-is_still w ↦ still_page r limit ts t c.args.stretches.now c.requires.fits known (w.is_still.ensures w.if-not-is_still.false)
      | else-lt-via-then-lt+else-has_resource w ↦ nowhere (λ i m. clash (has t.set r) m.among (sym w.has_resource.ensures ∙ w.if-has_resource.false))
      | else-lt-via-else-lt w ↦ (let e : lt_z t.origin.low.0 t.end.high.0 ≡ false = search rules in nowhere (λ i m. omega z))
    ]

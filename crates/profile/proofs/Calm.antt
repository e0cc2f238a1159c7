-- A day whose slack is as large as a task asks for: no rule touches the task there.
use mathlib.Core.Path.{◌≡◌, sym, ◌∙◌}
use mathlib.Core.Bool.{true, false}
use mathlib.Core.List.{List}
use Prim.Native.Nat.{ℕ}
use lib.IntN.{ℤ, pos, neg_ℤ, ◌-ℤ◌}
use lib.Signed.{◌≤ℤ◌, lt_z}
use Rattle.integers.specs.Lists.{In}
use Rattle.integers.proofs.Z.{z, -z, maxz}
use Rattle.integers.proofs.Tests.{by_cases, false_in, and_second}
use Rattle.plan.specs.declared.Task.{Task}
use Rattle.plan.specs.Tasks.{Bounded}
use Rattle.plan.proofs.Sets.{has_not_zero, only_has}
use Rattle.rules.specs.Frame.{Floor}
use Rattle.rules.specs.Step.{possible, sure, total, others, needed, barred}
use Rattle.rules.proofs.Live.{live_bounded}
use Rattle.rules.proofs.Counted.{sure_counts}
use Rattle.rules.proofs.TaskDay.{possible_is, sure_only, sure_possible, needed_possible}
use Rattle.stretches.specs.Asks.{bar_of, lift_of}
use Rattle.stretches.specs.Tells.{slack_on, tight_on, Quiet}
use Rattle.stretches.proofs.Asks.{barred_slack, barred_short, barred_possible, needed_tight, lifted_is}

module _ (r : ℕ) (limit : Floor) (ts : List Task) {t : Task} (b : Bounded t) (i : ℤ) where
  -- the day's slack is as large as the task's bar: it is not barred
  pub calm_unbarred : (possible r i t ≡ true → bar_of t ≤ℤ slack_on r limit ts i) → barred r limit ts t i ≡ false
  unfolding bar_of slack_on
  calm_unbarred calm =
      false_in (barred r limit ts t i) λ h.
      let p = barred_possible r limit ts t i h in
      let l = calm p in
      by_cases (sure r i t)
      (λ s.
      let d = barred_short r limit ts t i (live_bounded t b (has_not_zero t.set r (possible_is r i t p).among)) s h in
      omega (z, maxz (pos 0) (neg_ℤ t.height.high.0), -z (total r ts i) (limit.on i)))
      (λ s. let d = and_second (possible r i t) _ (sym (barred_slack r limit ts t i s) ∙ h) in omega z)

  -- where a day counts, the slack is as large as the task's lift: it is not needed, and its height is enough
  module _ (calm : possible r i t ≡ true → lift_of t ≤ℤ tight_on r limit ts i) where
    pub calm_unneeded : needed r limit ts t i ≡ false
    unfolding lift_of
    calm_unneeded =
        false_in (needed r limit ts t i) λ h.
        let l = calm (needed_possible r i t limit ts h) in
        let high = t.height.high.0 in
        let d = and_second (lt_z (pos 0) high) _ (and_second (possible r i t) _ (sym (needed_tight r limit ts t i b) ∙ h)) in
        omega (z, maxz high (high -ℤ t.height.low.0))

    pub calm_unlifted : In t ts → sure r i t ≡ true → (limit.on i -ℤ others r ts t i) ≤ℤ t.height.low.0
    unfolding tight_on lift_of
    calm_unlifted k s =
        let live = live_bounded t b (has_not_zero t.set r (only_has t.set r (sure_only r i t s))) in
        let high = t.height.high.0 in
        let low = t.height.low.0 in
        let l : lift_of t ≤ℤ slack_on r limit ts i = rw (sure_counts r limit ts i k s) at (calm (sure_possible r i t live s)) in
        rw (lifted_is r limit ts t i live s) (omega (z, maxz high (high -ℤ low), -z high low, -z high (slack_on r limit ts i)))

  -- no rule touches the task there
  pub calm_quiet : In t ts → (possible r i t ≡ true → (bar_of t ≤ℤ slack_on r limit ts i) × (lift_of t ≤ℤ tight_on r limit ts i)) → Quiet r limit ts t i
  calm_quiet k calm =
      record {
        unneeded = calm_unneeded (λ p. (calm p).1);
        unbarred = calm_unbarred (λ p. (calm p).0);
        unlifted = calm_unlifted (λ p. (calm p).1) k;
      }

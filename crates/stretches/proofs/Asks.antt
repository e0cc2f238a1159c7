-- When a rule touches a task on a day, read from the day's slack.
use mathlib.Core.Path.{◌≡◌, refl}
use mathlib.Core.Bool.{true, false, not}
use mathlib.Core.List.{List}
use Prim.Native.Nat.{ℕ}
use lib.IntN.{ℤ, pos, neg_ℤ, ◌+ℤ◌, ◌-ℤ◌}
use lib.Signed.{lt_z, ◌≤ℤ◌, ◌<ℤ◌}
use Rattle.integers.specs.Tests.{and, any}
use Rattle.integers.specs.Whole.{larger}
use Rattle.integers.specs.Lists.{In}
use Rattle.integers.proofs.Z.{z, +z, -z, ~z, maxz, lt_z_in, lt_z_out}
use Rattle.integers.proofs.Tests.{clash, by_cases, same_test, and_first, and_second, and_in, not_any, not_out, and_off, and_same}
use Rattle.plan.specs.declared.Task.{Task}
use Rattle.plan.specs.Tasks.{Bounded}
use Rattle.rules.specs.Frame.{Floor}
use Rattle.rules.specs.Step.{possible, sure, hope, total, others, counts, shortfall, needed, barred, listed_days}
use Rattle.rules.proofs.Days.{listed}
use Rattle.rules.proofs.Live.{Live}
use Rattle.rules.proofs.Counted.{sure_counts}
use Rattle.rules.proofs.TaskDay.{possible_is, sure_possible, hope_high, hope_none, hope_sure}
use Rattle.stretches.specs.Asks.{bar_of}
use Rattle.stretches.specs.Tells.{big, slack_on, tight_on}

same_order : (a b c d : ℤ) → (a <ℤ b → c <ℤ d) → (c <ℤ d → a <ℤ b) → lt_z a b ≡ lt_z c d
same_order a b c d f g = same_test (lt_z a b) (lt_z c d) (λ e. lt_z_in c d (f (omega z))) (λ e. lt_z_in a b (g (omega z)))

module _ (r : ℕ) (limit : Floor) (ts : List Task) (t : Task) (i : ℤ) where
  abbrev h : ℤ
  h = t.height.high.0

  -- ---- bars: where the task is not sure, too little slack
  pub barred_slack : sure r i t ≡ false → barred r limit ts t i ≡ and (possible r i t) (lt_z (slack_on r limit ts i) (bar_of t))
  unfolding barred slack_on others bar_of
  barred_slack n =
      let x = total r ts i in
      let p = hope r i t in
      let f₁ = +z (x -ℤ p) h in
      let f₂ = -z x p in
      let f₃ = -z x (limit.on i) in
      let f₄ = maxz (pos 0) (neg_ℤ h) in
      let f₅ = ~z h in
      and_same (possible r i t) (lt_z ((x -ℤ p) +ℤ h) (limit.on i)) (lt_z (x -ℤ limit.on i) (larger (pos 0) (neg_ℤ h))) λ q.
      by_cases (lt_z (pos 0) h)
      (λ e. let k = hope_high r i t e q in same_order ((x -ℤ p) +ℤ h) (limit.on i) (x -ℤ limit.on i) (larger (pos 0) (neg_ℤ h)) (λ l. omega z) (λ l. omega z))
      (λ e. let k = hope_none r i t e n in same_order ((x -ℤ p) +ℤ h) (limit.on i) (x -ℤ limit.on i) (larger (pos 0) (neg_ℤ h)) (λ l. omega z) (λ l. omega z))

  -- where it is sure, all hopes together are below the limit
  pub barred_short : Live t → sure r i t ≡ true → barred r limit ts t i ≡ true → total r ts i <ℤ limit.on i
  unfolding barred others
  barred_short l s b =
      let x = total r ts i in
      let p = hope r i t in
      let k = hope_sure r i t l s in
      let c : lt_z ((x -ℤ p) +ℤ h) (limit.on i) ≡ true = and_second (possible r i t) _ b in
      omega (z, +z (x -ℤ p) h, -z x p)

  pub barred_possible : barred r limit ts t i ≡ true → possible r i t ≡ true
  unfolding barred
  barred_possible b = and_first _ _ b

  -- ---- needs: where a task is sure, less slack than the highest height
  pub needed_tight : Bounded t → needed r limit ts t i ≡ and (possible r i t) (and (lt_z (pos 0) h) (lt_z (tight_on r limit ts i) h))
  unfolding needed tight_on slack_on others
  needed_tight b =
      let x = total r ts i in
      let p = hope r i t in
      by_cases (counts r limit ts i)
      (λ c.
      rw c
      (and_same (possible r i t) (and (lt_z (pos 0) h) (lt_z (x -ℤ p) (limit.on i))) (and (lt_z (pos 0) h) (lt_z (x -ℤ limit.on i) h)) λ q.
      and_same (lt_z (pos 0) h) (lt_z (x -ℤ p) (limit.on i)) (lt_z (x -ℤ limit.on i) h) λ e.
      let k = hope_high r i t e q in
      same_order (x -ℤ p) (limit.on i) (x -ℤ limit.on i) h (λ l. omega (z, -z x p, -z x (limit.on i))) (λ l. omega (z, -z x p, -z x (limit.on i)))))
      (λ c. rw (c, lt_z_out big h (omega (z, b.height))) (simp and_off refl))

  -- ---- heights: on a sure day the height rule asks for the highest height less the slack
  pub lifted_is : Live t → sure r i t ≡ true → limit.on i -ℤ others r ts t i ≡ h -ℤ slack_on r limit ts i
  unfolding slack_on others
  lifted_is l s =
      let x = total r ts i in
      let p = hope r i t in
      let k = hope_sure r i t l s in
      omega (z, -z x p, -z x (limit.on i), -z (limit.on i) (x -ℤ p), -z h (x -ℤ limit.on i))

-- ---- no shortfall: on each of its sure days the hopes reach the limit
pub no_short : (r : ℕ) (limit : Floor) (ts : List Task) (t : Task) → Live t → In t ts → any (shortfall r limit ts) (listed_days ts) ≡ false
    → (i : ℤ) → sure r i t ≡ true → limit.on i ≤ℤ total r ts i
unfolding shortfall
no_short r limit ts t l k h i s =
    let g = possible_is r i t (sure_possible r i t l s) in
    let n = listed r (λ j. not (shortfall r limit ts j)) t ts k (not_any (shortfall r limit ts) (listed_days ts) h) i g.late g.early in
    by_cases (lt_z (total r ts i) (limit.on i))
    (λ e. clash (shortfall r limit ts i) (and_in _ _ (sure_counts r limit ts i k s) e) (not_out (shortfall r limit ts i) n))
    (λ e. omega z)

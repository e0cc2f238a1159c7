-- Heights: where the task is only here, they run from the highest height less the least slack on its sure days; else they stay.
use mathlib.Core.Path.{◌≡◌, sym, ap, ap₂, ◌∙◌}
use mathlib.Core.Bool.{Bool, true, false}
use mathlib.Core.List.{List}
use Prim.Native.Nat.{ℕ}
use lib.IntN.{ℤ, pos, ◌-ℤ◌}
use lib.Signed.{le_z, lt_z, ◌≤ℤ◌}
use Rattle.integers.specs.Tests.{implies, any}
use Rattle.integers.specs.Whole.{larger}
use Rattle.integers.specs.Hull.{range, left}
use Rattle.integers.specs.Hull.Left.{Some}
use Rattle.integers.proofs.Z.{z, -z, maxz, le_z_in}
use Rattle.integers.proofs.Tests.{clash, by_cases, implies_in, implies_out, all_in}
use Rattle.integers.proofs.Hull.{left_is}
use Rattle.integers.proofs.Lists.{Place, any_place}
use Rattle.plan.specs.declared.Task.{Task}
use Rattle.plan.specs.declared.Power.{Power}
use Rattle.plan.specs.declared.Span.{Span}
use Rattle.plan.specs.Powers.{powers_of}
use Rattle.plan.specs.Sets.{only}
use Rattle.rules.specs.Frame.{Floor}
use Rattle.rules.specs.Step.{possible, running, sure, total, others, keeps_height, listed_days}
use Rattle.rules.proofs.Days.{every_day}
use Rattle.rules.proofs.Live.{Live}
use Rattle.rules.proofs.Untouched.{left_all}
use Rattle.rules.proofs.TaskDay.{sure_only, sure_running, sure_in, sure_possible}
use Rattle.stretches.specs.declared.Stretch.{Stretch}
use Rattle.stretches.specs.View.{no_stretch, on_day}
use Rattle.stretches.specs.Tells.{slack_on}
use Rattle.stretches.proofs.Asks.{lifted_is, no_short}
use Rattle.searches.specs.Searches.{holds, Slack, Least}
use Rattle.searches.proofs.Parts.{lt_cases}
use Rattle.narrow.specs.Ready.{Known, running_days, Lifted}

-- ---- a day of the stretches on which the task is running, and its slack
module _ (r : ℕ) (limit : Floor) (ts : List Task) (t : Task) (ss : List Stretch) (known : Known r limit ts t ss) where
  pub record RunningDay (x : ℤ) : Type 0 where
    pub day : ℤ
    pub running : running r day t ≡ true
    pub slack : x ≡ slack_on r limit ts day

  pub slack_day : (x : ℤ) → Slack ss (running_days t) x → RunningDay x
  unfolding holds running
  slack_day x s = record { day = s.day; running = s.among; slack = sym s.is ∙ (known.tells.exact s.at s.inside).slack s.day s.on }

  pub day_slack : (i : ℤ) → running r i t ≡ true → Place (on_day i) no_stretch ss → Slack ss (running_days t) (slack_on r limit ts i)
  unfolding holds running
  day_slack i h p =
      record { at = p.at; inside = p.inside; day = i; among = h; on = p.holds; is = (known.tells.exact p.at p.inside).slack i p.holds }

module _ (r : ℕ) (limit : Floor) (ts : List Task) (t : Task) (ss : List Stretch) (known : Known r limit ts t ss) (live : Live t) where
  abbrev top : ℤ
  top = t.height.high.0

  abbrev low : ℤ
  low = t.height.low.0

  abbrev keeps : ℤ → Bool
  keeps = keeps_height r limit ts (listed_days ts) t

  -- what a sure day asks for
  abbrev asked : ℤ → ℤ
  asked i = limit.on i -ℤ others r ts t i

  height_kept : (v : ℤ) → ((i : ℤ) → sure r i t ≡ true → asked i ≤ℤ v) → keeps v ≡ true
  unfolding keeps_height
  height_kept v f = all_in _ (listed_days ts) (λ i. implies_in (sure r i t) _ (λ e. le_z_in (asked i) v (f i e)))

  height_is : (v : ℤ) → keeps v ≡ true → (i : ℤ) → sure r i t ≡ true → asked i ≤ℤ v
  unfolding keeps_height
  height_is v h i s =
      let off : (j : ℤ) → possible r j t ≡ false → implies (sure r j t) (le_z (asked j) v) ≡ true =
      λ j e. implies_in (sure r j t) _ (λ b. clash (possible r j t) (sure_possible r j t live b) e) in
      let g = every_day r (λ j. implies (sure r j t) (le_z (asked j) v)) t ts known.among off h i in
      let m : le_z (asked i) v ≡ true = implies_out (sure r i t) _ g s in
      omega z

  -- ---- it stays where the task may stand elsewhere
  pub height_same : only t.set r ≡ false → left keeps (powers_of t.height) ≡ Some (powers_of t.height)
  height_same n =
      let f : (v : ℤ) → keeps v ≡ true = λ v. height_kept v (λ i s. clash (only t.set r) (sure_only r i t s) n) in
      left_all keeps (powers_of t.height) live.height (f low) (f top)

  -- on a sure day the hopes reach the limit with the highest height
  top_kept : (v : ℤ) → top ≤ℤ v → keeps v ≡ true
  unfolding slack_on
  top_kept v l =
      height_kept v
      (λ i s.
      let e = lifted_is r limit ts t i live s in
      let g = no_short r limit ts t live known.among known.enough i s in
      let y = total r ts i -ℤ limit.on i in
      omega (z, -z (total r ts i) (limit.on i), -z top y))

  -- so a height of one value stays
  pub height_flat : top ≤ℤ low → left keeps (powers_of t.height) ≡ Some (powers_of t.height)
  height_flat flat = left_all keeps (powers_of t.height) live.height (top_kept low flat) (top_kept top (omega z))

  -- ---- and any other is lifted where the task is only here
  module _ (alone : only t.set r ≡ true) (x : ℤ) (l : Least ss (running_days t) (top -ℤ low) x) where
    -- no slack on a sure day is below 0
    least_full : pos 0 ≤ℤ x
    unfolding slack_on
    least_full =
        lt_cases x (top -ℤ low)
        (λ e.
        let d = slack_day r limit ts t ss known x (l.met e) in
        let i = d.day in
        let g = no_short r limit ts t live known.among known.enough i (sure_in r i t alone d.running) in
        let s : x ≡ total r ts i -ℤ limit.on i = d.slack in
        omega (z, -z (total r ts i) (limit.on i)))
        (λ e. omega (z, -z top low, live.height))

    lifts : (v : ℤ) → low ≤ℤ v → (top -ℤ x) ≤ℤ v → keeps v ≡ true
    lifts v a b =
        height_kept v
        (λ i s.
        by_cases (any (on_day i) ss)
        (λ h.
        let p = l.under (slack_on r limit ts i) (day_slack r limit ts t ss known i (sure_running r i t s) (any_place (on_day i) no_stretch ss h)) in
        let e = lifted_is r limit ts t i live s in
        omega (z, -z top x, -z top (slack_on r limit ts i)))
        (λ h. let e = (known.tells.quiet i h).unlifted s in omega z))

    lifted_low : (v : ℤ) → low ≤ℤ v → keeps v ≡ true → (top -ℤ x) ≤ℤ v
    lifted_low v a h =
        lt_cases x (top -ℤ low)
        (λ e.
        let d = slack_day r limit ts t ss known x (l.met e) in
        let i = d.day in
        let s = sure_in r i t alone d.running in
        let g = height_is v h i s in
        let f = lifted_is r limit ts t i live s in
        let y = d.slack in
        omega (z, -z top x, -z top (slack_on r limit ts i)))
        (λ e. omega (z, l.most, -z top x, -z top low))

    height_lifted : left keeps (powers_of t.height) ≡ Some (range (top -ℤ x) top)
    height_lifted =
        let a = live.height in
        let b = l.most in
        let c = least_full in
        let d : low ≤ℤ (top -ℤ x) = omega (z, -z top x, -z top low) in
        let e : (top -ℤ x) ≤ℤ top = omega (z, -z top x) in
        left_is keeps (powers_of t.height) (top -ℤ x) top (omega z) (omega z) (lifts (top -ℤ x) d (omega z)) (lifts top a e)
        (λ u w g. (lifted_low u w.least g, w.most))

  -- ---- THE PAGE'S HEIGHT
  pub height_left : only t.set r ≡ true → (h : Span Power) → Lifted t ss h → left keeps (powers_of t.height) ≡ Some (powers_of h)
  height_left alone h l =
      let g : top ≡ h.high.0 = ap (λ (p : Power). p.0) (sym l.high) in
      by_cases (lt_z low top)
      (λ e.
      let p = l.raised e in
      let x = p.slack in
      let a = least_full alone x p.least in
      let i = p.is in
      let f : top -ℤ x ≡ h.low.0 = omega (z, -z top x, -z top (larger x (pos 0)), maxz x (pos 0)) in
      height_lifted alone x p.least ∙ ap₂ (λ (u v : ℤ). Some (range u v)) f g)
      (λ e.
      let f : low ≡ h.low.0 = ap (λ (p : Power). p.0) (sym (l.same e)) in
      height_flat (omega z) ∙ ap₂ (λ (u v : ℤ). Some (range u v)) f g)

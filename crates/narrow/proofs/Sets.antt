-- Sets: a needed task gets the resource as its only one; a bar on a day on which it is running takes the resource away.
use mathlib.Core.Path.{◌≡◌, refl, sym}
use mathlib.Core.Bool.{Bool, true, false, not}
use mathlib.Core.List.{List}
use Prim.Native.Nat.{ℕ, ◌^◌}
use lib.IntN.{ℤ}
use lib.Signed.{lt_z}
use Rattle.integers.specs.Tests.{if, and, any}
use Rattle.integers.proofs.Z.{z, lt_z_in}
use Rattle.integers.proofs.Tests.{clash, by_cases, if-case, false_in, and_first, and_second, and_in, any_none, not_any, not_out}
use Rattle.integers.proofs.Lists.{any_place}
use Rattle.plan.specs.declared.Task.{Task}
use Rattle.plan.specs.Tasks.{Bounded}
use Rattle.plan.specs.Sets.{has, only, without}
use Rattle.plan.proofs.Sets.{only_is}
use Rattle.rules.specs.Frame.{Floor}
use Rattle.rules.specs.Step.{possible, running, sure, needed, barred, needed_set, kept_set, listed_days}
use Rattle.rules.proofs.Days.{listed}
use Rattle.rules.proofs.TaskDay.{possible_is, running_possible, sure_only, sure_in, needed_possible}
use Rattle.stretches.specs.declared.Stretch.{Stretch}
use Rattle.stretches.specs.View.{no_stretch, on_day}
use Rattle.stretches.specs.Asks.{bar_of}
use Rattle.stretches.specs.Tells.{slack_on}
use Rattle.stretches.proofs.Asks.{barred_slack}
use Rattle.searches.specs.declared.Days.{Days}
use Rattle.searches.specs.Searches.{Least, Needed}
use Rattle.narrow.specs.Ready.{Known, possible_days, running_days, with_needs}
use Rattle.narrow.proofs.ToldDays.{here_live, unsure}
use Rattle.narrow.proofs.Heights.{slack_day, day_slack}

module _ (r : ℕ) (limit : Floor) (ts : List Task) (t : Task) (ss : List Stretch) (b : Bounded t) (known : Known r limit ts t ss) where
  -- a possible day that passes a test is among those listed
  listed_any : (p : ℤ → Bool) (i : ℤ) → possible r i t ≡ true → p i ≡ true → any p (listed_days ts) ≡ true
  listed_any p i h e =
      let g = possible_is r i t h in
      by_cases (any p (listed_days ts)) (λ a. a)
      (λ a. clash (p i) e (not_out (p i) (listed r (λ j. not (p j)) t ts known.among (not_any p (listed_days ts) a) i g.late g.early)))

  -- ---- needs: "it gets r as its only resource"
  pub set_needed : (s : Days) → Needed (needed r limit ts t) (possible_days t) s → needed_set r limit ts (listed_days ts) t ≡ (with_needs r s t).set
  unfolding needed_set with_needs
  set_needed s h =
      by_cases (lt_z s.from.0 t.end.high.0)
      (λ e.
      let f = h.first (omega z) in
      rw (e, listed_any (needed r limit ts t) s.from.0 (needed_possible r s.from.0 t limit ts f) f))
      (λ e.
      rw (
        e,
        any_none (needed r limit ts t) (listed_days ts)
            (λ i f.
            let a = h.between i f in
            let b = possible_is r i t (needed_possible r i t limit ts f) in
            omega z),
      ))

  -- which a task that is only here has already
  pub set_alone : only t.set r ≡ true → needed_set r limit ts (listed_days ts) t ≡ t.set
  unfolding needed_set
  set_alone alone =
      if-case (λ (n : ℕ). n ≡ t.set) (any (needed r limit ts t) (listed_days ts)) (2 ^ r) t.set (λ e. sym (only_is t.set r alone)) (λ e. refl)

  -- ---- bars
  -- r leaves the set if a day on which it is running is barred to it
  pub set_kept : only t.set r ≡ false → has t.set r ≡ true → (x : ℤ) → Least ss (running_days t) (bar_of t) x
      → let s = needed_set r limit ts (listed_days ts) t in kept_set r limit ts (listed_days ts) t ≡ if (lt_z x (bar_of t)) (without s r) s
  unfolding kept_set
  set_kept n m x l =
      let p : ℤ → Bool = λ i. and (barred r limit ts t i) (running r i t) in
      let off : (i : ℤ) → sure r i t ≡ false = λ i. false_in (sure r i t) (λ s. clash (only t.set r) (sure_only r i t s) n) in
      by_cases (lt_z x (bar_of t))
      (λ e.
      let d = slack_day r limit ts t ss known x (l.met (omega z)) in
      let i = d.day in
      let g = running_possible r i t (here_live r limit ts t ss b known m) m d.running in
      let y = d.slack in
      let c : barred r limit ts t i ≡ true = rw (barred_slack r limit ts t i (off i)) (and_in _ _ g (lt_z_in (slack_on r limit ts i) (bar_of t) (omega z))) in
      rw (e, listed_any p i g (and_in _ _ c d.running)))
      (λ e.
      rw (
        e,
        any_none p (listed_days ts)
            (λ i f.
            let a = and_first _ _ f in
            let o : any (on_day i) ss ≡ true = by_cases (any (on_day i) ss) (λ n. n) (λ n. clash (barred r limit ts t i) a (known.tells.quiet i n).unbarred) in
            let c = l.under (slack_on r limit ts i) (day_slack r limit ts t ss known i (and_second (barred r limit ts t i) _ f) (any_place (on_day i) no_stretch ss o)) in
            let d : lt_z (slack_on r limit ts i) (bar_of t) ≡ true = and_second (possible r i t) _ (rw (barred_slack r limit ts t i (off i)) at a) in
            omega z),
      ))

  -- a task that is only here keeps r: a barred day is none of its sure days
  pub set_same : only t.set r ≡ true → kept_set r limit ts (listed_days ts) t ≡ needed_set r limit ts (listed_days ts) t
  unfolding kept_set
  set_same alone =
      rw (
      any_none (λ i. and (barred r limit ts t i) (running r i t)) (listed_days ts)
      (λ i f.
      clash (sure r i t) (sure_in r i t alone (and_second (barred r limit ts t i) _ f))
      (unsure r limit ts t ss b known alone i (and_first _ _ f)))
      )

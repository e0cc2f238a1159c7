-- From what a profile tells of a task: the days on which it is needed and those barred to it are parts of the stretches.
use mathlib.Core.Path.{◌≡◌, refl, sym, ◌∙◌}
use mathlib.Core.Bool.{Bool, true, false, not}
use mathlib.Core.List.{List}
use Prim.Native.Nat.{ℕ, ◌<◌}
use lib.ListN.{length, get_or}
use lib.IntN.{ℤ, pos}
use lib.Signed.{lt_z}
use Rattle.integers.specs.Tests.{and, any}
use Rattle.integers.proofs.Z.{z}
use Rattle.integers.proofs.Tests.{clash, by_cases, false_in, same_test, and_first, and_second, and_in, and_off, and_on, and_same}
use Rattle.integers.proofs.Lists.{any_place, in_at, in_any}
use Rattle.plan.specs.declared.Task.{Task}
use Rattle.plan.specs.Sets.{has, only}
use Rattle.plan.specs.Tasks.{Bounded}
use Rattle.plan.proofs.Sets.{only_has, has_not_zero}
use Rattle.rules.specs.Frame.{Floor}
use Rattle.rules.specs.Step.{possible, running, sure, needed, barred, shut}
use Rattle.rules.proofs.Live.{Live, live_bounded}
use Rattle.stretches.specs.declared.Stretch.{Stretch}
use Rattle.stretches.specs.View.{no_stretch, on_day}
use Rattle.stretches.specs.Asks.{bar_of}
use Rattle.stretches.specs.Tells.{Tells}
use Rattle.stretches.proofs.Asks.{barred_slack, barred_short, needed_tight, no_short}
use Rattle.searches.specs.Searches.{holds, barred_part, needed_part, on_part, hit_days, Told}
use Rattle.searches.proofs.Parts.{part_on}
use Rattle.narrow.specs.Ready.{Known, possible_days, running_days, reach_of, NeedsTold, Free}

-- what each stretch says of its own days, and what fails on any other day, holds where some stretch says so
told_by : (ss : List Stretch) (i : ℤ) (p : Stretch → Bool) (b : Bool) → ((k : ℕ) → k < length ss → p (get_or ss k no_stretch) ≡ and (on_day i (get_or ss k no_stretch)) b)
    → (any (on_day i) ss ≡ false → b ≡ false) → b ≡ any p ss
told_by ss i p b each off =
    same_test b (any p ss)
    (λ e.
    by_cases (any (on_day i) ss)
    (λ h.
    let f = any_place (on_day i) no_stretch ss h in
    in_any p (in_at no_stretch f.at ss f.inside) (each f.at f.inside ∙ and_in _ _ f.holds e))
    (λ h. clash b e (off h)))
    (λ e.
    let f = any_place p no_stretch ss e in
    and_second (on_day i (get_or ss f.at no_stretch)) b (sym (each f.at f.inside) ∙ f.holds))

-- ---- THE PAGE'S DAYS
module _ (r : ℕ) (limit : Floor) (ts : List Task) (t : Task) (ss : List Stretch) (b : Bounded t) (known : Known r limit ts t ss) where
  abbrev tells : Tells r limit ts t ss
  tells = known.tells

  -- it may stand here
  pub here_live : has t.set r ≡ true → Live t
  here_live h = live_bounded t b (has_not_zero t.set r h)

  -- ---- needs
  pub needs_told : has t.set r ≡ true → NeedsTold t ss (needed r limit ts t)
  unfolding possible holds hit_days
  needs_told h i =
      let w = possible_days t in
      let high = t.height.high in
      by_cases (lt_z (pos 0) high.0)
      (λ g.
      rw g
      (told_by ss i (λ s. on_part i (needed_part w high s)) (needed r limit ts t i)
      (λ k l.
      let s = get_or ss k no_stretch in
      part_on w s (lt_z s.tight.0 high.0) i
      ∙ and_same (on_day i s) (and (holds w i) (lt_z s.tight.0 high.0)) (needed r limit ts t i)
      (λ o. rw ((tells.exact k l).tight i o) (sym (needed_tight r limit ts t i b ∙ rw (h, g) refl))))
      (λ o. (tells.quiet i o).unneeded)))
      (λ g. rw g (needed_tight r limit ts t i b ∙ rw g (and_off (possible r i t))))

  -- ---- bars, where the task is only here
  module _ (alone : only t.set r ≡ true) where
    -- a barred day is none of its sure days
    pub unsure : (i : ℤ) → barred r limit ts t i ≡ true → sure r i t ≡ false
    unsure i e =
        false_in (sure r i t)
        (λ s.
        let live = here_live (only_has t.set r alone) in
        let a = no_short r limit ts t live known.among known.enough i s in
        let c = barred_short r limit ts t i live s e in
        omega z)

    -- the first day of a stretch tells whether the task is sure on its other days
    from_sure : (j : ℕ) → j < length ss → (i : ℤ) → on_day i (get_or ss j no_stretch) ≡ true → holds (running_days t) (get_or ss j no_stretch).from.0 ≡ sure r i t
    unfolding holds running sure
    from_sure j l i o = sym ((tells.uncut j l).same alone i o) ∙ rw alone refl

    pub bars_told : Told (barred_part (reach_of t)) ss (shut r limit ts t)
    unfolding shut possible holds hit_days
    bars_told i =
        let w = possible_days t in
        let bar = barred r limit ts t i in
        rw alone
        (told_by ss i (λ s. on_part i (barred_part (reach_of t) s)) bar
        (λ j l.
        let s = get_or ss j no_stretch in
        let low = lt_z s.slack.0 (bar_of t) in
        let on = holds (running_days t) s.from.0 in
        part_on w s (and low (not on)) i
        ∙ and_same (on_day i s) (and (holds w i) (and low (not on))) bar
        (λ o.
        rw ((tells.exact j l).slack i o, from_sure j l i o)
        (by_cases (sure r i t)
        (λ e. rw e (simp and_off (sym (false_in bar (λ f. clash (sure r i t) e (unsure i f))))))
        (λ e. rw e (simp and_on (sym (barred_slack r limit ts t i e ∙ rw (only_has t.set r alone) refl)))))))
        (λ o. (tells.quiet i o).unbarred))

-- ---- a task that has as much as it asks on every possible day has no barred one
pub free_told : (t : Task) (ss : List Stretch) (q : ℤ → Bool) → Told (barred_part (reach_of t)) ss q → Free t ss → (i : ℤ) → q i ≡ true → ⊥
unfolding hit_days
free_told t ss q told free i e =
    let f = any_place (λ s. on_part i (barred_part (reach_of t) s)) no_stretch ss (sym (told i) ∙ e) in
    let s = get_or ss f.at no_stretch in
    let low = lt_z s.slack.0 (bar_of t) in
    let off = not (holds (running_days t) s.from.0) in
    let h = sym (part_on (possible_days t) s (and low off) i) ∙ f.holds in
    let k = and_second (on_day i s) _ h in
    let l : low ≡ true = and_first low off (and_second (holds (possible_days t) i) _ k) in
    let b = free s.slack.0 (record { at = f.at; inside = f.inside; day = i; among = and_first _ _ k; on = and_first _ _ h; is = refl }) in
    omega z

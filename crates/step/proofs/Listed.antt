-- A task of the list: what narrowing it gives is what the page gives, and one that no stretch can touch stays.
use Rattle.std.specs.Prelude.{Some, None, Result, Ok, Err}
use Rattle.std.specs.Result.{result_ok}
use Rattle.plan.specs.Refusals.{Narrowed}
use mathlib.Core.Path.{◌≡◌, refl, sym, ◌∙◌}
use mathlib.Core.Bool.{true, false}
use mathlib.Core.List.{List, [], ◌∷◌}
use Prim.Native.Nat.{ℕ}
use lib.Dec.{eqb}
use lib.ListN.{take}
use lib.IntN.{ℤ}
use lib.Signed.{◌≤ℤ◌, lt_z}
use Rattle.integers.specs.Tests.{and, any}
use Rattle.integers.specs.Lists.{Each, In}
use Rattle.integers.specs.Lists.In.{head, tail}
use Rattle.integers.proofs.Z.{z}
use Rattle.integers.proofs.Tests.{clash, by_cases, false_in, and_in, or_none}
use Rattle.integers.proofs.Lists.{any_place, each_in}
use Rattle.plan.specs.declared.Task.{Task}
use Rattle.plan.specs.Sets.{has}
use Rattle.plan.specs.Tasks.{TaskFits}
use Rattle.rules.specs.Frame.{Floor}
use Rattle.rules.specs.Balance.{Outcome, each}
use Rattle.rules.specs.Balance.Outcome.{NoPlan, Plan}
use Rattle.rules.specs.Step.{shortfall, narrowed, listed_days, at_least_step}
use Rattle.rules.proofs.Live.{live_fits}
use Rattle.rules.proofs.Untouched.{Untouched, untouched_unbarred, narrowed_untouched, narrowed_away}
use Rattle.stretches.specs.declared.Stretch.{Stretch}
use Rattle.stretches.specs.View.{no_stretch, on_day}
use Rattle.stretches.specs.Asks.{bar_of, lift_of}
use Rattle.stretches.specs.Tells.{slack_on, tight_on, Tells}
use Rattle.stretches.specs.Tells as tells
use Rattle.profile.specs.declared.Shortfall.{Shortfall}
use Rattle.profile.specs.Promise.{Answered}
use Rattle.profile.proofs.Calm.{calm_unneeded, calm_unbarred, calm_unlifted}
use Rattle.narrow.specs.Ready.{ByPage}
use Rattle.step.specs.declared.Least.{Least}
use Rattle.step.specs.Told.{TellsAll}
use Rattle.idle.specs.Lively.{lively}
use Rattle.step.specs.Least.{Under, can_be_barred, asks_more}
use Rattle.idle.proofs.Lively.{dull_untouched}

module _ (r : ℕ) (limit : Floor) (ss : List Stretch) (ts : List Task) (fit : Each (TaskFits 64) ts) {t : Task} (k : In t ts) where
  fits : TaskFits 64 t
  fits = each_in fit k

  -- what narrow gives of it
  pub by_page : TellsAll r limit ts ss → (out : Narrowed) → (eqb t.set 0 ≡ false → ByPage r t ss out) → narrowed r limit ts (listed_days ts) t ≡ out
  by_page told out p =
      sym (p (live_fits 64 t fits).set limit ts (record { tells = told.tells k; among = k; enough = told.enough }))

  -- a day that no stretch has is quiet
  told_quiet : (i : ℤ) → tells.Quiet r limit ts t i → Untouched r limit ts t i
  told_quiet i q = untouched_unbarred r limit ts t i q.unneeded q.unbarred q.unlifted

  -- and so is one whose stretch leaves as much as the task asks; one that is not lively asks only that it is not needed
  module _ (told : TellsAll r limit ts ss) (l : Least) (under : Under l ss) where
    slacks : (i : ℤ) → any (on_day i) ss ≡ true → (l.slack.0 ≤ℤ slack_on r limit ts i) × (l.tight.0 ≤ℤ tight_on r limit ts i)
    slacks i e =
        let p = any_place (on_day i) no_stretch ss e in
        let x = (told.tells k).exact p.at p.inside in
        let u = under p.at p.inside in
        (rw (x.slack i p.holds) at u.0, rw (x.tight i p.holds) at u.1)

    quiet_on : lift_of t ≤ℤ l.tight.0 → (lively t ≡ true → bar_of t ≤ℤ l.slack.0) → (i : ℤ) → Untouched r limit ts t i
    quiet_on lift bar i =
        by_cases (any (on_day i) ss)
        (λ e.
        let b = fits.ranges in
        let s = slacks i e in
        let calm : lift_of t ≤ℤ tight_on r limit ts i = omega (z, lift, s.1) in
        let need = calm_unneeded r limit ts b i (λ p. calm) in
        by_cases (lively t)
        (λ v. untouched_unbarred r limit ts t i need (calm_unbarred r limit ts b i (λ p. omega (z, bar v, s.0))) (calm_unlifted r limit ts b i (λ p. calm) k))
        (λ v. dull_untouched t v r limit ts i need))
        (λ e. told_quiet i ((told.tells k).quiet i e))

    pub calm_kept : asks_more r t l ≡ false → narrowed r limit ts (listed_days ts) t ≡ Ok t
    unfolding asks_more can_be_barred
    calm_kept e =
        let live = live_fits 64 t fits in
        by_cases (has t.set r)
        (λ h.
        let low = lt_z l.slack.0 (bar_of t) in
        let n = or_none (and low (lively t)) (lt_z l.tight.0 (lift_of t)) (rw h at e) in
        let bar : lively t ≡ true → low ≡ false = λ v. false_in low (λ w. clash (and low (lively t)) (and_in low (lively t) w v) n.0) in
        narrowed_untouched r limit ts (listed_days ts) t (quiet_on (omega (z, n.1)) (λ v. omega (z, bar v))) live)
        (λ h. narrowed_away r t h limit ts (listed_days ts) live)

-- where every task stays, so does the list
each_kept : (f : Task → Narrowed) (ts : List Task) → ((t : Task) → In t ts → f t ≡ Ok t) → each f ts ≡ Plan ts
unfolding each
each_kept f [] h = refl
each_kept f (t ∷ ts) h = rw (h t head, each_kept f ts (λ u k. h u (tail k)))

-- no stretch is left: no rule touches any task
none_left : (r : ℕ) (limit : Floor) (ts : List Task) → Each (TaskFits 64) ts → ((t : Task) → In t ts → Tells r limit ts t [])
    → each (narrowed r limit ts (listed_days ts)) ts ≡ Plan ts
unfolding any
none_left r limit ts fit tells =
    each_kept (narrowed r limit ts (listed_days ts)) ts λ t k.
    narrowed_untouched r limit ts (listed_days ts) t (λ i. told_quiet r limit [] ts fit k i ((tells t k).quiet i refl)) (live_fits 64 t (each_in fit k))

-- with no day short, the step takes each task by itself
pub step_enough : (r : ℕ) (limit : Floor) (ts : List Task) → any (shortfall r limit ts) (listed_days ts) ≡ false
    → at_least_step r limit ts ≡ each (narrowed r limit ts (listed_days ts)) ts
unfolding at_least_step
step_enough r limit ts e = rw e

pub step_short : (r : ℕ) (limit : Floor) (ts : List Task) → any (shortfall r limit ts) (listed_days ts) ≡ true → at_least_step r limit ts ≡ NoPlan
unfolding at_least_step
step_short r limit ts e = rw e

-- ---- what the profile answered
module _ (r : ℕ) (limit : Floor) (ts : List Task) (ss : List Stretch) where
  -- a shortfall is no plan
  pub answered_short : (o : Result ℕ Shortfall) → Answered r limit ts ss o → None ≡ result_ok o → NoPlan ≡ at_least_step r limit ts
  answered_short (Ok n) a e = absurd (cc)
  answered_short (Err s) a e = sym (step_short r limit ts (sym a.1.short_is))

  -- else they are so many
  pub answered_ok : (o : Result ℕ Shortfall) → Answered r limit ts ss o → (n : ℕ) → Some n ≡ result_ok o → Answered r limit ts ss (Ok n)
  answered_ok (Ok m) a n e = let same : m ≡ n = cc in rw same at a
  answered_ok (Err s) a n e = absurd (cc)

  module _ (n : ℕ) (a : Answered r limit ts ss (Ok n)) where
    pub answered_tells : TellsAll r limit ts (take n ss)
    answered_tells = record { tells = a.1.tells; enough = sym a.1.short_is }

    pub answered_each : (o : Outcome) → o ≡ each (narrowed r limit ts (listed_days ts)) ts → o ≡ at_least_step r limit ts
    answered_each o e = e ∙ sym (step_enough r limit ts (sym a.1.short_is))

  -- no stretch is left: no rule touches any task
  pub answered_calm : Each (TaskFits 64) ts → Answered r limit ts ss (Ok 0) → Plan ts ≡ at_least_step r limit ts
  answered_calm fit a = answered_each 0 a (Plan ts) (sym (none_left r limit ts fit (λ t k. a.1.tells k)))

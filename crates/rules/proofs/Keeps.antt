-- Every step, and any sequence of steps, keeps the allowed plans of an accepted plan: the very same list, in the same order, inside
-- an accepted plan whose ranges lie in the old ones; and with no plan there was none.
use Rattle.plan.specs.Refusals.{accepted}
use mathlib.Core.Path.{◌≡◌, refl, sym, ◌∙◌, subst}
use Prim.Native.Nat.{ℕ, ◌<◌}
use native.Mathlib.Omega.{arith}
use mathlib.Core.List.{List, [], ◌∷◌}
use mathlib.Core.Bool.{true}
use Rattle.integers.proofs.Z.{z}
use borrow.Author.Tests.{ltb-true}
use Rattle.integers.proofs.Tests.{if-case, false_in, same_test, and_first, and_second, and_in}
use Rattle.plan.specs.declared.Task.{Task}
use Rattle.rules.specs.Frame.{Frame, resource_count, is_place}
use Rattle.rules.specs.Allowed.{Choice, inside, inside_all, allowed}
use Rattle.rules.specs.Balance.{Outcome, balance}
use Rattle.rules.specs.Balance.Outcome.{NoPlan, Plan}
use Rattle.rules.specs.Step.{resource_step}
use Rattle.rules.specs.Settle.{then}
use Rattle.rules.specs.Moves.{Move, move, play}
use Rattle.rules.specs.Moves.Move.{Balance, StepOf}
use Rattle.rules.specs.Calls.{check}
use Rattle.rules.proofs.Inside.{Inside, Fit, inside_is, inside_in, fit_is, fit_in}
use Rattle.rules.proofs.Limits.{allowed_joined, allowed_holds}
use Rattle.rules.proofs.Stays.{PlanStays}
use Rattle.rules.proofs.BalanceSound.{balance_stays}
use Rattle.rules.proofs.AtMostSound.{resource_step_stays}
use Rattle.rules.proofs.Subs.{subs_self, subs_trans}
use Rattle.rules.specs.Keeps.{SubTask, Subs, Keeps, HoldsNone}
use Rattle.rules.specs.Keeps.Subs.{no_subs, more_subs}
use Rattle.rules.proofs.Shrinks.{Shrunk, balance_shrunk, resource_step_shrunk}
use Rattle.rules.proofs.Checks.{check_live, check_kept}
use Rattle.rules.proofs.Listings.{plans_kept, plans_none}

-- ---- what lies inside the narrower list lies inside the wider one
wider : (u t : Task) (c : Choice) → SubTask u t → Inside u c → Inside t c
wider u t c h i =
    record {
      set = h.set c.resource i.set;
      origin = omega (z, h.origin, i.origin);
      duration = omega (z, h.duration, i.duration);
      end = omega (z, h.end, i.end);
      height = omega (z, h.height, i.height);
    }

inside_wider : {us ts : List Task} → Subs us ts → (cs : List Choice) → inside_all us cs ≡ true → inside_all ts cs ≡ true
unfolding inside_all
inside_wider no_subs [] h = refl
inside_wider no_subs (c ∷ cs) h = h
inside_wider (more_subs s f) [] h = h
inside_wider (more_subs {u} {t} {us} {ts} s f) (c ∷ cs) h =
    and_in (inside t c) (inside_all ts cs) (inside_in t c (wider u t c s (inside_is u c (and_first (inside u c) (inside_all us cs) h))))
    (inside_wider f cs (and_second (inside u c) (inside_all us cs) h))

-- ---- what a step, or some in a row, may answer on ts
abbrev pub Sound : Frame → List Task → Outcome → Type 0
Sound f ts NoPlan = HoldsNone f ts
Sound f ts (Plan us) = Keeps f ts us

pub keeps_then : {f : Frame} {ts us vs : List Task} → Keeps f ts us → Keeps f us vs → Keeps f ts vs
keeps_then h g =
    record {
      choices = λ cs ok. g.choices cs ok ∙ h.choices cs ok;
      same = g.same ∙ h.same;
      accepted = g.accepted;
      inside = subs_trans g.inside h.inside;
    }

pub nothing_then : {f : Frame} {ts us : List Task} → Keeps f ts us → HoldsNone f us → HoldsNone f ts
nothing_then h g = record { choices = λ cs ok. sym (h.choices cs ok) ∙ g.choices cs ok; none = sym h.same ∙ g.none }

module _ (f : Frame) where
  -- a step that shrinks and loses no allowed choice is sound
  sound_by : (ts : List Task) → check f ts ≡ accepted → (o : Outcome) → Shrunk ts o → ((cs : List Choice) → allowed f cs ≡ true → Fit ts cs → PlanStays cs o) → Sound f ts o
  sound_by ts a NoPlan h k =
      record {
        choices = λ cs ok. false_in (inside_all ts cs) (lost cs ok);
        none = plans_none f ts lost;
      }
    where
      lost : (cs : List Choice) → allowed f cs ≡ true → inside_all ts cs ≡ true → ⊥
      lost cs ok i =
          let e = (k cs ok (fit_is ts cs i (allowed_joined f cs ok))).is in
          let q : ◌≡◌ {A = ℕ} 0 1 = cc in
          omega arith
  sound_by ts a (Plan us) h k =
      record {
        choices = λ cs ok. same_test (inside_all us cs) (inside_all ts cs) (inside_wider h.0 cs) (stays cs ok);
        same = plans_kept f us ts h.0 stays;
        accepted = check_kept f ts a us h.0 h.1;
        inside = h.0;
      }
    where
      stays : (cs : List Choice) → allowed f cs ≡ true → inside_all ts cs ≡ true → inside_all us cs ≡ true
      stays cs ok i =
          let q = k cs ok (fit_is ts cs i (allowed_joined f cs ok)) in
          let e : q.tasks ≡ us = cc q.is in
          subst (λ vs. inside_all vs cs ≡ true) e (fit_in q.fit)

  pub nothing_sound : (ts : List Task) → check f ts ≡ accepted → Sound f ts (Plan ts)
  nothing_sound ts a = record { choices = λ cs ok. refl; same = refl; accepted = a; inside = subs_self ts }

  pub balance_sound : (ts : List Task) → check f ts ≡ accepted → Sound f ts (balance ts)
  balance_sound ts a = sound_by ts a (balance ts) (balance_shrunk (check_live f ts a)) (λ cs ok g. balance_stays ts cs g)

  pub step_sound : (r : ℕ) → r < resource_count f → (ts : List Task) → check f ts ≡ accepted → Sound f ts (resource_step f r ts)
  step_sound r l ts a =
      sound_by ts a (resource_step f r ts) (resource_step_shrunk f r ts)
      (λ cs ok g. resource_step_stays f r ts cs g (allowed_holds f cs ok r l))

  -- one after another
  pub then_sound : (ts : List Task) (o : Outcome) (k : List Task → Outcome) → Sound f ts o → ((us : List Task) → check f us ≡ accepted → Sound f us (k us)) → Sound f ts (then o k)
  then_sound ts NoPlan k h g = h
  then_sound ts (Plan us) k h g = carry (k us) (g us h.accepted)
    where
      carry : (o : Outcome) → Sound f us o → Sound f ts o
      carry NoPlan l = nothing_then h l
      carry (Plan vs) l = keeps_then h l

  pub move_sound : (m : Move) (ts : List Task) → check f ts ≡ accepted → Sound f ts (move f m ts)
  unfolding move
  move_sound Balance ts a = balance_sound ts a
  move_sound (StepOf r) ts a =
      if-case (Sound f ts) (is_place f r) (resource_step f r ts) (Plan ts) (λ e. step_sound r (ltb-true r (resource_count f) e) ts a) (λ e. nothing_sound ts a)

  -- any sequence, of any length and order
  pub play_sound : (ms : List Move) (ts : List Task) → check f ts ≡ accepted → Sound f ts (play f ms ts)
  unfolding play
  play_sound [] ts a = nothing_sound ts a
  play_sound (m ∷ ms) ts a = then_sound ts (move f m ts) (play f ms) (move_sound m ts a) (play_sound ms)

-- The steps of a pass, one after another: what is left to do on the list as it is now gives the answer.
use Rattle.std.specs.Prelude.{Option, Some, None}
use Rattle.plan.specs.Refusals.{accepted}
use mathlib.Core.Path.{◌≡◌, sym, ap, ◌∙◌, subst}
use mathlib.Core.Bool.{Bool, false, not}
use mathlib.Core.List.{List}
use Prim.Native.Nat.{ℕ, suc, ◌+◌, ◌-◌, ◌≤◌, ◌<◌}
use native.Mathlib.Numerals.{add-one}
use native.Mathlib.Omega.{arith}
use Rattle.integers.specs.Tests.{or}
use Rattle.integers.proofs.Tests.{by_cases, or_assoc}
use Rattle.plan.specs.declared.Task.{Task}
use Rattle.rules.specs.Frame.{Frame, resource_count, places_from, places}
use Rattle.rules.specs.Balance.{Outcome, balance}
use Rattle.rules.specs.Balance.Outcome.{NoPlan, Plan}
use Rattle.rules.specs.Step.{resource_step}
use Rattle.rules.specs.Settle.{then, steps, pass, same_tasks}
use Rattle.rules.specs.Calls.{check}
use Rattle.rules.proofs.Keeps.{Sound, keeps_then, nothing_sound, balance_sound, step_sound}
use Rattle.rules.specs.Keeps.{Keeps}
use Rattle.rules.proofs.Passes.{steps_sound}
use Rattle.rules.proofs.Rooms.{keeps_rooms, keeps_less, less_changed, same_tasks_is}
use Rattle.idle.specs.declared.Passed.{Passed}
use Rattle.idle.specs.Mask.{Idle, Noted, Took}
use Rattle.idle.proofs.Mask.{unchanged_noted}

-- the places from r on
abbrev pub places_on : Frame → ℕ → List ℕ
places_on f r = places_from r (resource_count f - r)

-- the step of place r, then those after it
steps_more : (f : Frame) (r : ℕ) (ts : List Task) → r < resource_count f → steps f (places_on f r) ts ≡ then (resource_step f r ts) (steps f (places_on f (r + 1)))
unfolding steps places_from
steps_more f r ts h =
    let n = resource_count f in
    let e : n - r ≡ suc (n - suc r) = omega arith in
    rw (e, add-one)

-- none is left
steps_end : (f : Frame) (r : ℕ) (ts : List Task) → resource_count f ≤ r → steps f (places_on f r) ts ≡ Plan ts
unfolding steps places_from
steps_end f r ts h = let e : resource_count f - r ≡ 0 = omega arith in rw e

-- all are
steps_start : (f : Frame) (ts : List Task) → steps f (places_on f 0) ts ≡ steps f (places f) ts
unfolding places
steps_start f ts = let e : resource_count f - 0 ≡ resource_count f = omega arith in rw e

-- ---- the steps under way, before the step of place r: the steps from there on give the answer; the plan that is left is one that the steps may
-- leave, the mask is right and every change since ts is noted
pub record Passing (f : Frame) (ts : List Task) (before : Bool) (r : ℕ) (p : Passed) (us : List Task) : Type 0 where
  pub rest : steps f (places_on f r) us ≡ steps f (places f) ts
  pub keeps : Keeps f ts us
  pub noted : Noted f ts us before p.changed p.mask

module _ (f : Frame) (ts : List Task) (a : check f ts ≡ accepted) where
  -- a change now, or one before, is a change in all
  change_in_all : (us vs : List Task) → Keeps f ts us → Keeps f us vs → or (not (same_tasks ts us)) (not (same_tasks us vs)) ≡ not (same_tasks ts vs)
  change_in_all us vs k g =
      by_cases (same_tasks ts us)
      (λ s. rw s (ap (λ (x : List Task). not (same_tasks x vs)) (sym (same_tasks_is ts us s))))
      (λ s.
      let x = keeps_less f ts us a k s in
      let y = keeps_rooms f us vs k.accepted g in
      rw s (sym (ap not (less_changed vs ts (omega arith)))))

  -- what two steps in a row note
  noted_more : (us vs : List Task) → Keeps f ts us → Keeps f us vs → (before between after : Bool) (m n : ℕ) → Noted f ts us before between m → Noted f us vs between after n → Noted f ts vs before after n
  noted_more us vs k g before between after m n h e =
      record {
        idle = e.idle;
        changed =
            e.changed ∙ ap (λ (x : Bool). or x (not (same_tasks us vs))) h.changed
            ∙ or_assoc before (not (same_tasks ts us)) (not (same_tasks us vs)) ∙ ap (or before) (change_in_all us vs k g);
      }

  -- before the first step
  pub passing_start : (p : Passed) → Idle p.mask f ts → Passing f ts p.changed 0 p ts
  passing_start p idle = record { rest = steps_start f ts; keeps = nothing_sound f ts a; noted = unchanged_noted f ts p.mask p.changed idle }

  module _ (before : Bool) (r : ℕ) (p : Passed) (us : List Task) (g : Passing f ts before r p us) where
    module _ (l : r < resource_count f) (vs : List Task) where
      -- what the step of place r leaves, and then those after it
      goes : (o : Outcome) → o ≡ resource_step f r us → then o (steps f (places_on f (r + 1))) ≡ steps f (places f) ts
      goes o e = ap (λ (x : Outcome). then x (steps f (places_on f (r + 1)))) e ∙ sym (steps_more f r us l) ∙ g.rest

      -- after the step of place r
      pub passing_more : (o : Passed) → Took (resource_step f r) f p.changed us (Some o) vs → Passing f ts before (r + 1) o vs
      passing_more o t =
          let kept : Keeps f us vs = subst (Sound f us) (sym t.outcome) (step_sound f r l us g.keeps.accepted) in
          record {
            rest = goes (Plan vs) t.outcome;
            keeps = keeps_then g.keeps kept;
            noted = noted_more us vs g.keeps kept before p.changed o.changed p.mask o.mask g.noted t.noted;
          }

      -- it left no plan
      pub passing_none : Took (resource_step f r) f p.changed us None vs → Took (steps f (places f)) f before ts None vs
      passing_none t = record { outcome = goes NoPlan t.outcome; noted = tt }

    -- after the last step
    pub passing_end : resource_count f ≤ r → Took (steps f (places f)) f before ts (Some p) us
    passing_end l = record { outcome = sym (steps_end f r us l) ∙ g.rest; noted = g.noted }

  -- ---- a pass: balance, then the steps
  pub pass_none : (us : List Task) → Took balance f false ts None us → Took (pass f) f false ts None us
  unfolding pass
  pass_none us t = record { outcome = rw (sym t.outcome); noted = tt }

  module _ (p : Passed) (us : List Task) (t : Took balance f false ts (Some p) us) where
    pub balance_keeps : Keeps f ts us
    balance_keeps = subst (Sound f ts) (sym t.outcome) (balance_sound f ts a)

    pub pass_took : (o : Option Passed) (vs : List Task) → Took (steps f (places f)) f p.changed us o vs → Took (pass f) f false ts o vs
    unfolding pass
    pass_took None vs s = record { outcome = rw (sym t.outcome) s.outcome; noted = tt }
    pass_took (Some o) vs s =
        let g : Keeps f us vs = subst (Sound f us) (sym s.outcome) (steps_sound f us balance_keeps.accepted) in
        record {
          outcome = rw (sym t.outcome) s.outcome;
          noted = noted_more us vs balance_keeps g false p.changed o.changed p.mask o.mask t.noted s.noted;
        }

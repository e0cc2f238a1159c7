-- The resource step loses no allowed choice in either sense: at most goes over the negated choice.
use mathlib.Core.Path.{◌≡◌, refl, sym, ap₂, ◌∙◌}
use Prim.Native.Nat.{ℕ}
use mathlib.Core.List.{List, [], ◌∷◌, map}
use mathlib.Core.Bool.{Bool, true}
use lib.IntN.{ℤ, ◌+ℤ◌, neg_ℤ}
use lib.Signed.{le_z}
use Rattle.integers.specs.Tests.{or, any}
use Rattle.integers.specs.Sums.{sum_of}
use Rattle.integers.proofs.Z.{z, +z, ~z, le_z_in}
use Rattle.integers.proofs.Tests.{by_cases}
use Rattle.plan.specs.declared.Task.{Task}
use Rattle.plan.specs.declared.Sense.{Sense}
use Rattle.plan.specs.declared.Sense.TheVariants.{AtMost, AtLeast}
use Rattle.plan.specs.Powers.{negated_powers}
use Rattle.rules.specs.Allowed.{Choice, covers, adds, level, meets}
use Rattle.rules.specs.Frame.{Frame, floor_at, Floor}
use Rattle.rules.specs.Step.{negated, negated_floor, sense_step, resource_step}
use Rattle.rules.proofs.Inside.{Inside, Fit}
use Rattle.rules.proofs.Inside.Fit.{none, more}
use Rattle.rules.proofs.Limits.{begun_by, ends_after, checked, Holds}
use Rattle.rules.proofs.Stays.{PlanStays}
use Rattle.rules.proofs.StepSound.{step_stays}

abbrev pub negated_choice : Choice → Choice
negated_choice c = record { resource = c.resource; origin = c.origin; duration = c.duration; end = c.end; height = neg_ℤ c.height }

inside_negated : (t : Task) (c : Choice) → Inside t c → Inside (negated t) (negated_choice c)
unfolding negated negated_powers
inside_negated t c h =
    let p = h.height in
    record {
      set = h.set;
      origin = h.origin;
      duration = h.duration;
      end = h.end;
      height = omega (z, ~z c.height, ~z t.height.low.0, ~z t.height.high.0);
    }

inside_back : (t : Task) (c : Choice) → Inside t (negated_choice c) → Inside (negated t) c
unfolding negated negated_powers
inside_back t c h =
    let p = h.height in
    record {
      set = h.set;
      origin = h.origin;
      duration = h.duration;
      end = h.end;
      height = omega (z, ~z c.height, ~z t.height.low.0, ~z t.height.high.0);
    }

fit_negated : {ts : List Task} {cs : List Choice} → Fit ts cs → Fit (map negated ts) (map negated_choice cs)
fit_negated none = none
fit_negated (more {t} {c} h j f) = more (inside_negated t c h) j (fit_negated f)

fit_back : (cs : List Choice) (ts : List Task) → Fit ts (map negated_choice cs) → Fit (map negated ts) cs
fit_back [] ts none = none
fit_back (c ∷ cs) ts (more {t} {ts = us} h j f) = more (inside_back t c h) j (fit_back cs us f)

-- ---- the level is negated, the covered days stay
module _ (r : ℕ) (i : ℤ) where
  adds_negated : (c : Choice) → adds r i (negated_choice c) ≡ neg_ℤ (adds r i c)
  unfolding adds covers
  adds_negated c = by_cases (covers r i c) (λ e. rw e) (λ e. rw e)

  level_negated : (cs : List Choice) → level r i (map negated_choice cs) ≡ neg_ℤ (level r i cs)
  unfolding level sum_of
  level_negated [] = refl
  level_negated (c ∷ cs) =
      let a = adds_negated c in
      let b = level_negated cs in
      let x = adds r i c in
      let y = sum_of (adds r i) cs in
      omega (z, +z (adds r i (negated_choice c)) (sum_of (adds r i) (map negated_choice cs)), +z x y, ~z x, ~z y, ~z (x +ℤ y))

  any_negated : (p : Choice → Bool) → ((c : Choice) → p (negated_choice c) ≡ p c) → (cs : List Choice) → any p (map negated_choice cs) ≡ any p cs
  unfolding any
  any_negated p h [] = refl
  any_negated p h (c ∷ cs) = ap₂ or (h c) (any_negated p h cs)

  checked_negated : (limit : Floor) (cs : List Choice) → checked r (negated_floor limit) (map negated_choice cs) i ≡ checked r limit cs i
  unfolding checked begun_by ends_after covers
  checked_negated limit cs =
      rw (any_negated (begun_by r i) (λ c. refl) cs, any_negated (ends_after r i) (λ c. refl) cs, any_negated (covers r i) (λ c. refl) cs)

module _ (r : ℕ) (limit : Floor) (cs : List Choice) where
  pub holds_at_least : Holds AtMost r limit cs → Holds AtLeast r (negated_floor limit) (map negated_choice cs)
  unfolding meets
  holds_at_least h i a =
      let b : le_z (level r i cs) (limit.on i) ≡ true = h i (sym (checked_negated r i limit cs) ∙ a) in
      le_z_in (neg_ℤ (limit.on i)) (level r i (map negated_choice cs)) (omega (z, level_negated r i cs, ~z (limit.on i), ~z (level r i cs)))

  pub holds_at_most : Holds AtLeast r (negated_floor limit) (map negated_choice cs) → Holds AtMost r limit cs
  unfolding meets
  holds_at_most h i a =
      let b : le_z (neg_ℤ (limit.on i)) (level r i (map negated_choice cs)) ≡ true = h i (checked_negated r i limit cs ∙ a) in
      le_z_in (level r i cs) (limit.on i) (omega (z, level_negated r i cs, ~z (limit.on i), ~z (level r i cs)))

sense_step_stays : (sense : Sense) (r : ℕ) (limit : Floor) (ts : List Task) (cs : List Choice) → Fit ts cs → Holds sense r limit cs → PlanStays cs (sense_step sense r limit ts)
unfolding sense_step
sense_step_stays AtLeast r limit ts cs f h = step_stays r limit ts cs f h
sense_step_stays AtMost r limit ts cs f h =
    let p = step_stays r (negated_floor limit) (map negated ts) (map negated_choice cs) (fit_negated f) (holds_at_least r limit cs h) in
    record { tasks = map negated p.tasks; is = rw p.is; fit = fit_back cs p.tasks p.fit }

pub resource_step_stays : (f : Frame) (r : ℕ) (ts : List Task) (cs : List Choice) → Fit ts cs → Holds f.sense r (floor_at f r) cs → PlanStays cs (resource_step f r ts)
unfolding resource_step
resource_step_stays f r ts cs g h = sense_step_stays f.sense r (floor_at f r) ts cs g h

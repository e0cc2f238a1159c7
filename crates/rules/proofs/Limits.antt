-- The limit of a resource on every day: the page's test runs over the days that a choice covers itself, on a held one over those from the least
-- origin to the greatest end, and those are all days of all whole numbers that are checked.
use mathlib.Core.Path.{◌≡◌, refl, sym, ap₂, ◌∙◌, subst}
use Prim.Native.Nat.{ℕ, ◌<◌}
use mathlib.Core.List.{List, [], ◌∷◌}
use mathlib.Core.Bool.{Bool, true, false}
use lib.IntN.{ℤ, pred_ℤ}
use lib.Dec.{eqb}
use lib.Signed.{le_z, lt_z}
use Rattle.integers.specs.Lists.{In}
use Rattle.integers.specs.Least.{least_of, greatest_of}
use Rattle.integers.specs.Tests.{if, and, or, all, any}
use Rattle.integers.specs.Hull.{range}
use Rattle.integers.proofs.Z.{z, predz, le_z_in, lt_z_in}
use Rattle.integers.proofs.Tests.{clash, by_cases, if-case, and_first, and_second, and_in, implies_in, implies_out, all_any, any_filter}
use Rattle.integers.proofs.Lists.{in_any, all_members}
use Rattle.integers.proofs.Hull.{values_in, values_out}
use Rattle.integers.proofs.Least.{least_at, greatest_at}
use Rattle.integers.specs.Ends.{Within}
use Rattle.plan.specs.declared.Sense.{Sense}
use Rattle.plan.proofs.Sets.{eqb_true, eqb_in}
use Rattle.rules.specs.Frame.{Frame, resource_count, places, floor_at, Floor}
use Rattle.rules.specs.Allowed.{Choice, covers, covered_days, level, meets, meets_on, holds_covered, placed_on, held_days, holds, joined, allowed}
use Rattle.rules.proofs.Places.{all_places}
use Rattle.rules.proofs.Inside.{Covers, covers_is, covers_in}

-- a choice placed on r that has begun by day i, and one that ends after it
unfoldable pub begun_by : ℕ → ℤ → Choice → Bool
begun_by r i c = and (eqb c.resource r) (le_z c.origin i)

unfoldable pub ends_after : ℕ → ℤ → Choice → Bool
ends_after r i c = and (eqb c.resource r) (lt_z i c.end)

-- day i is checked on r: it is covered; on a held one it lies between the least origin and the greatest end
unfoldable pub checked : ℕ → Floor → List Choice → ℤ → Bool
checked r limit cs i = if limit.held (and (any (begun_by r i) cs) (any (ends_after r i) cs)) (any (covers r i) cs)

-- on each day that is checked, the heights there meet the limit
abbrev pub Holds : Sense → ℕ → Floor → List Choice → Type 0
Holds sense r limit cs = (i : ℤ) → checked r limit cs i ≡ true → meets sense (limit.on i) (level r i cs) ≡ true

-- a day is checked where a choice covers it
pub covered_checked : (r : ℕ) (limit : Floor) (i : ℤ) {c : Choice} {cs : List Choice} → In c cs → Covers r i c → checked r limit cs i ≡ true
unfolding checked begun_by ends_after
covered_checked r limit i {c} {cs} k v =
    let e = eqb_in c.resource r v.there in
    if-case (λ b. b ≡ true) limit.held (and (any (begun_by r i) cs) (any (ends_after r i) cs)) (any (covers r i) cs)
    (λ h.
    and_in (any (begun_by r i) cs) (any (ends_after r i) cs)
    (in_any (begun_by r i) k (and_in (eqb c.resource r) (le_z c.origin i) e (le_z_in c.origin i v.from)))
    (in_any (ends_after r i) k (and_in (eqb c.resource r) (lt_z i c.end) e (lt_z_in i c.end v.to))))
    (λ h. in_any (covers r i) k (covers_in r i c v))

-- ---- a plain resource: the days that a choice covers itself
module _ (r : ℕ) (i : ℤ) (c : Choice) where
  covered_within : Covers r i c → Within (range c.origin (pred_ℤ c.end)) i
  covered_within h = omega (z, predz c.end)

  within_covered : eqb c.resource r ≡ true → Within (range c.origin (pred_ℤ c.end)) i → Covers r i c
  within_covered e h = record { there = eqb_true c.resource r e; from = h.least; to = omega (z, predz c.end) }

module _ (sense : Sense) (r : ℕ) (limit : Floor) (cs : List Choice) where
  covered_is : holds_covered sense r limit cs ≡ true → (i : ℤ) → any (covers r i) cs ≡ true → meets_on sense r limit cs i ≡ true
  unfolding holds_covered covered_days
  covered_is h i a =
      let e = all_any _ (covers r i) cs h a in
      let c = e.0 in
      let v = covers_is r i c e.2 in
      let g = implies_out (eqb c.resource r) (all (meets_on sense r limit cs) (covered_days c)) e.1 (eqb_in c.resource r v.there) in
      values_out (meets_on sense r limit cs) (range c.origin (pred_ℤ c.end)) i g (covered_within r i c v)

  covered_in : ((i : ℤ) → any (covers r i) cs ≡ true → meets_on sense r limit cs i ≡ true) → holds_covered sense r limit cs ≡ true
  unfolding holds_covered covered_days
  covered_in h =
      all_members _ cs λ c m.
      implies_in (eqb c.resource r) _ λ e.
      values_in (meets_on sense r limit cs) (range c.origin (pred_ℤ c.end)) λ i w.
      h i (in_any (covers r i) m (covers_in r i c (within_covered r i c e w)))

-- ---- a held one: the days from the least origin to one before the greatest end
abbrev spans : List Choice → ℤ → Bool
spans ps i = and (any (λ c. le_z c.origin i) ps) (any (λ c. lt_z i c.end) ps)

module _ (p : ℤ → Bool) where
  held_is : (ps : List Choice) → all p (held_days ps) ≡ true → (i : ℤ) → spans ps i ≡ true → p i ≡ true
  unfolding held_days any
  held_is [] h i a = clash false a refl
  held_is (c ∷ ps) h i a =
      let o = least_of (λ c. c.origin) c.origin ps in
      let e = greatest_of (λ c. c.end) c.end ps in
      let x : le_z o i ≡ true = least_at (λ c. c.origin) i c.origin ps ∙ and_first _ _ a in
      let y : lt_z i e ≡ true = greatest_at (λ c. c.end) i c.end ps ∙ and_second (or (le_z c.origin i) (any (λ c. le_z c.origin i) ps)) _ a in
      values_out p _ i h (omega (z, predz e))

  held_in_lem : (ps : List Choice) → ((i : ℤ) → spans ps i ≡ true → p i ≡ true) → all p (held_days ps) ≡ true
  unfolding held_days any all
  held_in_lem [] h = refl
  held_in_lem (c ∷ ps) h =
      let o = least_of (λ c. c.origin) c.origin ps in
      let e = greatest_of (λ c. c.end) c.end ps in
      values_in p (range o (pred_ℤ e)) λ i w.
      h i
      (and_in _ _ (sym (least_at (λ c. c.origin) i c.origin ps) ∙ le_z_in o i w.least)
      (sym (greatest_at (λ c. c.end) i c.end ps) ∙ lt_z_in i e (omega (z, predz e))))

spans_placed : (r : ℕ) (cs : List Choice) (i : ℤ) → spans (placed_on r cs) i ≡ and (any (begun_by r i) cs) (any (ends_after r i) cs)
unfolding placed_on begun_by ends_after
spans_placed r cs i = ap₂ and (any_filter (λ c. le_z c.origin i) _ cs) (any_filter (λ c. lt_z i c.end) _ cs)

-- ---- either
module _ (sense : Sense) (r : ℕ) (limit : Floor) (cs : List Choice) where
  pub holds_is : holds sense r limit cs ≡ true → Holds sense r limit cs
  unfolding holds checked meets_on
  holds_is h i =
      by_cases limit.held
      (λ e.
      rw e λ a.
      held_is (meets_on sense r limit cs) (placed_on r cs) (subst (λ b. if b (all (meets_on sense r limit cs) (held_days (placed_on r cs))) (holds_covered sense r limit cs) ≡ true) e h) i (spans_placed r cs i ∙ a))
      (λ e.
      rw e λ a.
      covered_is sense r limit cs (subst (λ b. if b (all (meets_on sense r limit cs) (held_days (placed_on r cs))) (holds_covered sense r limit cs) ≡ true) e h) i a)

  pub holds_in : Holds sense r limit cs → holds sense r limit cs ≡ true
  unfolding holds checked meets_on
  holds_in h =
      if-case (λ b. b ≡ true) limit.held (all (meets_on sense r limit cs) (held_days (placed_on r cs))) (holds_covered sense r limit cs)
      (λ e. held_in_lem (meets_on sense r limit cs) (placed_on r cs) λ i a. h i (rw e (sym (spans_placed r cs i) ∙ a)))
      (λ e. covered_in sense r limit cs λ i a. h i (rw e a))

pub allowed_joined : (f : Frame) (cs : List Choice) → allowed f cs ≡ true → all joined cs ≡ true
unfolding allowed
allowed_joined f cs h = and_first (all joined cs) (all (λ r. holds f.sense r (floor_at f r) cs) (places f)) h

-- an allowed plan keeps the limit of every resource of the list, on every day
pub allowed_holds : (f : Frame) (cs : List Choice) → allowed f cs ≡ true → (r : ℕ) → r < resource_count f → Holds f.sense r (floor_at f r) cs
unfolding allowed
allowed_holds f cs h r l =
    let p : ℕ → Bool = λ r. holds f.sense r (floor_at f r) cs in
    holds_is f.sense r (floor_at f r) cs (all_places p f r (and_second (all joined cs) (all p (places f)) h) l)

-- One fixed choice: a pass finds no plan exactly where the choice breaks a rule, and else changes nothing.
use Rattle.plan.specs.Refusals.{accepted}
use mathlib.Core.Path.{◌≡◌, refl, sym, ap, ap₂, ◌∙◌, subst}
use Prim.Native.Nat.{ℕ, ◌^◌, ◌<◌}
use native.Mathlib.Omega.{arith}
use mathlib.Core.List.{List, [], ◌∷◌, map}
use mathlib.Core.Bool.{true, false}
use lib.IntN.{ℤ}
use Rattle.integers.specs.Whole.{eq_z}
use Rattle.integers.specs.Tests.{if, all}
use Rattle.integers.specs.Hull.{Range, range}
use Rattle.integers.proofs.Z.{z, eq_z_is}
use Rattle.integers.proofs.Tests.{clash, by_cases, four_is, and_first, and_second, and_in}
use Rattle.integers.specs.Ends.{Within}
use Rattle.plan.specs.declared.Task.{Task}
use Rattle.plan.specs.Tasks.{TaskFits}
use Rattle.plan.specs.Days.{days_of, span_of}
use Rattle.plan.specs.Powers.{powers_of, power_span_of}
use Rattle.plan.specs.Sets.{has, size}
use Rattle.plan.proofs.Sets.{eqb_true, has_alone, alone_only, has_le, size_same, size_some, some_place}
use Rattle.rules.specs.Frame.{Frame, places, floor_at}
use Rattle.rules.specs.Allowed.{Choice, inside, inside_all, joined, holds, allowed}
use Rattle.rules.specs.Balance.{Outcome}
use Rattle.rules.specs.Balance.Outcome.{NoPlan, Plan}
use Rattle.rules.specs.Step.{resource_step}
use Rattle.rules.specs.Settle.{then, steps, pass}
use Rattle.rules.specs.Fixed.{fixed, one_value, one_resource}
use Rattle.rules.specs.Calls.{check}
use Rattle.rules.proofs.Inside.{Inside, inside_is, inside_in}
use Rattle.rules.proofs.Live.{Live, Lives}
use Rattle.integers.specs.Lists.{Each}
use Rattle.integers.specs.Lists.Each.{nothing, also}
use Rattle.rules.proofs.Checks.{check_live, check_wide}
use Rattle.rules.proofs.FixedSteps.{sense_step_fixed, balance_fixed}

-- ---- the choice as a list of choices
steps_fixed : (f : Frame) (cs : List Choice) → all joined cs ≡ true → (rs : List ℕ) → steps f rs (map fixed cs) ≡ if (all (λ r. holds f.sense r (floor_at f r) cs) rs) (Plan (map fixed cs)) NoPlan
unfolding steps all resource_step
steps_fixed f cs j [] = refl
steps_fixed f cs j (r ∷ rs) =
    ap (λ (o : Outcome). then o (steps f rs)) (sense_step_fixed f.sense r (floor_at f r) cs j)
    ∙ by_cases (holds f.sense r (floor_at f r) cs) (λ h. rw h (steps_fixed f cs j rs)) (λ h. rw h)

pub pass_fixed : (f : Frame) (cs : List Choice) → pass f (map fixed cs) ≡ if (allowed f cs) (Plan (map fixed cs)) NoPlan
unfolding pass allowed
pass_fixed f cs =
    ap (λ (o : Outcome). then o (steps f (places f))) (balance_fixed cs)
    ∙ by_cases (all joined cs) (λ j. rw j (steps_fixed f cs j (places f))) (λ j. rw j)

-- ---- the choice as a list of tasks with one value in each range and one resource in each set
record OneValue (t : Task) : Type 0 where
  origin : t.origin.low.0 ≡ t.origin.high.0
  duration : t.duration.low.0 ≡ t.duration.high.0
  end : t.end.low.0 ≡ t.end.high.0
  height : t.height.low.0 ≡ t.height.high.0

one_value_is : (t : Task) → one_value t ≡ true → OneValue t
unfolding one_value
one_value_is t h =
    let o = eq_z t.origin.low.0 t.origin.high.0 in
    let d = eq_z t.duration.low.0 t.duration.high.0 in
    let e = eq_z t.end.low.0 t.end.high.0 in
    let p = eq_z t.height.low.0 t.height.high.0 in
    let k = four_is o d e p h in
    record {
      origin = eq_z_is t.origin.low.0 t.origin.high.0 k.first;
      duration = eq_z_is t.duration.low.0 t.duration.high.0 k.second;
      end = eq_z_is t.end.low.0 t.end.high.0 k.third;
      height = eq_z_is t.height.low.0 t.height.high.0 k.fourth;
    }

-- a set of one resource is that of any place it has
one_set : (s k : ℕ) → s < 2 ^ 64 → size 64 s ≡ 1 → has s k ≡ true → 2 ^ k ≡ s
one_set s k l e h =
    let a = has_le s k h in
    let b = size_some 64 (2 ^ k) k (omega arith) (has_alone k) in
    size_same 64 (2 ^ k) s (λ j g. subst (λ x. has s x ≡ true) (sym (alone_only k j g)) h) l (omega arith)

one_range : (s : Range) (v : ℤ) → s.low ≡ s.high → Within s v → range v v ≡ s
one_range s v e w =
    let a : v ≡ s.low = omega z in
    let b : v ≡ s.high = omega z in
    ap₂ range a b

one_task : (t : Task) (c : Choice) → t.set < 2 ^ 64 → one_value t ≡ true → one_resource t ≡ true → Inside t c → fixed c ≡ t
unfolding one_resource
one_task t c l v w h =
    let e = one_value_is t v in
    let a = one_set t.set c.resource l (eqb_true (size 64 t.set) 1 w) h.set in
    let o = one_range (days_of t.origin) c.origin e.origin h.origin in
    let d = one_range (days_of t.duration) c.duration e.duration h.duration in
    let n = one_range (days_of t.end) c.end e.end h.end in
    let p = one_range (powers_of t.height) c.height e.height h.height in
    λ j. record { set = a j; origin = span_of (o j); duration = span_of (d j); end = span_of (n j); height = power_span_of (p j) }

one_tasks : (ts : List Task) (cs : List Choice) → Each (TaskFits 64) ts → all one_value ts ≡ true → all one_resource ts ≡ true → inside_all ts cs ≡ true → map fixed cs ≡ ts
unfolding all inside_all
one_tasks [] [] s v w h = refl
one_tasks [] (c ∷ cs) s v w h = clash false h refl
one_tasks (t ∷ ts) [] s v w h = clash false h refl
one_tasks (t ∷ ts) (c ∷ cs) (also l s) v w h =
    ap₂ (λ (x : Task) (xs : List Task). x ∷ xs)
    (one_task t c l.places (and_first (one_value t) (all one_value ts) v) (and_first (one_resource t) (all one_resource ts) w) (inside_is t c (and_first (inside t c) (inside_all ts cs) h)))
    (one_tasks ts cs s (and_second (one_value t) (all one_value ts) v) (and_second (one_resource t) (all one_resource ts) w) (and_second (inside t c) (inside_all ts cs) h))

-- every accepted list has a choice inside
lowest : (t : Task) → Live t → (c : Choice) × Inside t c
lowest t l =
    let k = some_place t.set l.set in (
      record { resource = k.0; origin = t.origin.low.0; duration = t.duration.low.0; end = t.end.low.0; height = t.height.low.0 },
      record {
        set = k.1;
        origin = record { least = omega z; most = l.origin };
        duration = record { least = omega z; most = l.duration };
        end = record { least = omega z; most = l.end };
        height = record { least = omega z; most = l.height };
      },
    )

lowests : {ts : List Task} → Lives ts → (cs : List Choice) × (inside_all ts cs ≡ true)
unfolding inside_all
lowests nothing = ([], refl)
lowests (also {x = t} {xs = ts} l f) =
    let c = lowest t l in
    let cs = lowests f in
    (c.0 ∷ cs.0, and_in (inside t c.0) (inside_all ts cs.0) (inside_in t c.0 c.1) cs.1)

module _ (f : Frame) (ts : List Task) (a : check f ts ≡ accepted) where
  pub some_choice : (cs : List Choice) × (inside_all ts cs ≡ true)
  some_choice = lowests (check_live f ts a)

  pub pass_one_choice : all one_value ts ≡ true → all one_resource ts ≡ true → (cs : List Choice) → inside_all ts cs ≡ true → pass f ts ≡ if (allowed f cs) (Plan ts) NoPlan
  pass_one_choice v w cs h =
      subst (λ us. pass f us ≡ if (allowed f cs) (Plan us) NoPlan) (one_tasks ts cs (check_wide f ts a) v w h) (pass_fixed f cs)

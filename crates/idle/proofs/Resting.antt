-- Before the first pass: a resource on which no lively task may stand. No task has only it, so no day counts, none falls short, is needed or raised. A bar
-- shuts values out of no task there, because each has other resources, and takes none off, because none has a day on which it runs.
use Rattle.std.specs.Prelude.{Ok}
use Rattle.plan.specs.Refusals.{accepted}
use mathlib.Core.Path.{◌≡◌, refl, ◌∙◌}
use mathlib.Core.Bool.{true, false}
use mathlib.Core.List.{List, [], ◌∷◌}
use Prim.Native.Nat.{ℕ}
use lib.IntN.{ℤ}
use Rattle.integers.specs.Tests.{any}
use Rattle.integers.specs.Lists.{Each}
use Rattle.integers.specs.Lists.Each.{nothing, also}
use Rattle.integers.proofs.Tests.{clash, by_cases, any_none}
use Rattle.integers.proofs.Lists.{each_in}
use Rattle.plan.specs.declared.Task.{Task}
use Rattle.plan.specs.declared.Sense.TheVariants.{AtLeast}
use Rattle.plan.specs.Sets.{has, only, union}
use Rattle.rules.specs.Frame.{Frame, floor_at, Floor}
use Rattle.rules.specs.Balance.{each}
use Rattle.rules.specs.Balance.Outcome.{Plan}
use Rattle.rules.specs.Step.{counts, shortfall, needed, narrowed, listed_days, at_least_step}
use Rattle.rules.specs.Calls.{check}
use Rattle.rules.proofs.Live.{Live, Lives}
use Rattle.rules.proofs.Untouched.{narrowed_untouched, only_away, narrowed_away}
use Rattle.rules.proofs.Counted.{none_counts}
use Rattle.rules.proofs.Checks.{check_live}
use Rattle.idle.specs.Lively.{lively}
use Rattle.idle.specs.Mask.{Idle, lively_places}
use Rattle.idle.proofs.Lively.{dull_only, dull_untouched}
use Rattle.idle.proofs.Mask.{union_none, at_least_step_lem}

-- each task is lively only where it may not stand on r
abbrev Resting : ℕ → List Task → Type 0
Resting r ts = Each (λ t. lively t ≡ true → has t.set r ≡ false) ts

resting_from : (r m : ℕ) (ts : List Task) → has (lively_places m ts) r ≡ false → (has m r ≡ false) × Resting r ts
unfolding lively_places
resting_from r m [] h = (h, nothing)
resting_from r m (t ∷ ts) h =
    by_cases (lively t)
    (λ q.
    let e = resting_from r (union m t.set) ts (rw q at h) in
    let n = union_none m t.set r e.0 in
    (n.0, also (λ v. n.1) e.1))
    (λ q. let e = resting_from r m ts (rw q at h) in (e.0, also (λ v. clash (lively t) v q) e.1))

module _ (r : ℕ) (limit : Floor) where
  -- none has only r, so no day counts
  resting_counts : (i : ℤ) (ts : List Task) → Resting r ts → counts r limit ts i ≡ false
  resting_counts i ts rest =
      none_counts r limit ts i λ t k.
      by_cases {P = only t.set r ≡ false} (lively t) (λ e. only_away r t (each_in rest k e)) (λ e. dull_only t e r)

  module _ (all : List Task) (rest : Resting r all) where
    resting_enough : any (shortfall r limit all) (listed_days all) ≡ false
    unfolding shortfall
    resting_enough = any_none (shortfall r limit all) (listed_days all) (λ i e. clash (shortfall r limit all i) e (rw (resting_counts i all rest)))

    resting_unneeded : (t : Task) (i : ℤ) → needed r limit all t i ≡ false
    unfolding needed
    resting_unneeded t i = rw (resting_counts i all rest)

    resting_kept : (t : Task) → (lively t ≡ true → has t.set r ≡ false) → Live t → narrowed r limit all (listed_days all) t ≡ Ok t
    resting_kept t h l =
        by_cases (lively t) (λ e. narrowed_away r t (h e) limit all (listed_days all) l)
        (λ e. narrowed_untouched r limit all (listed_days all) t (λ i. dull_untouched t e r limit all i (resting_unneeded t i)) l)

    resting_each : {ts : List Task} → Resting r ts → Lives ts → each (narrowed r limit all (listed_days all)) ts ≡ Plan ts
    unfolding each
    resting_each nothing nothing = refl
    resting_each (also {x = t} {xs = ts} h k) (also l m) = rw (resting_kept t h l, resting_each k m)

    resting_step : Lives all → at_least_step r limit all ≡ Plan all
    unfolding at_least_step
    resting_step l = rw resting_enough (resting_each rest l)

pub lively_idle : (f : Frame) → f.sense ≡ AtLeast → (ts : List Task) → check f ts ≡ accepted → Idle (lively_places 0 ts) f ts
lively_idle f least ts a r h c = at_least_step_lem f least r ts ∙ resting_step r (floor_at f r) ts (resting_from r 0 ts c).1 (check_live f ts a)

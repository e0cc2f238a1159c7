-- The mask stays right: a step changes only tasks that could stand where it is taken, and only the places noted as touched see the change.
use Rattle.std.specs.Prelude.{Ok, Option, Some, None}
use Rattle.plan.specs.Refusals.{Narrowed, accepted}
use mathlib.Core.Path.{◌≡◌, refl, sym, ap, ap₂, ◌∙◌, subst}
use mathlib.Core.Bool.{Bool, true, false, not}
use mathlib.Core.List.{List, ◌∷◌}
use Prim.Native.Nat.{ℕ, zero, suc, ◌-◌, ◌/◌, ◌%◌, ◌^◌, ◌≤◌, ◌<◌}
use native.Mathlib.Nat.{not-suc-le-zero, le_of_suc-le-suc, two-pow-succ}
use native.Mathlib.Omega.{arith}
use lib.Dec.{eqb}
use Rattle.integers.specs.Tests.{and, or, any}
use Rattle.integers.specs.Lists.Each.{nothing, also}
use Rattle.integers.proofs.Tests.{clash, by_cases, false_in, same_test, and_first, and_second, and_in, or_none, not_out}
use Rattle.plan.specs.declared.Task.{Task}
use Rattle.plan.specs.declared.Sense.TheVariants.{AtLeast}
use Rattle.plan.specs.Sets.{has, only, at_most_one, without, union, differing}
use Rattle.plan.proofs.Sets.{without_keeps, eqb_true, eqb_in, only_is, only_in, alone_only, at_most_one_only, same_set, union_has, differing_has}
use Rattle.rules.specs.Frame.{Frame, resource_count, floor_at, Floor}
use Rattle.rules.specs.Balance.{each, balance}
use Rattle.rules.specs.Balance.Outcome.{Plan}
use Rattle.rules.specs.Step.{shortfall, narrowed, listed_days, at_least_step, sense_step, resource_step}
use Rattle.rules.specs.Settle.{same_ranges, same_task, same_tasks}
use Rattle.rules.specs.Calls.{check}
use Rattle.rules.proofs.Live.{Live, Lives}
use Rattle.rules.proofs.Subs.{subs_length}
use Rattle.rules.specs.Keeps.{Subs, Keeps}
use Rattle.rules.specs.Keeps.Subs.{no_subs, more_subs}
use Rattle.rules.proofs.Untouched.{narrowed_away}
use Rattle.rules.proofs.Sets.{kept_set_is, set_stayed}
use Rattle.rules.proofs.Rooms.{same_ranges_is, same_task_is, same_tasks_self}
use Rattle.rules.proofs.Elsewhere.{Alike, Beside, if_plan, step_elsewhere}
use Rattle.rules.proofs.Elsewhere.Beside.{no_tasks, same_task_lem, other_task, other_set}
use Rattle.rules.proofs.Checks.{accepts, check_live}
use Rattle.rules.proofs.Keeps.{Sound, balance_sound, step_sound}
use Rattle.changes.specs.Changes.{outcome_of, seen_by, touched_by, Notes}
use Rattle.changes.proofs.Changes.{touched_tells}
use Rattle.changes.proofs.Walk.{first_kept}
use Rattle.idle.specs.declared.Passed.{Passed}
use Rattle.idle.specs.Mask.{Idle, Noted, Took}

-- a place that is in neither of two sets
pub union_none : (a b k : ℕ) → has (union a b) k ≡ false → (has a k ≡ false) × (has b k ≡ false)
union_none a b k h = or_none (has a k) (has b k) (sym (union_has a b k) ∙ h)

-- ---- how r sees that t became u
-- some of one resource alone, and that one among them
alone_again : (s r : ℕ) → has s r ≡ true → ((k : ℕ) → has s k ≡ true → has (2 ^ r) k ≡ true) → s ≡ 2 ^ r
alone_again s r h f =
    same_set s (2 ^ r) (λ k. same_test (has s k) (has (2 ^ r) k) (f k) (λ e. subst (λ (n : ℕ). has s n ≡ true) (sym (alone_only r k e)) h))

-- it may stand on r neither before nor after, or it only lost other resources
data Unseen (r : ℕ) (t u : Task) : Type 0 where
  not_there : has t.set r ≡ false → has u.set r ≡ false → Unseen r t u
  lost_others : same_ranges t u ≡ true → Alike r t u → Unseen r t u

module _ (r : ℕ) (t u : Task) (sub : (k : ℕ) → has u.set k ≡ true → has t.set k ≡ true) (unseen : has (seen_by t u) r ≡ false) where
  abbrev lost : Bool
  lost = and (same_ranges t u) (not (at_most_one u.set))

  seen_lost : lost ≡ true → has (differing t.set u.set) r ≡ false
  unfolding seen_by
  seen_lost e = rw e at unseen

  seen_all : lost ≡ false → has t.set r ≡ false
  unfolding seen_by
  seen_all e = rw e at unseen

  unseen_is : Unseen r t u
  unseen_is =
      by_cases lost
      (λ e.
      let same : same_ranges t u ≡ true = and_first (same_ranges t u) (not (at_most_one u.set)) e in
      let ranges = same_ranges_is t u same in
      let more : at_most_one u.set ≡ false = not_out (at_most_one u.set) (and_second (same_ranges t u) (not (at_most_one u.set)) e) in
      let eq : has t.set r ≡ has u.set r = differing_has t.set u.set r (seen_lost e) in
      let shares : only u.set r ≡ false = false_in (only u.set r) (λ o. clash (at_most_one u.set) (at_most_one_only u.set r o) more) in
      by_cases (has t.set r)
      (λ h.
      let has_too : has u.set r ≡ true = sym eq ∙ h in
      lost_others same
      (record {
        origin = ranges.origin;
        duration = ranges.duration;
        end = ranges.end;
        height = ranges.height;
        had = h;
        has = has_too;
        shared =
            false_in (only t.set r)
            (λ o.
            let alone = only_is t.set r o in
            clash (only u.set r) (only_in u.set r (alone_again u.set r has_too (λ k e. subst (λ (x : ℕ). has x k ≡ true) alone (sub k e)))) shares);
        shares = shares;
      }))
      (λ h. not_there h (sym eq ∙ h)))
      (λ e. let h = seen_all e in not_there h (false_in (has u.set r) (λ q. clash (has t.set r) (sub r q) h)))

-- ---- a change seen from a place that sees none of the changed tasks change
beside_of : (r : ℕ) {us ts : List Task} → Subs us ts → Lives us → has (touched_by ts us) r ≡ false → Beside r ts us
unfolding touched_by
beside_of r no_subs nothing h = no_tasks
beside_of r (more_subs {u} {t} {us} {ts} s f) (also l k) h =
    by_cases (same_task t u)
    (λ e. subst (λ (x : Task). Beside r (t ∷ ts) (x ∷ us)) (same_task_is t u e) (same_task_lem (beside_of r f k (rw e at h))))
    (λ e.
    let n = union_none (seen_by t u) (touched_by ts us) r (rw e at h) in
    placed (unseen_is r t u s.set n.0) (beside_of r f k n.1))
  where
    placed : Unseen r t u → Beside r ts us → Beside r (t ∷ ts) (u ∷ us)
    placed (not_there a b) rest = other_task a b l rest
    placed (lost_others e a) rest = other_set a l rest

-- ---- a step that touches no task on its own resource changes nothing
-- a task that the step left with r and another resource has its set as it was; with the same ranges it is the same
same_again : (t u : Task) → same_ranges t u ≡ true → u.set ≡ t.set → same_task t u ≡ true
unfolding same_task
same_again t u e s = and_in (eqb t.set u.set) (same_ranges t u) (eqb_in t.set u.set (sym s)) e

untouched : (f : Task → Narrowed) (r : ℕ) → ((t : Task) → has t.set r ≡ false → Live t → f t ≡ Ok t)
    → ((t u : Task) → f t ≡ Ok u → has u.set r ≡ true → only u.set r ≡ false → u.set ≡ t.set)
    → {ts us : List Task} → Subs us ts → Lives ts → each f ts ≡ Plan us → has (touched_by ts us) r ≡ false → us ≡ ts
unfolding each touched_by
untouched f r away stays no_subs nothing e h = refl
untouched f r away stays (more_subs {u} {t} {us} {ts} s subs) (also l k) e h =
    let p = first_kept (f t) (each f ts) u us e in
    ap₂ (λ (x : Task) (xs : List Task). x ∷ xs)
    (by_cases (same_task t u) (λ q. sym (same_task_is t u q))
    (λ q. same q (unseen_is r t u s.set (union_none (seen_by t u) (touched_by ts us) r (rw q at h)).0) p.0))
    (untouched f r away stays subs k p.1 (by_cases (same_task t u) (λ q. rw q at h) (λ q. (union_none (seen_by t u) (touched_by ts us) r (rw q at h)).1)))
  where
    same : same_task t u ≡ false → Unseen r t u → f t ≡ Ok u → u ≡ t
    same q (not_there a b) p = cc (away t a l, p)
    same q (lost_others e a) p = clash (same_task t u) (same_again t u e (stays t u p a.has a.shares)) q

step_untouched : (r : ℕ) (limit : Floor) (ts us : List Task) → Subs us ts → Lives ts → at_least_step r limit ts ≡ Plan us → has (touched_by ts us) r ≡ false → us ≡ ts
unfolding at_least_step
step_untouched r limit ts us s l e h =
    untouched (narrowed r limit ts (listed_days ts)) r (λ t a v. narrowed_away r t a limit ts (listed_days ts) v) stays s l
    (if_plan (any (shortfall r limit ts) (listed_days ts)) (each (narrowed r limit ts (listed_days ts)) ts) us e).1 h
  where
    stays : (t u : Task) → narrowed r limit ts (listed_days ts) t ≡ Ok u → has u.set r ≡ true → only u.set r ≡ false → u.set ≡ t.set
    stays t u p a o =
        let k = kept_set_is r limit ts (listed_days ts) t u p in
        k ∙ set_stayed r limit ts (listed_days ts) t (subst (λ (x : ℕ). has x r ≡ true) k a) (subst (λ (x : ℕ). only x r ≡ false) k o)

-- ---- the step of a plan at least
pub at_least_step_lem : (f : Frame) → f.sense ≡ AtLeast → (r : ℕ) (ts : List Task) → resource_step f r ts ≡ at_least_step r (floor_at f r) ts
unfolding resource_step sense_step
at_least_step_lem f least r ts = rw least

-- ---- the mask after a change
module _ (f : Frame) (least : f.sense ≡ AtLeast) (ts us : List Task) (a : check f ts ≡ accepted) (k : Keeps f ts us) where
  idle_after : (mask : ℕ) → Idle mask f ts → (r : ℕ) → r < resource_count f → has mask r ≡ false → has (touched_by ts us) r ≡ false → resource_step f r us ≡ Plan us
  idle_after mask idle r h c t =
      let seen = beside_of r k.inside (check_live f us k.accepted) t in
      at_least_step_lem f least r us ∙ step_elsewhere r (floor_at f r) ts us seen (sym (at_least_step_lem f least r ts) ∙ idle r h c)

  changed_after : (before : Bool) → or before (not (eqb (touched_by ts us) 0)) ≡ or before (not (same_tasks ts us))
  changed_after before = ap (λ (b : Bool). or before (not b)) (sym (touched_tells ts us (check_live f ts a) (subs_length k.inside)))

  balance_noted : (mask : ℕ) (before : Bool) → Idle mask f ts → Noted f ts us before (or before (not (eqb (touched_by ts us) 0))) (union mask (touched_by ts us))
  balance_noted mask before idle =
      record {
        idle = λ r h c. let n = union_none mask (touched_by ts us) r c in idle_after mask idle r h n.0 n.1;
        changed = changed_after before;
      }

  step_noted : (mask : ℕ) (before : Bool) (r : ℕ) → resource_step f r ts ≡ Plan us → Idle mask f ts
      → Noted f ts us before (or before (not (eqb (touched_by ts us) 0))) (union (without mask r) (touched_by ts us))
  step_noted mask before r e idle =
      record {
        idle =
            λ p h c.
            let n = union_none (without mask r) (touched_by ts us) p c in
            by_cases (eqb p r)
            (λ q.
            let same = eqb_true p r q in
            let still = step_untouched r (floor_at f r) ts us k.inside (check_live f ts a) (sym (at_least_step_lem f least r ts) ∙ e) (rw same at n.1) in
            rw (same, still) (subst (λ (x : List Task). resource_step f r ts ≡ Plan x) still e))
            (λ q.
            idle_after mask idle p h
            (false_in (has mask p) (λ m. clash (has (without mask r) p) (without_keeps mask r p m (λ s. clash (eqb p r) (eqb_in p r s) q)) n.0))
            n.1);
        changed = changed_after before;
      }

-- ---- what is noted of steps that were taken
-- after so many touched places
abbrev pub after : Bool → ℕ → ℕ → Passed
after before mask touched = record { changed = or before (not (eqb touched 0)); mask = union mask touched }

-- and where no plan may be left
abbrev pub after_step : Bool → ℕ → Option ℕ → Option Passed
after_step before mask None = None
after_step before mask (Some touched) = Some (after before mask touched)

module _ (f : Frame) (least : f.sense ≡ AtLeast) (ts us : List Task) (a : check f ts ≡ accepted) where
  pub balance_took : (o : Option ℕ) → Notes o ts us → (mask : ℕ) → Idle mask f ts → outcome_of o us ≡ balance ts → Took balance f false ts (after_step false mask o) us
  balance_took None n mask idle e = record { outcome = e; noted = tt }
  balance_took (Some touched) n mask idle e =
      let k : Keeps f ts us = subst (Sound f ts) (sym e) (balance_sound f ts a) in
      record { outcome = e; noted = rw n (balance_noted f least ts us a k mask false idle) }

  pub step_took : (o : Option ℕ) → Notes o ts us → (r : ℕ) → r < resource_count f → (before : Bool) (mask : ℕ) → Idle mask f ts → outcome_of o us ≡ resource_step f r ts
      → Took (resource_step f r) f before ts (after_step before (without mask r) o) us
  step_took None n r l before mask idle e = record { outcome = e; noted = tt }
  step_took (Some touched) n r l before mask idle e =
      let k : Keeps f ts us = subst (Sound f ts) (sym e) (step_sound f r l ts a) in
      record { outcome = e; noted = rw n (step_noted f least ts us a k mask before r (sym e) idle) }

-- ---- a step that is not due
or_not : (b : Bool) → b ≡ or b (not true)
or_not true = refl
or_not false = refl

pub unchanged_noted : (f : Frame) (ts : List Task) (mask : ℕ) (before : Bool) → Idle mask f ts → Noted f ts ts before before mask
unchanged_noted f ts mask before idle = record { idle = idle; changed = rw (same_tasks_self ts) (or_not before) }

pub rest_took : (f : Frame) (ts : List Task) (p : Passed) → Idle p.mask f ts → (r : ℕ) → r < resource_count f → has p.mask r ≡ false
    → Took (resource_step f r) f p.changed ts (Some p) ts
rest_took f ts p idle r l clear = record { outcome = sym (idle r l clear); noted = unchanged_noted f ts p.mask p.changed idle }

-- ---- with every bit set, nothing is claimed
ones : (m : ℕ) → (2 ^ suc m - 1) / 2 ≡ 2 ^ m - 1
ones m = omega (arith, two-pow-succ m)

has_ones : (m k : ℕ) → k < m → has (2 ^ m - 1) k ≡ true
unfolding has
has_ones zero k h = absurd (not-suc-le-zero h)
has_ones (suc m) zero h = eqb_in ((2 ^ suc m - 1) % 2) 1 (omega (arith, two-pow-succ m, pow_some m))
  where
    pow_some : (m : ℕ) → 1 ≤ 2 ^ m
    pow_some zero = omega arith
    pow_some (suc m) = let q = pow_some m in omega (arith, two-pow-succ m)
has_ones (suc m) (suc k) h = rw (ones m) (has_ones m k (le_of_suc-le-suc h))

pub all_idle : (f : Frame) (ts : List Task) → check f ts ≡ accepted → Idle (2 ^ 64 - 1) f ts
all_idle f ts a r h c = clash (has (2 ^ 64 - 1) r) (has_ones 64 r (let m = (accepts f ts a).most in omega arith)) c

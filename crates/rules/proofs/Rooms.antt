-- What could still be removed: it never grows, and a list with as much room as before is the same list. So a step that changes
-- something takes room away.
use Rattle.plan.specs.Refusals.{accepted}
use mathlib.Core.Path.{◌≡◌, refl, sym, ap, ap₂, subst}
use Prim.Native.Nat.{◌^◌, ◌≤◌, ◌<◌}
use native.Mathlib.Omega.{arith}
use mathlib.Core.List.{List, [], ◌∷◌}
use mathlib.Core.Bool.{true, false, not}
use lib.Dec.{T, eqb, leb, leb→le, nleb→lt}
use Rattle.integers.specs.Hull.{same_range}
use Rattle.integers.proofs.Tests.{four_is, clash, by_cases, false_in, and_first, and_second}
use Rattle.integers.proofs.Hull.{width_le, width_same, same_range_self, same_range_is}
use Rattle.plan.specs.declared.Task.{Task}
use Rattle.plan.specs.Tasks.{TaskFits}
use Rattle.plan.specs.Days.{days_of, span_of}
use Rattle.plan.specs.Powers.{powers_of, power_span_of}
use Rattle.plan.proofs.Sets.{eqb_in, eqb_true, size_le, size_same, size_some, some_place, sub_le}
use Rattle.rules.specs.Frame.{Frame}
use Rattle.rules.specs.Settle.{same_ranges, same_task, same_tasks, room, rooms}
use Rattle.rules.proofs.Live.{Live, Lives}
use Rattle.integers.specs.Lists.{Each}
use Rattle.integers.specs.Lists.Each.{nothing, also}
use Rattle.rules.specs.Keeps.{SubTask, Subs, Keeps}
use Rattle.rules.specs.Keeps.Subs.{no_subs, more_subs}
use Rattle.rules.proofs.Checks.{check_live, check_wide}
use Rattle.rules.specs.Calls.{check}

-- ---- the same list
pub record SameRanges (a b : Task) : Type 0 where
  pub origin : a.origin ≡ b.origin
  pub duration : a.duration ≡ b.duration
  pub end : a.end ≡ b.end
  pub height : a.height ≡ b.height

pub same_ranges_is : (a b : Task) → same_ranges a b ≡ true → SameRanges a b
unfolding same_ranges
same_ranges_is a b h =
    let o = same_range (days_of a.origin) (days_of b.origin) in
    let d = same_range (days_of a.duration) (days_of b.duration) in
    let e = same_range (days_of a.end) (days_of b.end) in
    let p = same_range (powers_of a.height) (powers_of b.height) in
    let q = four_is o d e p h in
    record {
      origin = ap span_of (same_range_is (days_of a.origin) (days_of b.origin) q.first);
      duration = ap span_of (same_range_is (days_of a.duration) (days_of b.duration) q.second);
      end = ap span_of (same_range_is (days_of a.end) (days_of b.end) q.third);
      height = ap power_span_of (same_range_is (powers_of a.height) (powers_of b.height) q.fourth);
    }

-- and so the task, where its set is the same too
pub same_but_set : (a b : Task) → same_ranges a b ≡ true → a.set ≡ b.set → a ≡ b
same_but_set a b h s =
    let q = same_ranges_is a b h in
    λ k. record { set = s k; origin = q.origin k; duration = q.duration k; end = q.end k; height = q.height k }

pub same_task_is : (a b : Task) → same_task a b ≡ true → a ≡ b
unfolding same_task
same_task_is a b h =
    let s = eqb a.set b.set in
    same_but_set a b (and_second s (same_ranges a b) h) (eqb_true a.set b.set (and_first s (same_ranges a b) h))

pub same_task_self : (t : Task) → same_task t t ≡ true
unfolding same_task same_ranges
same_task_self t =
    rw (
      eqb_in t.set t.set refl,
      same_range_self (days_of t.origin),
      same_range_self (days_of t.duration),
      same_range_self (days_of t.end),
      same_range_self (powers_of t.height),
    )

pub same_tasks_self : (ts : List Task) → same_tasks ts ts ≡ true
unfolding same_tasks
same_tasks_self [] = refl
same_tasks_self (t ∷ ts) = rw (same_task_self t) (same_tasks_self ts)

pub same_tasks_is : (ts us : List Task) → same_tasks ts us ≡ true → ts ≡ us
unfolding same_tasks
same_tasks_is [] [] h = refl
same_tasks_is [] (u ∷ us) h = clash false h refl
same_tasks_is (t ∷ ts) [] h = clash false h refl
same_tasks_is (t ∷ ts) (u ∷ us) h =
    ap₂ (λ (x : Task) (xs : List Task). x ∷ xs) (same_task_is t u (and_first (same_task t u) (same_tasks ts us) h))
    (same_tasks_is ts us (and_second (same_task t u) (same_tasks ts us) h))

-- ---- room
pub room_le : (u t : Task) → SubTask u t → Live u → room u ≤ room t
unfolding room
room_le u t h l =
    let a = width_le (days_of u.origin) (days_of t.origin) h.origin l.origin in
    let b = width_le (days_of u.duration) (days_of t.duration) h.duration l.duration in
    let c = width_le (days_of u.end) (days_of t.end) h.end l.end in
    let d = width_le (powers_of u.height) (powers_of t.height) h.height l.height in
    let e = size_le 64 u.set t.set h.set in
    omega arith

pub room_same : (u t : Task) → SubTask u t → Live u → t.set < 2 ^ 64 → room t ≤ room u → u ≡ t
unfolding room
room_same u t h l q g =
    let a = width_le (days_of u.origin) (days_of t.origin) h.origin l.origin in
    let b = width_le (days_of u.duration) (days_of t.duration) h.duration l.duration in
    let c = width_le (days_of u.end) (days_of t.end) h.end l.end in
    let d = width_le (powers_of u.height) (powers_of t.height) h.height l.height in
    let e = size_le 64 u.set t.set h.set in
    let s = sub_le u.set t.set h.set in
    let k = some_place u.set l.set in
    let f = size_some 64 u.set k.0 (omega arith) k.1 in
    let same-origin = width_same (days_of u.origin) (days_of t.origin) h.origin l.origin (omega arith) in
    let same-duration = width_same (days_of u.duration) (days_of t.duration) h.duration l.duration (omega arith) in
    let same_end = width_same (days_of u.end) (days_of t.end) h.end l.end (omega arith) in
    let same-height = width_same (powers_of u.height) (powers_of t.height) h.height l.height (omega arith) in
    let same_set = size_same 64 u.set t.set h.set q (omega arith) in
    λ k. record { set = same_set k; origin = span_of (same-origin k); duration = span_of (same-duration k); end = span_of (same_end k); height = power_span_of (same-height k) }

pub rooms_le : {us ts : List Task} → Subs us ts → Lives us → rooms us ≤ rooms ts
unfolding rooms
rooms_le no_subs nothing = omega arith
rooms_le (more_subs {u} {t} h f) (also l k) = let a = room_le u t h l in let b = rooms_le f k in omega arith

-- a list with as much room is the list itself
pub rooms_same : {us ts : List Task} → Subs us ts → Lives us → Each (TaskFits 64) ts → rooms ts ≤ rooms us → us ≡ ts
unfolding rooms
rooms_same no_subs nothing nothing g = refl
rooms_same (more_subs {u} {t} h f) (also l k) (also q s) g =
    let a = room_le u t h l in
    let b = rooms_le f k in
    ap₂ (λ (x : Task) (xs : List Task). x ∷ xs) (room_same u t h l q.places (omega arith)) (rooms_same f k s (omega arith))

-- a change takes room away
pub rooms_less : {us ts : List Task} → Subs us ts → Lives us → Each (TaskFits 64) ts → same_tasks ts us ≡ false → rooms us < rooms ts
rooms_less {us} {ts} h l s e =
    by_cases (leb (rooms ts) (rooms us))
    (λ b.
    let same = rooms_same h l s (leb→le (rooms ts) (rooms us) (subst T (sym b) tt)) in
    clash (same_tasks ts us) (subst (λ vs. same_tasks ts vs ≡ true) (sym same) (same_tasks_self ts)) e)
    (λ b. nleb→lt (rooms ts) (rooms us) (subst (λ x. T (not x)) (sym b) tt))

-- and less room is a change
pub less_changed : (us ts : List Task) → rooms us < rooms ts → same_tasks ts us ≡ false
less_changed us ts h =
    false_in (same_tasks ts us) (λ e. let q : rooms ts ≡ rooms us = ap rooms (same_tasks_is ts us e) in omega arith)

-- ---- so for every sequence of steps
module _ (f : Frame) (ts us : List Task) (a : check f ts ≡ accepted) (h : Keeps f ts us) where
  pub keeps_rooms : rooms us ≤ rooms ts
  keeps_rooms = rooms_le h.inside (check_live f us h.accepted)

  pub keeps_less : same_tasks ts us ≡ false → rooms us < rooms ts
  keeps_less e = rooms_less h.inside (check_live f us h.accepted) (check_wide f ts a) e

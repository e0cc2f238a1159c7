-- What a step leaves: each new set and range lies inside the old one, and none is empty.
use Rattle.std.specs.Prelude.{Ok, Err}
use Rattle.plan.specs.Refusals.{Narrowed}
use mathlib.Core.Path.{◌≡◌}
use Prim.Native.Nat.{ℕ, ◌^◌}
use mathlib.Core.List.{List, [], ◌∷◌, map}
use mathlib.Core.Bool.{true, false}
use lib.IntN.{ℤ, ◌+ℤ◌, ◌-ℤ◌}
use lib.Signed.{◌≤ℤ◌}
use lib.Dec.{eqb}
use Rattle.integers.specs.Tests.{and, any}
use Rattle.integers.specs.Hull.{Range, Left, left, Sub}
use Rattle.integers.specs.Hull.Left.{Nothing, Some}
use Rattle.integers.proofs.Z.{z, maxz, minz}
use Rattle.integers.proofs.Tests.{if-case, any_out}
use Rattle.integers.proofs.Lists.{each_so}
use Rattle.integers.proofs.Hull.{LeftSub, left_sub, LeftFull, left_full}
use Rattle.plan.specs.declared.Task.{Task}
use Rattle.plan.specs.declared.Value.{Value}
use Rattle.plan.specs.declared.Value.TheVariants.{Origin, Duration, End, Height, Set}
use Rattle.plan.specs.declared.Sense.{Sense}
use Rattle.plan.specs.declared.Sense.TheVariants.{AtMost, AtLeast}
use Rattle.plan.specs.Days.{days_of, cut_below, cut_above, cut_to, empty_span}
use Rattle.plan.specs.Powers.{powers_of}
use Rattle.plan.specs.Sets.{has, without, SubSet}
use Rattle.plan.proofs.Sets.{alone_only, without_has}
use Rattle.rules.specs.Frame.{Frame, floor_at, Floor}
use Rattle.rules.specs.Balance.{Outcome, and_then, each, cuts, unless_empty, balanced, balance}
use Rattle.rules.specs.Balance.Outcome.{NoPlan, Plan}
use Rattle.rules.specs.Step.{or_ran_out, running, shortfall, needed, barred, keeps_origin, keeps_duration, keeps_end, keeps_height, needed_set, kept_set, narrowed, listed_days, at_least_step, negated, negated_plan, negated_floor, sense_step, resource_step}
use Rattle.rules.proofs.Live.{Live, Lives, lives_negated}
use Rattle.integers.specs.Lists.{Each}
use Rattle.integers.specs.Lists.Each.{nothing, also}
use Rattle.rules.proofs.TaskDay.{possible_is, needed_possible}
use Rattle.rules.proofs.Subs.{subs_back}
use Rattle.rules.specs.Keeps.{SubTask, Subs}
use Rattle.rules.specs.Keeps.Subs.{no_subs, more_subs}

abbrev TaskShrunk : Task → Narrowed → Type 0
TaskShrunk t (Err v) = Unit {0}
TaskShrunk t (Ok u) = SubTask u t × Live u

-- what a step, or some in a row, may leave of ts
abbrev pub Shrunk : List Task → Outcome → Type 0
Shrunk ts NoPlan = Unit {0}
Shrunk ts (Plan us) = Subs us ts × Lives us

and_then_shrunk : (t : Task) (ts : List Task) (n : Narrowed) (o : Outcome) → TaskShrunk t n → Shrunk ts o → Shrunk (t ∷ ts) (and_then n o)
and_then_shrunk t ts (Err v) o h g = tt
and_then_shrunk t ts (Ok u) NoPlan h g = tt
and_then_shrunk t ts (Ok u) (Plan us) h g = (more_subs h.0 g.0, also h.1 g.1)

-- a step that takes each task by itself shrinks the list where it shrinks each task
abbrev EachShrunk : (Task → Narrowed) → List Task → Type 0
EachShrunk f ts = Each (λ t. TaskShrunk t (f t)) ts

each_shrunk : (f : Task → Narrowed) {ts : List Task} → EachShrunk f ts → Shrunk ts (each f ts)
unfolding each
each_shrunk f nothing = (no_subs, nothing)
each_shrunk f (also {x = t} {xs = ts} h k) = and_then_shrunk t ts (f t) (each f ts) h (each_shrunk f k)

-- ---- the resource step
left_shrunk : (t : Task) (v : Value) (s : Range) (l : Left) (k : Range → Narrowed) → LeftSub s l → LeftFull l → ((x : Range) → Sub x s → x.low ≤ℤ x.high → TaskShrunk t (k x)) → TaskShrunk t (or_ran_out v l k)
left_shrunk t v s Nothing k h g f = tt
left_shrunk t v s (Some x) k h g f = f x h g

module _ (r : ℕ) (limit : Floor) (ts : List Task) (days : List ℤ) where
  needed_sub : (t : Task) → SubSet (needed_set r limit ts days t) t.set
  unfolding needed_set
  needed_sub t k =
      if-case (λ s. has s k ≡ true → has t.set k ≡ true) (any (needed r limit ts t) days) (2 ^ r) t.set
      (λ n h. let e = any_out (needed r limit ts t) days n in rw (alone_only r k h) (possible_is r e.0 t (needed_possible r e.0 t limit ts e.1)).among)
      (λ n h. h)

  pub kept_sub : (t : Task) → SubSet (kept_set r limit ts days t) t.set
  unfolding kept_set
  kept_sub t k =
      let s = needed_set r limit ts days t in
      if-case (λ s. has s k ≡ true → has t.set k ≡ true) (any (λ i. and (barred r limit ts t i) (running r i t)) days) (without s r) s
      (λ n h. needed_sub t k (without_has s r k h))
      (λ n h. needed_sub t k h)

  narrowed_shrunk : (t : Task) → TaskShrunk t (narrowed r limit ts days t)
  unfolding narrowed
  narrowed_shrunk t =
      let ko = keeps_origin r limit ts days t in
      let kd = keeps_duration r limit ts days t in
      let ke = keeps_end r limit ts days t in
      let kh = keeps_height r limit ts days t in
      let so = days_of t.origin in
      let sd = days_of t.duration in
      let se = days_of t.end in
      let sh = powers_of t.height in
      left_shrunk t Origin so (left ko so) _ (left_sub ko so) (left_full ko so) λ o o-sub o-full.
      left_shrunk t Duration sd (left kd sd) _ (left_sub kd sd) (left_full kd sd) λ d d-sub d-full.
      left_shrunk t End se (left ke se) _ (left_sub ke se) (left_full ke se) λ e e-sub e-full.
      left_shrunk t Height sh (left kh sh) _ (left_sub kh sh) (left_full kh sh) λ h h-sub h-full.
      if-case (TaskShrunk t) (eqb (kept_set r limit ts days t) 0) (Err Set) _ (λ q. tt)
      (λ q. (
        record { set = kept_sub t; origin = o-sub; duration = d-sub; end = e-sub; height = h-sub },
        record { origin = o-full; duration = d-full; end = e-full; height = h-full; set = q },
      ))

  every_shrunk : (us : List Task) → EachShrunk (narrowed r limit ts days) us
  every_shrunk [] = nothing
  every_shrunk (u ∷ us) = also (narrowed_shrunk u) (every_shrunk us)

pub step_shrunk : (r : ℕ) (limit : Floor) (ts : List Task) → Shrunk ts (at_least_step r limit ts)
unfolding at_least_step
step_shrunk r limit ts =
    if-case (Shrunk ts) (any (shortfall r limit ts) (listed_days ts)) NoPlan (each (narrowed r limit ts (listed_days ts)) ts) (λ e. tt)
    (λ e. each_shrunk (narrowed r limit ts (listed_days ts)) (every_shrunk r limit ts (listed_days ts) ts))

negated_shrunk : (ts : List Task) (o : Outcome) → Shrunk (map negated ts) o → Shrunk ts (negated_plan o)
negated_shrunk ts NoPlan h = tt
negated_shrunk ts (Plan us) h = (subs_back ts us h.0, lives_negated h.1)

sense_step_shrunk : (sense : Sense) (r : ℕ) (limit : Floor) (ts : List Task) → Shrunk ts (sense_step sense r limit ts)
unfolding sense_step
sense_step_shrunk AtLeast r limit ts = step_shrunk r limit ts
sense_step_shrunk AtMost r limit ts =
    negated_shrunk ts (at_least_step r (negated_floor limit) (map negated ts)) (step_shrunk r (negated_floor limit) (map negated ts))

pub resource_step_shrunk : (f : Frame) (r : ℕ) (ts : List Task) → Shrunk ts (resource_step f r ts)
unfolding resource_step
resource_step_shrunk f r ts = sense_step_shrunk f.sense r (floor_at f r) ts

-- ---- balance
cuts_sub : (t : Task) → SubTask (cuts t) t
unfolding cuts cut_to cut_above cut_below
cuts_sub t =
    let ol = t.origin.low.0 in
    let oh = t.origin.high.0 in
    let dl = t.duration.low.0 in
    let dh = t.duration.high.0 in
    let el = t.end.low.0 in
    let eh = t.end.high.0 in
    record {
      set = λ k h. h;
      origin = omega (z, maxz ol (el -ℤ dh), minz oh (eh -ℤ dl));
      duration = omega (z, maxz dl (el -ℤ oh), minz dh (eh -ℤ ol));
      end = omega (z, maxz el (ol +ℤ dl), minz eh (oh +ℤ dh));
      height = omega z;
    }

cuts_height : (t : Task) → Live t → (cuts t).height.low.0 ≤ℤ (cuts t).height.high.0
unfolding cuts
cuts_height t l = l.height

cuts_set : (t : Task) → Live t → eqb (cuts t).set 0 ≡ false
unfolding cuts
cuts_set t l = l.set

unless_shrunk : (t u : Task) → SubTask u t → u.height.low.0 ≤ℤ u.height.high.0 → eqb u.set 0 ≡ false → TaskShrunk t (unless_empty u)
unfolding unless_empty
unless_shrunk t u h p s =
    if-case (TaskShrunk t) (empty_span u.origin) (Err Origin) _ (λ e. tt)
    (λ a.
    if-case (TaskShrunk t) (empty_span u.duration) (Err Duration) _ (λ e. tt)
    (λ b.
    if-case (TaskShrunk t) (empty_span u.end) (Err End) (Ok u) (λ e. tt)
    (λ c. (h, record { origin = omega z; duration = omega z; end = omega z; height = p; set = s }))))

balanced_shrunk : (t : Task) → Live t → TaskShrunk t (balanced t)
unfolding balanced
balanced_shrunk t l = unless_shrunk t (cuts t) (cuts_sub t) (cuts_height t l) (cuts_set t l)

pub balance_shrunk : {ts : List Task} → Lives ts → Shrunk ts (balance ts)
unfolding balance
balance_shrunk l = each_shrunk balanced (each_so balanced_shrunk l)

-- ---- one after another

-- How large the numbers of an answer get: a pass count is far below 2^32, and the place of a refusal by the entry checks is below 256.
use Rattle.std.specs.Prelude.{Ok, Err}
use mathlib.Core.Path.{◌≡◌, refl, subst}
use mathlib.Core.Logic.{◌≢◌}
use mathlib.Core.Bool.{Bool, true, false, not}
use mathlib.Core.List.{List, [], ◌∷◌}
use Prim.Native.Nat.{ℕ, zero, suc, ◌+◌, ◌-◌, ◌*◌, ◌/◌, ◌^◌, ◌≤◌, ◌<◌}
use native.Mathlib.Omega.{arith}
use lib.IntN.{ℤ, ◌-ℤ◌, nat_abs}
use lib.Dec.{eqb, ltb}
use lib.ListN.{length}
use borrow.Author.Tests.{ltb-true, ltb-false, not-false}
use Rattle.integers.specs.Whole.{eq_z}
use Rattle.integers.specs.Tests.{and, or, any}
use Rattle.integers.specs.Hull.{Range, within}
use Rattle.integers.specs.Lists.{Each}
use Rattle.integers.specs.Lists.Each.{nothing, also}
use Rattle.integers.proofs.Z.{z}
use Rattle.integers.proofs.Tests.{clash, by_cases, and_first, or_second}
use Rattle.integers.proofs.Hull.{width_most}
use Rattle.plan.specs.declared.Task.{Task}
use Rattle.plan.specs.declared.Resource.{Resource}
use Rattle.plan.specs.declared.Band.{Band}
use Rattle.plan.specs.declared.Refusal.{Refusal}
use Rattle.plan.specs.declared.Refusal.TheVariants.{TooManyTasks, ResourceCount, RepeatedIdentifier, LimitOutside, RangeOutside, SetOutside, BandOutside}
use Rattle.plan.specs.Refusals.{number, place, Checked, accepted}
use Rattle.plan.specs.Days.{days_of, day_ends, duration_ends}
use Rattle.plan.specs.Powers.{powers_of, power_ends}
use Rattle.plan.specs.Sets.{size}
use Rattle.plan.specs.Tasks.{most_tasks, most_resources, most_bands, Bounded, TaskFits}
use Rattle.rules.specs.Frame.{Frame, resource_count}
use Rattle.rules.specs.Settle.{room, rooms, settle}
use Rattle.rules.specs.Settle.Settled.{After}
use Rattle.rules.specs.Calls.{or_else, refuse_if, ranges_fit, set_fits, tasks_fit, check, repeats, limits, earlier, band_fits, bands_after, bands_fit}
use Rattle.rules.proofs.Checks.{accepts}
use Rattle.rules.proofs.Theorems.{settle_bound}

-- ---- the room of a task that passes the checks
pub size_most : (m s : ℕ) → size m s ≤ m
unfolding size
size_most zero s = omega arith
size_most (suc m) s = let a = size_most m (s / 2) in omega arith

-- how far apart the ends are
abbrev apart : Range → ℕ
apart e = nat_abs (e.high -ℤ e.low)

-- origin and end, duration, height, and for a set its 64 places less one, whatever the list of resources
abbrev pub most_room : ℕ
most_room = apart day_ends + apart duration_ends + apart day_ends + apart power_ends + 63

room_most : (t : Task) → Bounded t → room t ≤ most_room
unfolding room
room_most t h =
    let o = width_most day_ends (days_of t.origin) (apart day_ends) (omega z) h.origin in
    let d = width_most duration_ends (days_of t.duration) (apart duration_ends) (omega z) h.duration in
    let n = width_most day_ends (days_of t.end) (apart day_ends) (omega z) h.end in
    let p = width_most power_ends (powers_of t.height) (apart power_ends) (omega z) h.height in
    let s = size_most 64 t.set in
    omega (arith, o, d, n, p, s)

each_most : (n : ℕ) {ts : List Task} → Each (TaskFits n) ts → rooms ts ≤ length ts * most_room
unfolding rooms
each_most n nothing = omega arith
each_most n (also {x = t} h f) = let a = room_most t h.ranges in let b = each_most n f in omega arith

-- ---- the pass count
module _ (f : Frame) (ts : List Task) (ok : check f ts ≡ accepted) where
  pub rooms_most : rooms ts ≤ most_tasks * most_room
  rooms_most =
      let b = each_most (resource_count f) (accepts f ts ok).tasks in
      let c = (accepts f ts ok).few in
      omega arith

  pub settle_most : (k : ℕ) (us : List Task) → settle f ts ≡ After k us → k ≤ most_tasks * most_room + 1
  settle_most k us e =
      let a = (settle_bound f ts ok k us e).0 in
      let b = rooms_most in
      omega arith

  -- so it is a number of 32 bits
  pub settle_small : (k : ℕ) (us : List Task) → settle f ts ≡ After k us → k < 2 ^ 32
  settle_small k us e = let a = settle_most k us e in omega arith

-- ---- the place of a refusal of the checks, where there is one, is at most b, and its number is not 7
module _ (b : ℕ) where
  abbrev pub PlaceIn : Refusal → Type 0
  PlaceIn f = (place f ≤ b) × (number f ≢ 7)

  abbrev pub PlacedTo : Checked → Type 0
  PlacedTo (Ok _) = Unit {0}
  PlacedTo (Err f) = PlaceIn f

  pub placed_then : (a c : Checked) → PlacedTo a → (a ≡ accepted → PlacedTo c) → PlacedTo (or_else a c)
  placed_then (Ok _) c h g = g refl
  placed_then (Err f) c h g = h

  pub placed_if : (t : Bool) (f : Refusal) → PlaceIn f → PlacedTo (refuse_if t f)
  placed_if true f h = h
  placed_if false f h = tt

  pub placed_unless : (t : Bool) (f : Refusal) (c : Checked) → PlaceIn f → (t ≡ false → PlacedTo c) → PlacedTo (or_else (refuse_if t f) c)
  placed_unless true f c h g = h
  placed_unless false f c h g = g refl

  placed_is : (c : Checked) (f : Refusal) → PlacedTo c → c ≡ Err f → PlaceIn f
  placed_is c f h e = subst PlacedTo e h

pub placed_more : (a b : ℕ) → a ≤ b → (c : Checked) → PlacedTo a c → PlacedTo b c
placed_more a b l (Ok _) h = tt
placed_more a b l (Err f) h = (let p = h.0 in omega arith, h.1)

-- counted from k, each place is one of the list
repeats_placed : (b k : ℕ) (seen : List ℤ) (qs : List Resource) → k + length qs ≤ suc b → PlacedTo b (repeats k seen qs)
unfolding repeats
repeats_placed b k seen [] l = tt
repeats_placed b k seen (q ∷ qs) l =
    placed_unless b (any (eq_z q.id) seen) (RepeatedIdentifier k) (repeats (suc k) (q.id ∷ seen) qs) (omega arith)
    (λ e. repeats_placed b (suc k) (q.id ∷ seen) qs (omega arith))

limits_placed : (b k : ℕ) (qs : List Resource) → k + length qs ≤ suc b → PlacedTo b (limits k qs)
unfolding limits
limits_placed b k [] l = tt
limits_placed b k (q ∷ qs) l =
    placed_unless b (not (within power_ends q.limit.0)) (LimitOutside k) (limits (suc k) qs) (omega arith)
    (λ e. limits_placed b (suc k) qs (omega arith))

tasks_placed : (b n k : ℕ) (ts : List Task) → k + length ts ≤ suc b → PlacedTo b (tasks_fit n k ts)
unfolding tasks_fit
tasks_placed b n k [] l = tt
tasks_placed b n k (t ∷ ts) l =
    placed_unless b (not (ranges_fit t)) (RangeOutside k) (or_else (refuse_if (not (set_fits n t)) (SetOutside k)) (tasks_fit n (suc k) ts)) (omega arith)
    (λ e. placed_unless b (not (set_fits n t)) (SetOutside k) (tasks_fit n (suc k) ts) (omega arith) (λ f. tasks_placed b n (suc k) ts (omega arith)))

-- a band is named up to the 65th, and none after it
bands_after_placed : (b n k : ℕ) (a : Band) (bs : List Band) → k ≤ most_bands → most_bands ≤ b → PlacedTo b (bands_after n k a bs)
unfolding bands_after
bands_after_placed b n k a [] l m = tt
bands_after_placed b n k a (x ∷ bs) l m =
    let fit = and (earlier a x) (band_fits n x) in
    placed_unless b (not (and (ltb k most_bands) fit)) (BandOutside k) (bands_after n (suc k) x bs) (omega arith) λ e.
    let few = ltb-true k most_bands (and_first (ltb k most_bands) fit (not-false (and (ltb k most_bands) fit) e)) in
    bands_after_placed b n (suc k) x bs (omega arith) m

bands_placed : (b n : ℕ) (bs : List Band) → most_bands ≤ b → PlacedTo b (bands_fit n bs)
unfolding bands_fit
bands_placed b n [] m = tt
bands_placed b n (x ∷ bs) m =
    placed_unless b (not (band_fits n x)) (BandOutside 0) (bands_after n 1 x bs) (omega arith) λ e. bands_after_placed b n 1 x bs (omega arith) m

-- the last place that a plan can name
abbrev pub last_place : ℕ
last_place = most_tasks - 1

-- lists of any length: too many tasks or resources are refused before any place of them is named, and of bands none past the 65th is named
pub check_placed : (f : Frame) (ts : List Task) → PlacedTo last_place (check f ts)
unfolding check
check_placed f ts =
    let qs = f.resources in
    let n = resource_count f in
    let none = eqb n 0 in
    let more = ltb most_resources n in
    let last = or_else (bands_fit n f.bands) (tasks_fit n 0 ts) in
    let rest = or_else (limits 0 qs) last in
    placed_unless last_place (ltb most_tasks (length ts)) TooManyTasks (or_else (refuse_if (or none more) ResourceCount) (or_else (repeats 0 [] qs) rest)) (omega arith) λ m.
    placed_unless last_place (or none more) ResourceCount (or_else (repeats 0 [] qs) rest) (omega arith) λ c.
    let few-tasks = ltb-false most_tasks (length ts) m in
    let few = ltb-false most_resources n (by_cases more (λ e. clash (or none more) (or_second none more e) c) (λ e. e)) in
    placed_then last_place (repeats 0 [] qs) rest (repeats_placed last_place 0 [] qs (omega (arith, few))) λ r.
    placed_then last_place (limits 0 qs) last (limits_placed last_place 0 qs (omega (arith, few))) λ s.
    placed_then last_place (bands_fit n f.bands) (tasks_fit n 0 ts) (bands_placed last_place n f.bands (omega arith)) λ t.
    tasks_placed last_place n 0 ts (omega (arith, few-tasks))

pub check_place : (f : Frame) (ts : List Task) (e : Refusal) → check f ts ≡ Err e → place e ≤ last_place
check_place f ts e h = (placed_is last_place (check f ts) e (check_placed f ts) h).0

-- the entry checks never say "no plan"
pub check_number : (f : Frame) (ts : List Task) (e : Refusal) → check f ts ≡ Err e → number e ≢ 7
check_number f ts e h = (placed_is last_place (check f ts) e (check_placed f ts) h).1

-- What the entry checks say of an accepted plan, and that a plan inside an accepted one is accepted again.
use Rattle.std.specs.Prelude.{Ok, Err}
use Rattle.plan.specs.Refusals.{Checked, accepted}
use mathlib.Core.Path.{◌≡◌, refl, sym, ◌∙◌}
use Prim.Native.Nat.{ℕ, zero, suc, ◌≤◌, ◌<◌}
use native.Mathlib.Omega.{arith}
use native.Mathlib.Nat.{not-suc-le-zero, le_of_suc-le-suc}
use mathlib.Core.List.{List, [], ◌∷◌}
use mathlib.Core.Bool.{Bool, true, false, not}
use lib.Dec.{eqb, ltb}
use lib.ListN.{length, get_or}
use lib.IntN.{ℤ}
use lib.Signed.{◌≤ℤ◌}
use borrow.Author.Tests.{ltb-false, eqb-false, not-false}
use Rattle.integers.specs.Tests.{or, all}
use Rattle.integers.proofs.Tests.{or_none}
use Rattle.integers.specs.Hull.{Range, within, Sub}
use Rattle.integers.specs.Ends.{InEnds, Within}
use Rattle.integers.specs.Lists.{Each}
use Rattle.integers.specs.Lists.Each.{nothing, also}
use Rattle.integers.proofs.Z.{z}
use Rattle.integers.proofs.Hull.{within_is}
use Rattle.integers.proofs.Lists.{each_so}
use Rattle.plan.specs.declared.Task.{Task}
use Rattle.plan.specs.declared.Resource.{Resource}
use Rattle.plan.specs.declared.Band.{Band}
use Rattle.plan.specs.declared.Sense.{Sense}
use Rattle.plan.specs.declared.Refusal.{Refusal}
use Rattle.plan.specs.declared.Refusal.TheVariants.{TooManyTasks, ResourceCount, LimitOutside, RangeOutside, SetOutside}
use Rattle.plan.specs.Days.{days_of, day_ends, duration_ends}
use Rattle.plan.specs.Powers.{powers_of, power_ends}
use Rattle.plan.specs.Tasks.{most_tasks, most_resources, most_bands, no_resource, TaskFits}
use Rattle.plan.proofs.Sets.{sub_le}
use Rattle.rules.specs.Frame.{Frame, framed, resource_count, resource_at, limit_on}
use Rattle.rules.specs.Calls.{or_else, refuse_if, ranges_fit, set_fits, tasks_fit, check, repeats, limits, band_fits, bands_fit}
use Rattle.rules.specs.Rises.{Banded}
use Rattle.rules.proofs.Bands.{check_few, check_all, check_banded, limit_ends}
use Rattle.rules.proofs.Fits.{task_fits_is, fits_wide, bounded_in, set_fits_in}
use Rattle.rules.proofs.Live.{Live, Lives, live_fits}
use Rattle.rules.proofs.Subs.{subs_length}
use Rattle.rules.specs.Keeps.{SubTask, Subs}
use Rattle.rules.specs.Keeps.Subs.{no_subs, more_subs}

-- ---- one check after another
no_refusal : {P : Type 0} (f : Refusal) → Err f ≡ accepted → P
no_refusal f h = let q : ◌≡◌ {A = ℕ} 0 1 = cc in absurd (omega arith)

-- past one check, and past all of a kind
pub past : (b : Bool) (f : Refusal) (c : Checked) → or_else (refuse_if b f) c ≡ accepted → (b ≡ false) × (c ≡ accepted)
past true f c h = no_refusal f h
past false f c h = (refl, h)

pub past_all : (a c : Checked) → or_else a c ≡ accepted → (a ≡ accepted) × (c ≡ accepted)
past_all (Ok _) c h = (refl, h)
past_all (Err f) c h = no_refusal f h

-- ---- the tasks and the limits
tasks_fit_is : (n k : ℕ) (ts : List Task) → tasks_fit n k ts ≡ accepted → Each (TaskFits n) ts
unfolding tasks_fit
tasks_fit_is n k [] h = nothing
tasks_fit_is n k (t ∷ ts) h =
    let c = or_else (refuse_if (not (set_fits n t)) (SetOutside k)) (tasks_fit n (suc k) ts) in
    let a = past (not (ranges_fit t)) (RangeOutside k) c h in
    let b = past (not (set_fits n t)) (SetOutside k) (tasks_fit n (suc k) ts) a.1 in
    also (task_fits_is n t (not-false (ranges_fit t) a.0) (not-false (set_fits n t) b.0)) (tasks_fit_is n (suc k) ts b.1)

tasks_fit_in : (n k : ℕ) {ts : List Task} → Each (TaskFits n) ts → tasks_fit n k ts ≡ accepted
unfolding tasks_fit
tasks_fit_in n k nothing = refl
tasks_fit_in n k (also {x = t} h f) = rw (bounded_in t h.ranges, set_fits_in n t h) (tasks_fit_in n (suc k) f)

limits_is : (k j : ℕ) (qs : List Resource) → limits k qs ≡ accepted → j < length qs → Within power_ends (get_or qs j no_resource).limit.0
unfolding limits
limits_is k j [] h l = absurd (not-suc-le-zero l)
limits_is k zero (q ∷ qs) h l =
    within_is power_ends q.limit.0
    (not-false (within power_ends q.limit.0) (past (not (within power_ends q.limit.0)) (LimitOutside k) (limits (suc k) qs) h).0)
limits_is k (suc j) (q ∷ qs) h l =
    limits_is (suc k) j qs (past (not (within power_ends q.limit.0)) (LimitOutside k) (limits (suc k) qs) h).1 (le_of_suc-le-suc l)

-- ---- what is known of a plan that is accepted
pub record Accepts (f : Frame) (ts : List Task) : Type 0 where
  pub few : length ts ≤ most_tasks
  pub some : 0 < resource_count f
  pub most : resource_count f ≤ most_resources
  pub limits : (r : ℕ) → r < resource_count f → Within power_ends (resource_at f r).limit.0
  pub few_bands : length f.bands ≤ most_bands
  pub placed : all (band_fits (resource_count f)) f.bands ≡ true
  pub banded : (r : ℕ) → Banded r f.bands
  pub tasks : Each (TaskFits (resource_count f)) ts

-- the frame's own checks, beside the tasks'
record Parts (f : Frame) (ts : List Task) : Type 0 where
  few : ltb most_tasks (length ts) ≡ false
  count : or (eqb (resource_count f) 0) (ltb most_resources (resource_count f)) ≡ false
  limits : limits 0 f.resources ≡ accepted
  bands : bands_fit (resource_count f) f.bands ≡ accepted
  tasks : tasks_fit (resource_count f) 0 ts ≡ accepted

parts : (f : Frame) (ts : List Task) → check f ts ≡ accepted → Parts f ts
unfolding check
parts f ts h =
    let n = resource_count f in
    let tasks = tasks_fit n 0 ts in
    let last = or_else (bands_fit n f.bands) tasks in
    let rest = or_else (repeats 0 [] f.resources) (or_else (limits 0 f.resources) last) in
    let a = past (ltb most_tasks (length ts)) TooManyTasks (or_else (refuse_if (or (eqb n 0) (ltb most_resources n)) ResourceCount) rest) h in
    let b = past (or (eqb n 0) (ltb most_resources n)) ResourceCount rest a.1 in
    let c = past_all (limits 0 f.resources) last (past_all (repeats 0 [] f.resources) (or_else (limits 0 f.resources) last) b.1).1 in
    let d = past_all (bands_fit n f.bands) tasks c.1 in
    record { few = a.0; count = b.0; limits = c.0; bands = d.0; tasks = d.1 }

module _ (f : Frame) (ts : List Task) (h : check f ts ≡ accepted) where
  pub accepts : Accepts f ts
  accepts =
      let n = resource_count f in
      let p = parts f ts h in
      let e = or_none (eqb n 0) (ltb most_resources n) p.count in
      record {
        few = ltb-false most_tasks (length ts) p.few;
        some = omega (arith, eqb-false n 0 e.0);
        most = ltb-false most_resources n e.1;
        limits = λ r l. limits_is 0 r f.resources p.limits l;
        few_bands = check_few n f.bands p.bands;
        placed = check_all n f.bands p.bands;
        banded = check_banded n f.bands p.bands;
        tasks = tasks_fit_is n 0 ts p.tasks;
      }

  -- the limit of every day lies within its ends
  pub check_limits : (r : ℕ) → r < resource_count f → (i : ℤ) → Within power_ends (limit_on f r i)
  unfolding limit_on
  check_limits r l i = limit_ends r (resource_at f r).limit.0 f.bands (accepts.banded r).ends (accepts.limits r l) i

  pub check_live : Lives ts
  check_live = each_so (live_fits (resource_count f)) accepts.tasks

  -- and a set of u64 holds every place
  pub check_wide : Each (TaskFits 64) ts
  check_wide = each_so (fits_wide (resource_count f) 64 (let m = accepts.most in omega arith)) accepts.tasks

-- ---- a plan inside an accepted one
ends_kept : (e s u : Range) → Sub u s → u.low ≤ℤ u.high → InEnds e s → InEnds e u
ends_kept e s u h l k = omega z

task_kept : (n : ℕ) (t u : Task) → SubTask u t → Live u → TaskFits n t → TaskFits n u
task_kept n t u h l k =
    let b = k.ranges in
    let s = k.places in
    let le = sub_le u.set t.set h.set in
    record {
      ranges =
          record {
            origin = ends_kept day_ends (days_of t.origin) (days_of u.origin) h.origin l.origin b.origin;
            duration = ends_kept duration_ends (days_of t.duration) (days_of u.duration) h.duration l.duration b.duration;
            end = ends_kept day_ends (days_of t.end) (days_of u.end) h.end l.end b.end;
            height = ends_kept power_ends (powers_of t.height) (powers_of u.height) h.height l.height b.height;
          };
      some = omega (arith, eqb-false u.set 0 l.set);
      places = omega arith;
    }

tasks_kept : (n : ℕ) {us ts : List Task} → Subs us ts → Lives us → Each (TaskFits n) ts → Each (TaskFits n) us
tasks_kept n no_subs nothing nothing = nothing
tasks_kept n (more_subs {u} {t} h f) (also l k) (also a b) = also (task_kept n t u h l a) (tasks_kept n f k b)

check_same : (f : Frame) (us ts : List Task) → length us ≡ length ts → tasks_fit (resource_count f) 0 us ≡ tasks_fit (resource_count f) 0 ts → check f us ≡ check f ts
unfolding check
check_same f us ts a b = rw (a, b)

-- with nothing empty, it is accepted again
pub check_kept : (f : Frame) (ts : List Task) → check f ts ≡ accepted → (us : List Task) → Subs us ts → Lives us → check f us ≡ accepted
check_kept f ts h us s l =
    let n = resource_count f in
    let a = (accepts f ts h).tasks in
    check_same f us ts (subs_length s) (tasks_fit_in n 0 (tasks_kept n s l a) ∙ sym (tasks_fit_in n 0 a)) ∙ h

-- the entry checks know no sense
pub check_sense : (a b : Sense) (qs : List Resource) (bs : List Band) (ts : List Task) → check (framed a qs bs) ts ≡ check (framed b qs bs) ts
unfolding check
check_sense a b qs bs ts = refl

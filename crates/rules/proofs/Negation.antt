-- "Sense at most is the same with every height and limit negated and each height's two ends swapped; it is proved once, over the
-- negation": negating twice is nothing, balance, room and the entry checks don't see it, and so a step, a pass and settling of the negated
-- plan are those of the plan, negated, after as many passes.
use Rattle.std.specs.Prelude.{Ok, Err}
use Rattle.plan.specs.Refusals.{Checked, Narrowed}
use mathlib.Core.Path.{◌≡◌, refl, sym, ap, ap₂, ◌∙◌}
use Prim.Native.Nat.{ℕ, zero, suc, ◌+◌}
use mathlib.Core.List.{List, [], ◌∷◌, map}
use mathlib.Core.Bool.{not}
use lib.IntN.{ℤ, neg_ℤ, ◌-ℤ◌, nat_abs}
use lib.ListN.{get_or, length-map}
use Rattle.integers.specs.Whole.{eq_z}
use Rattle.integers.specs.Tests.{and}
use Rattle.integers.specs.Hull.{range, within, fits, same_range, width}
use Rattle.integers.proofs.Z.{z, -z, ~z, eq_z_in, eq_z_is, negneg}
use Rattle.integers.proofs.Tests.{by_cases, same_test, and_first, and_second, and_in}
use Rattle.integers.proofs.Hull.{within_is, within_in, fits_is, fits_in}
use Rattle.plan.specs.declared.Span.{Span}
use Rattle.plan.specs.declared.Power.{Power}
use Rattle.plan.specs.declared.Task.{Task}
use Rattle.plan.specs.declared.Resource.{Resource}
use Rattle.plan.specs.declared.Band.{Band}
use Rattle.plan.specs.declared.Call.{Call}
use Rattle.plan.specs.declared.Call.TheVariants.{Check, Balance, Step, Pass, Settle, Within, MostPasses}
use Rattle.plan.specs.declared.Refusal.TheVariants.{NoSuchResource}
use Rattle.plan.specs.declared.Sense.{Sense}
use Rattle.plan.specs.declared.Sense.TheVariants.{AtMost, AtLeast}
use Rattle.plan.specs.Days.{empty_span}
use Rattle.plan.specs.Powers.{power, power_ends, powers_of, negated_powers}
use Rattle.plan.specs.Tasks.{no_resource}
use Rattle.rules.specs.Frame.{Frame, resource_count, resource_at, places_from, places, limit_from, limit_on, Floor, floor, floor_at}
use Rattle.rules.specs.Balance.{Outcome, and_then, each, cuts, unless_empty, balanced, balance}
use Rattle.rules.specs.Balance.Outcome.{NoPlan, Plan}
use Rattle.rules.specs.Step.{negated, negated_plan, negated_floor, at_least_step, sense_step, resource_step}
use Rattle.rules.specs.Settle.{then, steps, pass, same_ranges, same_task, same_tasks, Settled, one_pass_more, unless_same, settle_within, settle, room, rooms}
use Rattle.rules.specs.Settle.Settled.{Refused, After, Unsettled}
use Rattle.rules.specs.Calls.{or_else, refuse_if, repeats, limits, ranges_fit, set_fits, tasks_fit, earlier, band_ends, band_fits, bands_after, bands_fit, check, Result, unless_refused, stepped, settled, placed_in, answered, call_of}
use Rattle.rules.specs.Negation.{opposite, negated_resource, negated_band, negated_frame, negated_settled, negated_result}
use Rattle.rules.proofs.Bands.{limit_bands_negated}

abbrev pub negated_task : Narrowed → Narrowed
negated_task (Ok t) = Ok (negated t)
negated_task (Err v) = Err v

-- ---- twice is nothing
pub powers_back : (s : Span Power) → negated_powers (negated_powers s) ≡ s
unfolding negated_powers
powers_back s = ap₂ (λ (x y : ℤ). record { low = power x; high = power y }) (negneg s.low.0) (negneg s.high.0)

pub negated_back : (t : Task) → negated (negated t) ≡ t
unfolding negated
negated_back t =
    ap (λ (h : Span Power). record { set = t.set; origin = t.origin; duration = t.duration; end = t.end; height = h })
    (powers_back t.height)

pub negateds_back : (ts : List Task) → map negated (map negated ts) ≡ ts
negateds_back [] = refl
negateds_back (t ∷ ts) = ap₂ (λ (x : Task) (xs : List Task). x ∷ xs) (negated_back t) (negateds_back ts)

pub resources_back : (qs : List Resource) → map negated_resource (map negated_resource qs) ≡ qs
unfolding negated_resource
resources_back [] = refl
resources_back (q ∷ qs) =
    ap₂ (λ (x : ℤ) (xs : List Resource). record { id = q.id; limit = power x; kind = q.kind } ∷ xs) (negneg q.limit.0) (resources_back qs)

pub bands_back : (bs : List Band) → map negated_band (map negated_band bs) ≡ bs
unfolding negated_band
bands_back [] = refl
bands_back (b ∷ bs) =
    ap₂ (λ (x : ℤ) (xs : List Band). record { place = b.place; from = b.from; limit = power x } ∷ xs) (negneg b.limit.0) (bands_back bs)

pub plan_back : (o : Outcome) → negated_plan (negated_plan o) ≡ o
plan_back NoPlan = refl
plan_back (Plan ts) = ap Plan (negateds_back ts)

-- ---- balance does not look at heights
and_then_negated : (n : Narrowed) (o : Outcome) → and_then (negated_task n) (negated_plan o) ≡ negated_plan (and_then n o)
and_then_negated (Err v) o = refl
and_then_negated (Ok t) NoPlan = refl
and_then_negated (Ok t) (Plan ts) = refl

pub each_negated : (f g : Task → Narrowed) → ((t : Task) → f (negated t) ≡ negated_task (g t)) → (ts : List Task) → each f (map negated ts) ≡ negated_plan (each g ts)
unfolding each
each_negated f g h [] = refl
each_negated f g h (t ∷ ts) = ap₂ and_then (h t) (each_negated f g h ts) ∙ and_then_negated (g t) (each g ts)

cuts_negated : (t : Task) → cuts (negated t) ≡ negated (cuts t)
unfolding cuts negated
cuts_negated t = refl

unless_negated : (t : Task) → unless_empty (negated t) ≡ negated_task (unless_empty t)
unfolding unless_empty negated
unless_negated t =
    by_cases (empty_span t.origin) (λ a. rw a)
    (λ a.
    by_cases (empty_span t.duration) (λ b. rw (a, b))
    (λ b. by_cases (empty_span t.end) (λ c. rw (a, b, c)) (λ c. rw (a, b, c))))

pub balanced_negated : (t : Task) → balanced (negated t) ≡ negated_task (balanced t)
unfolding balanced
balanced_negated t = ap unless_empty (cuts_negated t) ∙ unless_negated (cuts t)

pub balance_negated : (ts : List Task) → balance (map negated ts) ≡ negated_plan (balance ts)
unfolding balance
balance_negated ts = each_negated balanced balanced balanced_negated ts

-- ---- one step, in either sense
sense_step_negated : (sense : Sense) (r : ℕ) (limit : Floor) (ts : List Task) → sense_step (opposite sense) r (negated_floor limit) (map negated ts) ≡ negated_plan (sense_step sense r limit ts)
unfolding sense_step
sense_step_negated AtLeast r limit ts =
    ap₂ (λ (on : ℤ → ℤ) (us : List Task). negated_plan (at_least_step r (record { on = on; held = limit.held }) us)) (λ k i. negneg (limit.on i) k)
    (negateds_back ts)
sense_step_negated AtMost r limit ts = sym (plan_back (at_least_step r (negated_floor limit) (map negated ts)))

limit_negated : (qs : List Resource) (r : ℕ) → (get_or (map negated_resource qs) r no_resource).limit.0 ≡ neg_ℤ (get_or qs r no_resource).limit.0
unfolding negated_resource no_resource
limit_negated [] r = refl
limit_negated (q ∷ qs) zero = refl
limit_negated (q ∷ qs) (suc r) = limit_negated qs r

limit_on_negated : (f : Frame) (r : ℕ) (i : ℤ) → limit_on (negated_frame f) r i ≡ neg_ℤ (limit_on f r i)
unfolding limit_on
limit_on_negated f r i =
    ap (λ (x : ℤ). limit_from r x (map negated_band f.bands) i) (limit_negated f.resources r)
    ∙ limit_bands_negated r (resource_at f r).limit.0 f.bands i

kind_negated : (qs : List Resource) (r : ℕ) → (get_or (map negated_resource qs) r no_resource).kind ≡ (get_or qs r no_resource).kind
unfolding negated_resource no_resource
kind_negated [] r = refl
kind_negated (q ∷ qs) zero = refl
kind_negated (q ∷ qs) (suc r) = kind_negated qs r

floor_negated : (f : Frame) (r : ℕ) → floor_at (negated_frame f) r ≡ negated_floor (floor_at f r)
floor_negated f r = ap₂ floor (kind_negated f.resources r) (λ k i. limit_on_negated f r i k)

pub step_negated : (f : Frame) (r : ℕ) (ts : List Task) → resource_step (negated_frame f) r (map negated ts) ≡ negated_plan (resource_step f r ts)
unfolding resource_step
step_negated f r ts =
    ap (λ (limit : Floor). sense_step (opposite f.sense) r limit (map negated ts)) (floor_negated f r)
    ∙ sense_step_negated f.sense r (floor_at f r) ts

-- ---- a pass
then_negated : (o : Outcome) (k k' : List Task → Outcome) → ((us : List Task) → k (map negated us) ≡ negated_plan (k' us)) → then (negated_plan o) k ≡ negated_plan (then o k')
then_negated NoPlan k k' h = refl
then_negated (Plan us) k k' h = h us

steps_negated : (f : Frame) (rs : List ℕ) (ts : List Task) → steps (negated_frame f) rs (map negated ts) ≡ negated_plan (steps f rs ts)
unfolding steps
steps_negated f [] ts = refl
steps_negated f (r ∷ rs) ts =
    ap (λ (o : Outcome). then o (steps (negated_frame f) rs)) (step_negated f r ts)
    ∙ then_negated (resource_step f r ts) (steps (negated_frame f) rs) (steps f rs) (steps_negated f rs)

places_negated : (f : Frame) → places (negated_frame f) ≡ places f
unfolding places
places_negated f = ap (places_from 0) (length-map f.resources negated_resource)

pub pass_negated : (f : Frame) (ts : List Task) → pass (negated_frame f) (map negated ts) ≡ negated_plan (pass f ts)
unfolding pass
pass_negated f ts =
    ap₂ (λ (o : Outcome) (rs : List ℕ). then o (steps (negated_frame f) rs)) (balance_negated ts) (places_negated f)
    ∙ then_negated (balance ts) (steps (negated_frame f) (places f)) (steps f (places f)) (steps_negated f (places f))

-- ---- settling, after as many passes
same_powers : (s u : Span Power) → same_range (powers_of (negated_powers s)) (powers_of (negated_powers u)) ≡ same_range (powers_of s) (powers_of u)
unfolding same_range negated_powers
same_powers s u =
    let a = s.low.0 in
    let b = s.high.0 in
    let c = u.low.0 in
    let d = u.high.0 in
    same_test (and (eq_z (neg_ℤ b) (neg_ℤ d)) (eq_z (neg_ℤ a) (neg_ℤ c))) (and (eq_z a c) (eq_z b d))
    (λ h.
    let x = eq_z_is (neg_ℤ b) (neg_ℤ d) (and_first (eq_z (neg_ℤ b) (neg_ℤ d)) (eq_z (neg_ℤ a) (neg_ℤ c)) h) in
    let y = eq_z_is (neg_ℤ a) (neg_ℤ c) (and_second (eq_z (neg_ℤ b) (neg_ℤ d)) (eq_z (neg_ℤ a) (neg_ℤ c)) h) in
    and_in (eq_z a c) (eq_z b d) (eq_z_in a c (omega (z, ~z a, ~z c))) (eq_z_in b d (omega (z, ~z b, ~z d))))
    (λ h.
    let x = eq_z_is a c (and_first (eq_z a c) (eq_z b d) h) in
    let y = eq_z_is b d (and_second (eq_z a c) (eq_z b d) h) in
    and_in (eq_z (neg_ℤ b) (neg_ℤ d)) (eq_z (neg_ℤ a) (neg_ℤ c)) (eq_z_in (neg_ℤ b) (neg_ℤ d) (ap neg_ℤ y)) (eq_z_in (neg_ℤ a) (neg_ℤ c) (ap neg_ℤ x)))

same_task_negated : (t u : Task) → same_task (negated t) (negated u) ≡ same_task t u
unfolding same_task same_ranges negated
same_task_negated t u = rw (same_powers t.height u.height)

pub same_tasks_negated : (ts us : List Task) → same_tasks (map negated ts) (map negated us) ≡ same_tasks ts us
unfolding same_tasks
same_tasks_negated [] [] = refl
same_tasks_negated [] (u ∷ us) = refl
same_tasks_negated (t ∷ ts) [] = refl
same_tasks_negated (t ∷ ts) (u ∷ us) = ap₂ and (same_task_negated t u) (same_tasks_negated ts us)

more_negated : (s : Settled) → one_pass_more (negated_settled s) ≡ negated_settled (one_pass_more s)
more_negated Refused = refl
more_negated (After n ts) = refl
more_negated (Unsettled ts) = refl

unless_same_negated : (k k' : List Task → Settled) → ((us : List Task) → k (map negated us) ≡ negated_settled (k' us)) → (ts : List Task) (o : Outcome) → unless_same k (map negated ts) (negated_plan o) ≡ negated_settled (unless_same k' ts o)
unless_same_negated k k' h ts NoPlan = refl
unless_same_negated k k' h ts (Plan us) =
    by_cases (same_tasks ts us) (λ e. rw (same_tasks_negated ts us, e))
    (λ e. rw (same_tasks_negated ts us, e) (ap one_pass_more (h us) ∙ more_negated (k' us)))

settle_within_negated : (n : ℕ) (f : Frame) (ts : List Task) → settle_within n (negated_frame f) (map negated ts) ≡ negated_settled (settle_within n f ts)
unfolding settle_within
settle_within_negated zero f ts = refl
settle_within_negated (suc n) f ts =
    ap (unless_same (settle_within n (negated_frame f)) (map negated ts)) (pass_negated f ts)
    ∙ unless_same_negated (settle_within n (negated_frame f)) (settle_within n f) (settle_within_negated n f) ts (pass f ts)

-- ---- room
width_negated : (s : Span Power) → width (powers_of (negated_powers s)) ≡ width (powers_of s)
unfolding width negated_powers
width_negated s =
    let a = s.low.0 in
    let b = s.high.0 in
    let e : neg_ℤ a -ℤ neg_ℤ b ≡ b -ℤ a = omega (z, -z (neg_ℤ a) (neg_ℤ b), -z b a, ~z a, ~z b) in
    ap nat_abs e

pub room_negated : (t : Task) → room (negated t) ≡ room t
unfolding room negated
room_negated t = rw (width_negated t.height)

pub rooms_negated : (ts : List Task) → rooms (map negated ts) ≡ rooms ts
unfolding rooms
rooms_negated [] = refl
rooms_negated (t ∷ ts) = ap₂ ◌+◌ (room_negated t) (rooms_negated ts)

pub settle_negated : (f : Frame) (ts : List Task) → settle (negated_frame f) (map negated ts) ≡ negated_settled (settle f ts)
unfolding settle
settle_negated f ts =
    ap (λ (n : ℕ). settle_within (suc n) (negated_frame f) (map negated ts)) (rooms_negated ts) ∙ settle_within_negated (suc (rooms ts)) f ts

-- ---- the entry checks: the ends are symmetric
powers_fit_negated : (s : Span Power) → fits power_ends (powers_of (negated_powers s)) ≡ fits power_ends (powers_of s)
unfolding negated_powers
powers_fit_negated s =
    let a = s.low.0 in
    let b = s.high.0 in
    same_test (fits power_ends (range (neg_ℤ b) (neg_ℤ a))) (fits power_ends (range a b))
    (λ h. let p = fits_is power_ends (range (neg_ℤ b) (neg_ℤ a)) h in fits_in power_ends (range a b) (omega (z, ~z a, ~z b)))
    (λ h. let p = fits_is power_ends (range a b) h in fits_in power_ends (range (neg_ℤ b) (neg_ℤ a)) (omega (z, ~z a, ~z b)))

power_fits_negated : (x : ℤ) → within power_ends (neg_ℤ x) ≡ within power_ends x
power_fits_negated x =
    same_test (within power_ends (neg_ℤ x)) (within power_ends x)
    (λ h. let p = within_is power_ends (neg_ℤ x) h in within_in power_ends x (omega (z, ~z x)))
    (λ h. let p = within_is power_ends x h in within_in power_ends (neg_ℤ x) (omega (z, ~z x)))

ranges_fit_negated : (t : Task) → ranges_fit (negated t) ≡ ranges_fit t
unfolding ranges_fit negated
ranges_fit_negated t = rw (powers_fit_negated t.height)

set_fits_negated : (n : ℕ) (t : Task) → set_fits n (negated t) ≡ set_fits n t
unfolding set_fits negated
set_fits_negated n t = refl

tasks_fit_negated : (n k : ℕ) (ts : List Task) → tasks_fit n k (map negated ts) ≡ tasks_fit n k ts
unfolding tasks_fit
tasks_fit_negated n k [] = refl
tasks_fit_negated n k (t ∷ ts) = rw (ranges_fit_negated t, set_fits_negated n t, tasks_fit_negated n (suc k) ts)

repeats_negated : (k : ℕ) (seen : List ℤ) (qs : List Resource) → repeats k seen (map negated_resource qs) ≡ repeats k seen qs
unfolding repeats negated_resource
repeats_negated k seen [] = refl
repeats_negated k seen (q ∷ qs) = rw (repeats_negated (suc k) (q.id ∷ seen) qs)

limits_negated : (k : ℕ) (qs : List Resource) → limits k (map negated_resource qs) ≡ limits k qs
unfolding limits negated_resource
limits_negated k [] = refl
limits_negated k (q ∷ qs) = rw (power_fits_negated q.limit.0, limits_negated (suc k) qs)

band_fits_negated : (n : ℕ) (b : Band) → band_fits n (negated_band b) ≡ band_fits n b
unfolding band_fits band_ends negated_band
band_fits_negated n b = rw (power_fits_negated b.limit.0)

earlier_negated : (a b : Band) → earlier (negated_band a) (negated_band b) ≡ earlier a b
unfolding negated_band
earlier_negated a b = refl

bands_after_negated : (n k : ℕ) (a : Band) (bs : List Band) → bands_after n k (negated_band a) (map negated_band bs) ≡ bands_after n k a bs
unfolding bands_after
bands_after_negated n k a [] = refl
bands_after_negated n k a (b ∷ bs) = rw (earlier_negated a b, band_fits_negated n b, bands_after_negated n (suc k) b bs)

bands_fit_negated : (n : ℕ) (bs : List Band) → bands_fit n (map negated_band bs) ≡ bands_fit n bs
unfolding bands_fit
bands_fit_negated n [] = refl
bands_fit_negated n (b ∷ bs) = rw (band_fits_negated n b, bands_after_negated n 1 b bs)

-- the same refusal, or none
pub check_negated : (f : Frame) (ts : List Task) → check (negated_frame f) (map negated ts) ≡ check f ts
unfolding check
check_negated f ts =
    rw (
      length-map f.resources negated_resource,
      length-map ts negated,
      repeats_negated 0 [] f.resources,
      limits_negated 0 f.resources,
      bands_fit_negated (resource_count f) f.bands,
      tasks_fit_negated (resource_count f) 0 ts,
    )

-- ---- the calls
unless_refused_negated : (k : Checked) (ts : List Task) (x x' : Result) → x' ≡ negated_result x → unless_refused k (map negated ts) x' ≡ negated_result (unless_refused k ts x)
unless_refused_negated (Ok _) ts x x' h = h
unless_refused_negated (Err e) ts x x' h = refl

stepped_negated : (ts : List Task) (o : Outcome) → stepped (map negated ts) (negated_plan o) ≡ negated_result (stepped ts o)
stepped_negated ts NoPlan = refl
stepped_negated ts (Plan us) = refl

settled_negated : (ts : List Task) (s : Settled) → settled (map negated ts) (negated_settled s) ≡ negated_result (settled ts s)
settled_negated ts Refused = refl
settled_negated ts (After n us) = refl
settled_negated ts (Unsettled us) = refl

answered_negated : (c : Call) (f : Frame) (ts : List Task) → answered c (negated_frame f) (map negated ts) ≡ negated_result (answered c f ts)
answered_negated Check f ts = refl
answered_negated Balance f ts = ap (stepped (map negated ts)) (balance_negated ts) ∙ stepped_negated ts (balance ts)
answered_negated (Step r) f ts = ap (stepped (map negated ts)) (step_negated f r ts) ∙ stepped_negated ts (resource_step f r ts)
answered_negated Pass f ts = ap (stepped (map negated ts)) (pass_negated f ts) ∙ stepped_negated ts (pass f ts)
answered_negated Settle f ts = ap (settled (map negated ts)) (settle_negated f ts) ∙ settled_negated ts (settle f ts)
answered_negated (Within most) f ts = ap (settled (map negated ts)) (settle_within_negated most f ts) ∙ settled_negated ts (settle_within most f ts)
answered_negated MostPasses f ts = rw (rooms_negated ts)

pub call_negated : (c : Call) (f : Frame) (ts : List Task) → call_of c (negated_frame f) (map negated ts) ≡ negated_result (call_of c f ts)
unfolding call_of
call_negated c f ts =
    rw (check_negated f ts, length-map f.resources negated_resource)
    (unless_refused_negated (or_else (check f ts) (refuse_if (not (placed_in (resource_count f) c)) NoSuchResource)) ts (answered c f ts) _ (answered_negated c f ts))

-- twice is nothing
pub result_back : (x : Result) → negated_result (negated_result x) ≡ x
result_back x = ap (λ (ts : List Task). record { answer = x.answer; tasks = ts }) (negateds_back x.tasks)

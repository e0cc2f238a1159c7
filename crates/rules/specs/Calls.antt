-- "Numbered refusals" for lists, in their order: 1, 2, 3 over all resources, 4 over all, 13 over all bands, then task by task 5 before 6, then 12, then 7;
-- and what each call answers and leaves, on any lists.
use Rattle.std.specs.Prelude.{Ok, Err}
use Rattle.std.specs.Prelude.{ℕ, suc, ◌^◌, List, [], ◌∷◌, Bool, true, false, not, ℤ, eqb, ltb, length}
use Rattle.std.specs.Int.Signed.{lt_z}
use Rattle.integers.specs.Whole.{eq_z}
use Rattle.integers.specs.Tests.{and, or, any}
use Rattle.integers.specs.Hull.{within, fits}
use Rattle.plan.specs.declared.Task.{Task}
use Rattle.plan.specs.declared.Resource.{Resource}
use Rattle.plan.specs.declared.Band.{Band}
use Rattle.plan.specs.declared.Refusal.{Refusal}
use Rattle.plan.specs.declared.Refusal.TheVariants.{TooManyTasks, ResourceCount, RepeatedIdentifier, LimitOutside, RangeOutside, SetOutside, NoPlan, NoSuchResource, BandOutside}
use Rattle.plan.specs.declared.Call.{Call}
use Rattle.plan.specs.declared.Call.TheVariants.{Check, Balance, Step, Pass, Settle, Within, MostPasses}
use Rattle.plan.specs.Refusals.{Told, told_answer, Answer, Checked, accepted}
use Rattle.plan.specs.Days.{days_of, day_ends, duration_ends}
use Rattle.plan.specs.Powers.{powers_of, power_ends}
use Rattle.plan.specs.Tasks.{most_tasks, most_resources, most_bands}
use Rattle.rules.specs.Frame.{Frame, resource_count}
use Rattle.rules.specs.Balance.{Outcome, balance}
use Rattle.rules.specs.Step.{resource_step}
use Rattle.rules.specs.Settle.{Settled, pass, settle_within, most_passes, settle}

abbrev pub or_else : Checked → Checked → Checked
or_else (Ok _) c = c
or_else (Err f) c = Err f

abbrev pub refuse_if : Bool → Refusal → Checked
refuse_if true f = Err f
refuse_if false f = accepted

-- 3: "an identifier repeats an earlier one; first resource that repeats". The earlier ones are listed with the latest first.
unfoldable pub repeats : ℕ → List ℤ → List Resource → Checked
repeats k seen [] = accepted
repeats k seen (q ∷ qs) =
    or_else (refuse_if (any (eq_z q.id) seen) (RepeatedIdentifier k)) (repeats (suc k) (q.id ∷ seen) qs)

-- 4: "a limit outside its ends; first such resource"
unfoldable pub limits : ℕ → List Resource → Checked
limits k [] = accepted
limits k (q ∷ qs) = or_else (refuse_if (not (within power_ends q.limit.0)) (LimitOutside k)) (limits (suc k) qs)

-- 13: "a band out of order, beyond its ends, naming no resource, or a 65th, place the first such band, after 4 and before 5"
-- "strictly rising by place and then by day"
abbrev pub earlier : Band → Band → Bool
earlier a b = or (ltb a.place b.place) (and (eqb a.place b.place) (lt_z a.from.0 b.from.0))

-- first day and limit within their ends
unfoldable pub band_ends : Band → Bool
band_ends b = and (within day_ends b.from.0) (within power_ends b.limit.0)

-- and one of so many resources named
unfoldable pub band_fits : ℕ → Band → Bool
band_fits n b = and (ltb b.place n) (band_ends b)

-- band k is refused unless a test holds; then those after it
abbrev pub band_unless : Bool → ℕ → Checked → Checked
band_unless t k c = or_else (refuse_if (not t) (BandOutside k)) c

-- band k and those after it, a being the one before
unfoldable pub bands_after : ℕ → ℕ → Band → List Band → Checked
bands_after n k a [] = accepted
bands_after n k a (b ∷ bs) =
    band_unless (and (ltb k most_bands) (and (earlier a b) (band_fits n b))) k (bands_after n (suc k) b bs)

unfoldable pub bands_fit : ℕ → List Band → Checked
bands_fit n [] = accepted
bands_fit n (b ∷ bs) = band_unless (band_fits n b) 0 (bands_after n 1 b bs)

-- 5: "a task's range is outside its ends, or low above high"
unfoldable pub ranges_fit : Task → Bool
ranges_fit t =
    and (fits day_ends (days_of t.origin))
    (and (fits duration_ends (days_of t.duration)) (and (fits day_ends (days_of t.end)) (fits power_ends (powers_of t.height))))

-- 6: "a task's set is empty or names a place beyond the resource list"
unfoldable pub set_fits : ℕ → Task → Bool
set_fits n t = and (not (eqb t.set 0)) (ltb t.set (2 ^ n))

-- "task by task 5 before 6"
unfoldable pub tasks_fit : ℕ → ℕ → List Task → Checked
tasks_fit n k [] = accepted
tasks_fit n k (t ∷ ts) =
    or_else (refuse_if (not (ranges_fit t)) (RangeOutside k))
    (or_else (refuse_if (not (set_fits n t)) (SetOutside k)) (tasks_fit n (suc k) ts))

-- 1 to 6, and 13 between 4 and 5
unfoldable pub check : Frame → List Task → Checked
check f ts =
    let n = resource_count f in
    or_else (refuse_if (ltb most_tasks (length ts)) TooManyTasks)
    (or_else (refuse_if (or (eqb n 0) (ltb most_resources n)) ResourceCount)
    (or_else (repeats 0 [] f.resources) (or_else (limits 0 f.resources) (or_else (bands_fit n f.bands) (tasks_fit n 0 ts)))))

-- what a call answers, and what the lent tasks hold then: "On each refusal, task lists and buffers keep their entry contents."
pub record Result : Type 0 where
  pub answer : Answer
  pub tasks : List Task

abbrev pub refused : Refusal → List Task → Result
refused f ts = record { answer = Err f; tasks = ts }

-- settled after so many passes ("a refusal reports 0"), or so many passes at most; every other call reports 0, settling too where the passes that it
-- may make were too few
abbrev pub done : ℕ → List Task → Result
done n ts = record { answer = Ok n; tasks = ts }

-- "Every public call checks its own input."
abbrev pub unless_refused : Checked → List Task → Result → Result
unless_refused (Ok _) ts x = x
unless_refused (Err f) ts x = refused f ts

-- 7: "a step finds no plan"
abbrev pub stepped : List Task → Outcome → Result
stepped ts Outcome.NoPlan = refused NoPlan ts
stepped ts (Outcome.Plan us) = done 0 us

abbrev pub settled : List Task → Settled → Result
settled ts Settled.Refused = refused NoPlan ts
settled ts (Settled.After n us) = done n us
settled ts (Settled.Unsettled us) = done 0 us

-- 12: "a resource step names a place not in the list", of so many resources
abbrev pub placed_in : ℕ → Call → Bool
placed_in n Check = true
placed_in n Balance = true
placed_in n (Step r) = ltb r n
placed_in n Pass = true
placed_in n Settle = true
placed_in n (Within most) = true
placed_in n MostPasses = true

-- what a call answers and leaves of a plan that passed the checks
abbrev pub answered : Call → Frame → List Task → Result
answered Check f ts = done 0 ts
answered Balance f ts = stepped ts (balance ts)
answered (Step r) f ts = stepped ts (resource_step f r ts)
answered Pass f ts = stepped ts (pass f ts)
answered Settle f ts = settled ts (settle f ts)
answered (Within most) f ts = settled ts (settle_within most f ts)
answered MostPasses f ts = done (most_passes ts) ts

-- the calls of the page
unfoldable pub call_of : Call → Frame → List Task → Result
call_of c f ts =
    unless_refused (or_else (check f ts) (refuse_if (not (placed_in (resource_count f) c)) NoSuchResource)) ts (answered c f ts)

-- ---- the calls over lent lists: the answer in this paper's number and values, and what the lent tasks hold later
pub record ListResult : Type 0 where
  pub answer : Told
  pub tasks : List Task

abbrev pub list_result : Told → List Task → ListResult
list_result a ts = record { answer = a; tasks = ts }

unfoldable pub list_call : Call → Frame → List Task → ListResult
list_call c f ts = list_result (told_answer (call_of c f ts).answer) (call_of c f ts).tasks

-- calls in a row, each on the tasks that the one before left
unfoldable pub list_calls : List Call → Frame → List Task → List Task
list_calls [] f ts = ts
list_calls (c ∷ cs) f ts = list_calls cs f (list_call c f ts).tasks

-- ---- what a call answers and leaves, of tasks ts that entered and tasks us that the engine's own list holds now: a refusal leaves ts, whatever that list
-- holds, for nothing of it is stored then
abbrev pub result_of : Answer → List Task → List Task → Result
result_of (Ok n) ts us = done n us
result_of (Err f) ts us = refused f ts

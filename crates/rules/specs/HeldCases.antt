-- Feeders that must hold between jobs too: plans with held resources, each with its answer as worked out by hand.
use Rattle.std.specs.Prelude.{ℕ, List, [], ◌∷◌, ◌++◌, ℤ, pos, negsuc}
use Rattle.integers.specs.Hull.{Range, range}
use Rattle.plan.specs.declared.Task.{Task}
use Rattle.plan.specs.declared.Resource.{Resource}
use Rattle.plan.specs.declared.Kind.TheVariants.{Held}
use Rattle.plan.specs.declared.Sense.TheVariants.{AtMost, AtLeast}
use Rattle.plan.specs.declared.Call.TheVariants.{Step}
use Rattle.plan.specs.Powers.{power}
use Rattle.rules.specs.Frame.{Frame, framed, unbanded}
use Rattle.rules.specs.Calls.{done}
use Rattle.rules.specs.Cases.{Case, one, task, here, resource, limit, case7_before, case7_after}
use Rattle.rules.specs.BandCases.{band, banded, moving, stays, has_none}

-- one held resource of a limit
abbrev held_resource : ℤ → ℤ → Resource
held_resource i l = record { id = i; limit = power l; kind = Held }

abbrev held : ℤ → List Resource
held l = held_resource (pos 7) l ∷ []

abbrev at_least_held : ℤ → Frame
at_least_held l = unbanded AtLeast (held l)

-- case 6's tasks: "days 3 and 4 are bare"
abbrev bare_between : List Task
bare_between = here (pos 1) (pos 2) (pos 3) (pos 2) ∷ here (pos 5) (pos 2) (pos 7) (pos 2) ∷ []

-- and on the second resource
abbrev secondly : List Task
secondly = moving 2 (pos 1) (pos 1) (pos 2) (pos 2) ∷ moving 2 (pos 5) (pos 5) (pos 2) (pos 2) ∷ []

-- two tasks of duration 0, on days 0 and 4: "tasks of duration 0 taking part in both"
abbrev pub short_frame : Frame
short_frame = at_least_held (pos 1)

abbrev pub short_tasks : List Task
short_tasks = here (pos 0) (pos 0) (pos 0) (pos 0) ∷ here (pos 4) (pos 0) (pos 4) (pos 0) ∷ []

-- a need on a bare day: A covers days 1 and 2, B day 5, both at level 2; C, two days somewhere from day 0 on at a level of 1 to 3, must cover
-- days 3 and 4
abbrev pub held_frame : Frame
held_frame = at_least_held (pos 2)

abbrev sides : List Task
sides = here (pos 1) (pos 2) (pos 3) (pos 2) ∷ here (pos 5) (pos 1) (pos 6) (pos 2) ∷ []

-- with C on such a set, before and after the need
abbrev bridging : ℕ → List Task
bridging s = sides ++ (task s (range (pos 0) (pos 6)) (one (pos 2)) (range (pos 2) (pos 8)) (range (pos 1) (pos 3)) ∷ [])

abbrev bridged : ℕ → Range → List Task
bridged s h = sides ++ (task s (one (pos 3)) (one (pos 2)) (one (pos 5)) h ∷ [])

abbrev pub held_before : List Task
held_before = bridging 1

abbrev pub held_after : List Task
held_after = bridged 1 (range (pos 2) (pos 3))

abbrev pub held_cases : List Case
held_cases =
    -- "Case 6 on a held resource is refusal 7": days 3 and 4 are at level 0; at limit 0 they meet it
    has_none (at_least_held (pos 2)) bare_between
    ∷ stays (at_least_held (pos 0)) bare_between
    -- two tasks of duration 0: days 0 to 3 lie between them, at level 0, and day 4 does not
    ∷ has_none short_frame short_tasks
    ∷ stays (at_least_held (pos 0)) short_tasks
    ∷ has_none (framed AtLeast (held (pos 0)) (band 0 (pos 3) (pos 1) ∷ [])) short_tasks
    ∷ stays (framed AtLeast (held (pos 0)) (band 0 (pos 4) (pos 1) ∷ [])) short_tasks
    ∷ has_none (framed AtLeast (held (pos 1)) (band 0 (pos 1) (pos 0) ∷ [])) short_tasks
    ∷ stays (framed AtLeast (held (pos 1)) (band 0 (pos 0) (pos 0) ∷ [])) short_tasks
    -- one of duration 0 alone: from day 5 to day 4 there is none
    ∷ stays (at_least_held (pos 1)) (here (pos 5) (pos 0) (pos 5) (negsuc 0) ∷ [])
    -- one of duration 0 and one that covers day 7: days 5 and 6 are at level 0, and no task is possible there
    ∷ has_none (at_least_held (pos 1)) (here (pos 5) (pos 0) (pos 5) (pos 0) ∷ here (pos 7) (pos 1) (pos 8) (pos 1) ∷ [])
    ∷ stays (at_least_held (pos 1)) (here (pos 7) (pos 0) (pos 7) (pos 0) ∷ here (pos 7) (pos 1) (pos 8) (pos 1) ∷ [])
    -- no task: nothing is checked
    ∷ stays (at_least_held (pos 9)) []
    -- a task that could go elsewhere does not hold: A is on the held one or on the other, and no rule tells which
    ∷ stays (unbanded AtLeast (held_resource (pos 7) (pos 2) ∷ resource (pos 9) (pos 0) ∷ []))
    (task 3 (one (pos 1)) (one (pos 2)) (one (pos 3)) (one (pos 2)) ∷ here (pos 5) (pos 2) (pos 7) (pos 2) ∷ [])
    -- which day is first is open: the first task starts on day 3 at the latest, so day 3 counts and days 1 and 2 do not; so is the last: it ends on
    -- day 2 at the earliest, so days 0 and 1 count; of an open duration too
    ∷ stays (framed AtLeast (held (pos 1)) (band 0 (pos 3) (pos 0) ∷ [])) (moving 1 (pos 1) (pos 3) (pos 0) (pos 0) ∷ here (pos 5) (pos 0) (pos 5) (pos 0) ∷ [])
    ∷ has_none (framed AtLeast (held (pos 0)) (band 0 (pos 3) (pos 1) ∷ band 0 (pos 4) (pos 0) ∷ [])) (moving 1 (pos 1) (pos 3) (pos 0) (pos 0) ∷ here (pos 5) (pos 0) (pos 5) (pos 0) ∷ [])
    ∷ has_none (at_least_held (pos 1)) (here (pos 0) (pos 0) (pos 0) (pos 0) ∷ moving 1 (pos 2) (pos 4) (pos 0) (pos 0) ∷ [])
    ∷ stays (framed AtLeast (held (pos 0)) (band 0 (pos 2) (pos 1) ∷ [])) (here (pos 0) (pos 0) (pos 0) (pos 0) ∷ moving 1 (pos 2) (pos 4) (pos 0) (pos 0) ∷ [])
    ∷ has_none (at_least_held (pos 1)) (here (pos 0) (pos 0) (pos 0) (pos 0) ∷ task 1 (range (pos 2) (pos 4)) (range (pos 0) (pos 2)) (range (pos 2) (pos 6)) (one (pos 0)) ∷ [])
    -- negative days: from -4 to -1 between two tasks of duration 0
    ∷ has_none (framed AtLeast (held (pos 0)) (band 0 (negsuc 0) (pos 1) ∷ [])) (here (negsuc 3) (pos 0) (negsuc 3) (pos 0) ∷ here (pos 0) (pos 0) (pos 0) (pos 0) ∷ [])
    ∷ stays (framed AtLeast (held (pos 1)) (band 0 (negsuc 3) (pos 0) ∷ [])) (here (negsuc 3) (pos 0) (negsuc 3) (pos 0) ∷ here (pos 0) (pos 0) (pos 0) (pos 0) ∷ [])
    -- a plain one and a held one: case 6's tasks on the second
    ∷ has_none (unbanded AtLeast (resource (pos 9) (pos 0) ∷ held (pos 2))) secondly
    ∷ stays (unbanded AtLeast (held (pos 2) ++ resource (pos 9) (pos 2) ∷ [])) secondly
    -- "The rules for bar and height stay": case 7 on a held resource; day 0, say, does not count, and is barred for B
    ∷ banded (at_least_held (pos 0)) case7_before (done 2 case7_after)
    -- need on a held bare day: C is needed on days 3 and 4, so it starts on day 3, and its height is at least 2 there; on a plain one it stays
    ∷ banded held_frame held_before (done 3 held_after)
    -- its step alone leaves the heights; and where C could go elsewhere, it can no longer
    ∷ record { call = Step 0; frame = held_frame; tasks = held_before; result = done 0 (bridged 1 (range (pos 1) (pos 3))) }
    ∷ banded (unbanded AtLeast (held (pos 2) ++ resource (pos 9) (pos 0) ∷ [])) (bridging 3) (done 3 (bridged 1 (range (pos 2) (pos 3))))
    ∷ stays (unbanded AtLeast (limit (pos 2))) held_before
    -- at most: level 0 on the bare days is above limit -1; with limit 0 it is not
    ∷ has_none (unbanded AtMost (held (negsuc 0))) (here (pos 1) (pos 1) (pos 2) (negsuc 0) ∷ here (pos 4) (pos 1) (pos 5) (negsuc 0) ∷ [])
    ∷ stays (unbanded AtMost (held (pos 0))) (here (pos 1) (pos 1) (pos 2) (negsuc 0) ∷ here (pos 4) (pos 1) (pos 5) (negsuc 0) ∷ [])
    ∷ stays (unbanded AtMost (limit (negsuc 0))) (here (pos 1) (pos 1) (pos 2) (negsuc 0) ∷ here (pos 4) (pos 1) (pos 5) (negsuc 0) ∷ [])
    -- with bands: the bare days 3 and 4 meet limit 0 of the band between; where limit 2 stands again from day 4 on, day 4 falls short
    ∷ stays (framed AtLeast (held (pos 2)) (band 0 (pos 3) (pos 0) ∷ band 0 (pos 5) (pos 2) ∷ [])) bare_between
    ∷ has_none (framed AtLeast (held (pos 2)) (band 0 (pos 3) (pos 0) ∷ band 0 (pos 4) (pos 2) ∷ [])) bare_between
    ∷ []

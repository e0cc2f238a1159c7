-- Levels that change by date: plans with bands, each with its answer as worked out by hand.
use Rattle.std.specs.Prelude.{ℕ, zero, suc, List, [], ◌∷◌, ◌++◌, ℤ, pos, negsuc, ◌+ℤ◌}
use Rattle.integers.specs.Hull.{range}
use Rattle.plan.specs.declared.Task.{Task}
use Rattle.plan.specs.declared.Band.{Band}
use Rattle.plan.specs.declared.Sense.TheVariants.{AtMost, AtLeast}
use Rattle.plan.specs.declared.Call.TheVariants.{Step, Settle}
use Rattle.plan.specs.declared.Refusal.TheVariants.{RepeatedIdentifier, LimitOutside, SetOutside, NoPlan, NoSuchResource, BandOutside}
use Rattle.plan.specs.Days.{day}
use Rattle.plan.specs.Powers.{power}
use Rattle.plan.specs.Tasks.{most_bands}
use Rattle.rules.specs.Frame.{Frame, framed}
use Rattle.rules.specs.Calls.{Result, done, refused}
use Rattle.rules.specs.Cases.{Case, one, task, here, limit, two}

abbrev pub band : ℕ → ℤ → ℤ → Band
band p d l = record { place = p; from = day d; limit = power l }

abbrev pub banded : Frame → List Task → Result → Case
banded f ts r = record { call = Settle; frame = f; tasks = ts; result = r }

-- a task of one duration and one height, whose ends follow from its origins
abbrev pub moving : ℕ → ℤ → ℤ → ℤ → ℤ → Task
moving s a b d h = task s (range a b) (one d) (range (a +ℤ d) (b +ℤ d)) (one h)

-- a task with no resource
abbrev nowhere : List Task
nowhere = task 0 (one (pos 1)) (one (pos 1)) (one (pos 2)) (one (pos 0)) ∷ []

-- settled after one pass, with nothing narrowed
abbrev pub stays : Frame → List Task → Case
stays f ts = banded f ts (done 1 ts)

abbrev pub has_none : Frame → List Task → Case
has_none f ts = banded f ts (refused NoPlan ts)

-- so many bands of limit 0 on the first resource, on one day after another
abbrev daily : ℕ → ℕ → List Band
daily d zero = []
daily d (suc n) = band 0 (pos d) (pos 0) ∷ daily (suc d) n

-- as many as a plan may have: the last is from day 63 on
abbrev full : List Band
full = daily 0 63 ++ band 0 (pos 63) (pos 7) ∷ []

-- the plan in which a band alone causes a need, before and after
abbrev pub need_frame : Frame
need_frame = framed AtLeast (limit (pos 0)) (band 0 (pos 4) (pos 2) ∷ band 0 (pos 5) (pos 0) ∷ [])

abbrev sure_task : Task
sure_task = here (pos 3) (pos 3) (pos 6) (pos 0)

abbrev pub need_before : List Task
need_before = sure_task ∷ task 1 (range (pos 0) (pos 6)) (one (pos 1)) (range (pos 1) (pos 7)) (one (pos 2)) ∷ []

abbrev pub need_after : List Task
need_after = sure_task ∷ here (pos 4) (pos 1) (pos 5) (pos 2) ∷ []

abbrev pub band_cases : List Case
band_cases =
    -- a band on the first listed day: days 1 and 2 are covered at level 0, and limit 5 stands until the band begins
    stays (framed AtLeast (limit (pos 5)) (band 0 (pos 1) (pos 0) ∷ [])) (here (pos 1) (pos 2) (pos 3) (pos 0) ∷ [])
    ∷ has_none (framed AtLeast (limit (pos 5)) (band 0 (pos 2) (pos 0) ∷ [])) (here (pos 1) (pos 2) (pos 3) (pos 0) ∷ [])
    -- one beyond the last listed day: from day 3 on nothing is covered
    ∷ stays (framed AtLeast (limit (pos 0)) (band 0 (pos 3) (pos 9) ∷ [])) (here (pos 1) (pos 2) (pos 3) (pos 0) ∷ [])
    ∷ has_none (framed AtLeast (limit (pos 0)) (band 0 (pos 2) (pos 9) ∷ [])) (here (pos 1) (pos 2) (pos 3) (pos 0) ∷ [])
    -- two on neighbouring days: level 2 fails limit 3 on one day; in the middle that day stays inside the range, at the rim it goes
    ∷ stays (framed AtLeast (limit (pos 0)) (band 0 (pos 2) (pos 3) ∷ band 0 (pos 3) (pos 1) ∷ [])) (moving 1 (pos 0) (pos 4) (pos 1) (pos 2) ∷ [])
    ∷ banded (framed AtLeast (limit (pos 0)) (band 0 (pos 0) (pos 3) ∷ band 0 (pos 1) (pos 1) ∷ [])) (moving 1 (pos 0) (pos 4) (pos 1) (pos 2) ∷ [])
    (done 2 (moving 1 (pos 1) (pos 4) (pos 1) (pos 2) ∷ []))
    -- between two sure days of a task: limit 1 on day 5, 3 on day 6, so its height is at least 3
    ∷ banded (framed AtLeast (limit (pos 1)) (band 0 (pos 6) (pos 3) ∷ [])) (task 1 (one (pos 5)) (one (pos 2)) (one (pos 7)) (range (pos 1) (pos 4)) ∷ [])
    (done 2 (task 1 (one (pos 5)) (one (pos 2)) (one (pos 7)) (range (pos 3) (pos 4)) ∷ []))
    -- negative days: two days at level 1 can't touch -7, -6 and -5, where the limit is 2
    ∷ banded (framed AtLeast (limit (pos 0)) (band 0 (negsuc 6) (pos 2) ∷ band 0 (negsuc 3) (pos 0) ∷ [])) (moving 1 (negsuc 7) (negsuc 2) (pos 2) (pos 1) ∷ [])
    (done 2 (moving 1 (negsuc 3) (negsuc 2) (pos 2) (pos 1) ∷ []))
    -- bands of two resources: on days 2 and 3 the first has limit 5, the second not before day 4
    ∷ banded (framed AtLeast (two (pos 0) (pos 0)) (band 0 (pos 2) (pos 5) ∷ band 1 (pos 4) (pos 5) ∷ [])) (moving 3 (pos 2) (pos 2) (pos 2) (pos 1) ∷ [])
    (done 2 (moving 2 (pos 2) (pos 2) (pos 2) (pos 1) ∷ []))
    ∷ has_none (framed AtLeast (two (pos 0) (pos 0)) (band 0 (pos 2) (pos 5) ∷ band 1 (pos 3) (pos 5) ∷ [])) (moving 3 (pos 2) (pos 2) (pos 2) (pos 1) ∷ [])
    -- at most: A takes 2 on days 1 to 4; with limit 2 from day 3 on and 0 from day 5 on, B is done by day 2
    ∷ banded (framed AtMost (limit (pos 4)) (band 0 (pos 3) (pos 2) ∷ band 0 (pos 5) (pos 0) ∷ [])) (here (pos 1) (pos 4) (pos 5) (pos 2) ∷ moving 1 (pos 0) (pos 6) (pos 1) (pos 1) ∷ [])
    (done 2 (here (pos 1) (pos 4) (pos 5) (pos 2) ∷ moving 1 (pos 0) (pos 2) (pos 1) (pos 1) ∷ []))
    ∷ has_none (framed AtMost (limit (pos 4)) (band 0 (pos 4) (pos 1) ∷ [])) (here (pos 1) (pos 4) (pos 5) (pos 2) ∷ moving 1 (pos 0) (pos 6) (pos 1) (pos 1) ∷ [])
    -- a need that only a band causes: A is sure on days 3 to 5 at level 0, and limit 2 on day 4 alone asks for B there
    ∷ stays (framed AtLeast (limit (pos 0)) []) need_before
    ∷ banded need_frame need_before (done 2 need_after)
    -- a bare day in a band is not checked
    ∷ stays (framed AtLeast (limit (pos 0)) (band 0 (pos 3) (pos 9) ∷ band 0 (pos 5) (pos 0) ∷ [])) (here (pos 1) (pos 2) (pos 3) (pos 0) ∷ here (pos 5) (pos 1) (pos 6) (pos 0) ∷ [])
    -- the same limit once more changes nothing; of the bands that have begun the last counts
    ∷ stays (framed AtLeast (limit (pos 1)) (band 0 (pos 2) (pos 1) ∷ band 0 (pos 3) (pos 1) ∷ [])) (here (pos 1) (pos 3) (pos 4) (pos 1) ∷ [])
    ∷ has_none (framed AtLeast (limit (pos 1)) (band 0 (pos 2) (pos 2) ∷ band 0 (pos 3) (pos 1) ∷ [])) (here (pos 1) (pos 3) (pos 4) (pos 1) ∷ [])
    -- the ends: from the first day there is, a band hides the resource's own limit for good
    ∷ stays (framed AtLeast (limit (pos 9)) (band 0 (negsuc 99999) (negsuc 999999) ∷ [])) (here (negsuc 99999) (pos 1) (negsuc 99998) (negsuc 999999) ∷ [])
    ∷ has_none (framed AtLeast (limit (pos 9)) (band 0 (negsuc 99998) (negsuc 999999) ∷ [])) (here (negsuc 99999) (pos 1) (negsuc 99998) (negsuc 999999) ∷ [])
    -- 13, the first such band: equal neighbours, unsorted places, a day and a limit beyond their ends, a place that no resource has
    ∷ banded (framed AtLeast (limit (pos 0)) (band 0 (pos 3) (pos 1) ∷ band 0 (pos 3) (pos 2) ∷ [])) [] (refused (BandOutside 1) [])
    ∷ banded (framed AtLeast (two (pos 0) (pos 0)) (band 1 (pos 3) (pos 1) ∷ band 0 (pos 4) (pos 2) ∷ [])) [] (refused (BandOutside 1) [])
    ∷ banded (framed AtLeast (limit (pos 0)) (band 0 (pos 100001) (pos 1) ∷ [])) [] (refused (BandOutside 0) [])
    ∷ banded (framed AtLeast (limit (pos 0)) (band 0 (pos 1) (pos 0) ∷ band 0 (pos 2) (negsuc 1000000) ∷ [])) [] (refused (BandOutside 1) [])
    ∷ banded (framed AtLeast (two (pos 0) (pos 0)) (band 1 (pos 1) (pos 0) ∷ band 2 (pos 1) (pos 0) ∷ [])) [] (refused (BandOutside 1) [])
    -- places rise, and days may fall from one place to the next
    ∷ stays (framed AtLeast (two (pos 0) (pos 0)) (band 0 (pos 9) (pos 0) ∷ band 1 (negsuc 8) (pos 0) ∷ [])) []
    -- the last day and the highest limit are within their ends, the day before the first, a limit above the highest and place 65,535 are not
    ∷ stays (framed AtLeast (limit (pos 0)) (band 0 (pos 100000) (pos 1000000) ∷ [])) []
    ∷ banded (framed AtLeast (limit (pos 0)) (band 0 (negsuc 100000) (pos 0) ∷ [])) [] (refused (BandOutside 0) [])
    ∷ banded (framed AtLeast (limit (pos 0)) (band 0 (pos 0) (pos 1000001) ∷ [])) [] (refused (BandOutside 0) [])
    ∷ banded (framed AtLeast (limit (pos 0)) (band 65535 (pos 0) (pos 0) ∷ [])) [] (refused (BandOutside 0) [])
    -- after 3 and 4, before 5, 6 and 12
    ∷ banded (framed AtLeast (limit (pos 0) ++ limit (pos 0)) (band 7 (pos 0) (pos 0) ∷ [])) [] (refused (RepeatedIdentifier 1) [])
    ∷ banded (framed AtLeast (two (pos 0) (pos 1000001)) (band 0 (pos 3) (pos 1) ∷ band 0 (pos 3) (pos 2) ∷ [])) nowhere
    (refused (LimitOutside 1) nowhere)
    ∷ banded (framed AtLeast (limit (pos 0)) (band 0 (pos 3) (pos 1) ∷ band 0 (pos 3) (pos 2) ∷ [])) nowhere (refused (BandOutside 1) nowhere)
    ∷ banded (framed AtLeast (limit (pos 0)) (band 0 (pos 3) (pos 1) ∷ [])) nowhere (refused (SetOutside 0) nowhere)
    ∷ banded (framed AtMost (limit (pos 0)) (band 1 (pos 0) (pos 0) ∷ [])) (here (pos 100001) (pos 1) (pos 2) (pos 0) ∷ [])
    (refused (BandOutside 0) (here (pos 100001) (pos 1) (pos 2) (pos 0) ∷ []))
    ∷ record { call = Step 5; frame = framed AtLeast (limit (pos 0)) (band 1 (pos 0) (pos 0) ∷ []); tasks = []; result = refused (BandOutside 0) [] }
    ∷ record { call = Step 1; frame = framed AtLeast (limit (pos 0)) (band 0 (pos 0) (pos 0) ∷ []); tasks = []; result = refused NoSuchResource [] }
    -- a task of duration 0 covers no day, whatever the limit
    ∷ stays (framed AtLeast (limit (pos 0)) (band 0 (pos 5) (pos 9) ∷ [])) (here (pos 5) (pos 0) (pos 5) (negsuc 0) ∷ [])
    -- the 64th counts: limit 7 from day 63 on
    ∷ stays (framed AtLeast (limit (pos 0)) full) (here (pos 63) (pos 1) (pos 64) (pos 7) ∷ [])
    ∷ has_none (framed AtLeast (limit (pos 0)) full) (here (pos 63) (pos 1) (pos 64) (pos 6) ∷ [])
    -- a 65th is refused, unless an earlier one is
    ∷ banded (framed AtLeast (limit (pos 0)) (full ++ band 0 (pos 64) (pos 0) ∷ [])) [] (refused (BandOutside most_bands) [])
    ∷ banded (framed AtLeast (limit (pos 0)) (daily 0 3 ++ daily 2 62)) [] (refused (BandOutside 3) [])
    ∷ []

-- "How many passes at most", and settling within so many, by plans worked out by hand.
use Rattle.std.specs.Prelude.{ℕ, suc, List, [], ◌∷◌, pos, negsuc}
use Rattle.integers.specs.Hull.{range}
use Rattle.plan.specs.declared.Task.{Task}
use Rattle.plan.specs.declared.Sense.TheVariants.{AtMost, AtLeast}
use Rattle.plan.specs.declared.Call.TheVariants.{Settle, Within, MostPasses}
use Rattle.plan.specs.declared.Refusal.TheVariants.{RangeOutside, SetOutside, NoPlan, BandOutside}
use Rattle.plan.specs.Days.{day}
use Rattle.plan.specs.Powers.{power}
use Rattle.rules.specs.Frame.{Frame, unbanded, framed}
use Rattle.rules.specs.Calls.{Result, done, refused}
use Rattle.rules.specs.Cases.{Case, one, task, here, resource, limit, case9_frame, case9_before, case9_stepped, case9_after}

-- at most so many passes, and the tasks as they entered
abbrev at_most : Frame → List Task → ℕ → Case
at_most f ts n = record { call = MostPasses; frame = f; tasks = ts; result = done n ts }

-- within so many passes
abbrev makes : ℕ → Frame → List Task → Result → Case
makes most f ts x = record { call = Within most; frame = f; tasks = ts; result = x }

abbrev feeder : Frame
feeder = unbanded AtLeast (limit (pos 0))

abbrev crews : Frame
crews = unbanded AtMost (resource (pos 1) (pos 0) ∷ resource (pos 2) (pos 0) ∷ resource (pos 3) (pos 0) ∷ [])

-- on day 5 alone
abbrev on_day5 : ℕ → ℕ → Task
on_day5 s h = task s (one (pos 5)) (one (pos 1)) (one (pos 6)) (one (pos h))

-- limits 1 and 2, a sure task of height 0 on each, and two of height 1 that may go to either. The first resource could do without the one or the
-- other; the second needs both, and gets them in the first pass; in the second pass nothing lifts the sure task on the first
abbrev late_frame : Frame
late_frame = unbanded AtLeast (resource (pos 1) (pos 1) ∷ resource (pos 2) (pos 2) ∷ [])

abbrev late : ℕ → List Task
late s = on_day5 1 0 ∷ on_day5 2 0 ∷ on_day5 s 1 ∷ on_day5 s 1 ∷ []

-- limits 0, 1 and 1, and two helpers that may lift a resource or the next: the last resource needs its only helper, then the one before it the
-- other; the third pass changes nothing, and 1 + 2 is the bound
abbrev chain_frame : Frame
chain_frame = unbanded AtLeast (resource (pos 1) (pos 0) ∷ resource (pos 2) (pos 1) ∷ resource (pos 3) (pos 1) ∷ [])

abbrev chain : ℕ → ℕ → List Task
chain s u = on_day5 1 0 ∷ on_day5 2 0 ∷ on_day5 4 0 ∷ on_day5 s 1 ∷ on_day5 u 1 ∷ []

-- at least 0, and from day 1 on at least 2, where the band is one of the resource at that place; a job of one day and height 1 that may wait so long
abbrev rising : ℕ → Frame
rising place = framed AtLeast (limit (pos 0)) (record { place = place; from = day (pos 1); limit = power (pos 2) } ∷ [])

abbrev waiting : ℕ → List Task
waiting days = task 1 (range (pos 0) (pos days)) (one (pos 1)) (range (pos 1) (pos (suc days))) (one (pos 1)) ∷ []

abbrev pub pass_cases : List Case
pass_cases =
    -- nothing could be removed
    at_most feeder [] 1
    ∷ at_most feeder (here (pos 5) (pos 1) (pos 6) (pos 0) ∷ []) 1
    -- each range by itself, high minus low, below 0 too
    ∷ at_most feeder (task 1 (range (negsuc 8) (negsuc 5)) (one (pos 2)) (one (pos 7)) (one (pos 1)) ∷ []) 4
    ∷ at_most feeder (task 1 (one (pos 5)) (range (pos 0) (pos 2)) (one (pos 7)) (one (pos 1)) ∷ []) 3
    ∷ at_most feeder (task 1 (one (pos 5)) (one (pos 2)) (range (negsuc 1) (pos 8)) (one (pos 1)) ∷ []) 11
    ∷ at_most feeder (task 1 (one (pos 5)) (one (pos 2)) (one (pos 7)) (range (negsuc 6) (pos 3)) ∷ []) 11
    -- the number of resources less one: of one, of two that are not neighbours, of three
    ∷ at_most crews (task 4 (one (pos 5)) (one (pos 2)) (one (pos 7)) (one (pos 1)) ∷ []) 1
    ∷ at_most crews (task 5 (one (pos 5)) (one (pos 2)) (one (pos 7)) (one (pos 1)) ∷ []) 2
    ∷ at_most crews (task 7 (one (pos 5)) (one (pos 2)) (one (pos 7)) (one (pos 1)) ∷ []) 3
    -- tasks are added up: 2 + 4 + 2 + 8 + 5, and 3
    ∷ at_most crews
    (task 7 (range (negsuc 1) (pos 2)) (range (pos 1) (pos 3)) (range (negsuc 2) (pos 5)) (range (negsuc 5) (negsuc 0))
    ∷ task 2 (one (pos 0)) (one (pos 1)) (one (pos 1)) (range (negsuc 1) (pos 1)) ∷ []) 25
    -- case 9: 1 + 0 + 1 + 1 + 0, and 6 + 0 + 6 + 4 + 1
    ∷ at_most case9_frame case9_before 21
    -- the bound takes no step: a plan without any allowed plan has a bound too; and a refusal of the checks comes first
    ∷ at_most feeder (here (pos 5) (pos 1) (pos 6) (negsuc 0) ∷ []) 1
    ∷ record { call = MostPasses; frame = feeder; tasks = task 1 (range (pos 2) (pos 1)) (one (pos 0)) (one (pos 2)) (one (pos 0)) ∷ []; result = refused (RangeOutside 0) (task 1 (range (pos 2) (pos 1)) (one (pos 0)) (one (pos 2)) (one (pos 0)) ∷ []) }
    ∷ record { call = MostPasses; frame = feeder; tasks = on_day5 2 1 ∷ []; result = refused (SetOutside 0) (on_day5 2 1 ∷ []) }
    -- case 9 takes three passes: with none it stays, after one and two none has yet changed nothing, and more than three are not made
    ∷ makes 0 case9_frame case9_before (done 0 case9_before)
    ∷ makes 1 case9_frame case9_before (done 0 case9_stepped)
    ∷ makes 2 case9_frame case9_before (done 0 case9_after)
    ∷ makes 3 case9_frame case9_before (done 3 case9_after)
    ∷ makes 4 case9_frame case9_before (done 3 case9_after)
    ∷ makes 21 case9_frame case9_before (done 3 case9_after)
    -- on from what two left, one pass more says that it is settled
    ∷ makes 1 case9_frame case9_after (done 1 case9_after)
    -- no plan is found where the pass that finds it is made
    ∷ makes 0 feeder (here (pos 5) (pos 1) (pos 6) (negsuc 0) ∷ []) (done 0 (here (pos 5) (pos 1) (pos 6) (negsuc 0) ∷ []))
    ∷ makes 1 feeder (here (pos 5) (pos 1) (pos 6) (negsuc 0) ∷ []) (refused NoPlan (here (pos 5) (pos 1) (pos 6) (negsuc 0) ∷ []))
    ∷ makes 1 late_frame (late 3) (done 0 (late 2))
    ∷ makes 2 late_frame (late 3) (refused NoPlan (late 3))
    ∷ at_most late_frame (late 3) 3
    -- the bound is reached
    ∷ at_most chain_frame (chain 3 6) 3
    ∷ makes 1 chain_frame (chain 3 6) (done 0 (chain 3 4))
    ∷ makes 2 chain_frame (chain 3 6) (done 0 (chain 2 4))
    ∷ makes 3 chain_frame (chain 3 6) (done 3 (chain 2 4))
    ∷ record { call = Settle; frame = chain_frame; tasks = chain 3 6; result = done 3 (chain 2 4) }
    -- at most: B has to take what A leaves, which the first pass finds
    ∷ makes 1 (unbanded AtMost (limit (negsuc 2))) (here (pos 0) (pos 1) (pos 1) (negsuc 0) ∷ task 1 (one (pos 0)) (one (pos 1)) (one (pos 1)) (range (negsuc 3) (pos 0)) ∷ [])
    (done 0 (here (pos 0) (pos 1) (pos 1) (negsuc 0) ∷ task 1 (one (pos 0)) (one (pos 1)) (one (pos 1)) (range (negsuc 3) (negsuc 1)) ∷ []))
    ∷ makes 2 (unbanded AtMost (limit (negsuc 2))) (here (pos 0) (pos 1) (pos 1) (negsuc 0) ∷ task 1 (one (pos 0)) (one (pos 1)) (one (pos 1)) (range (negsuc 3) (pos 0)) ∷ [])
    (done 2 (here (pos 0) (pos 1) (pos 1) (negsuc 0) ∷ task 1 (one (pos 0)) (one (pos 1)) (one (pos 1)) (range (negsuc 3) (negsuc 1)) ∷ []))
    -- a level that rises on day 1 bars the job from then on, which the first pass finds; bands are no part of the bound
    ∷ at_most (rising 0) (waiting 3) 7
    ∷ makes 1 (rising 0) (waiting 3) (done 0 (waiting 0))
    ∷ makes 2 (rising 0) (waiting 3) (done 2 (waiting 0))
    -- a refusal of the checks, with no pass to make too, and of bands
    ∷ makes 0 feeder (on_day5 2 1 ∷ []) (refused (SetOutside 0) (on_day5 2 1 ∷ []))
    ∷ makes 0 (rising 1) (waiting 3) (refused (BandOutside 0) (waiting 3))
    ∷ record { call = MostPasses; frame = rising 1; tasks = waiting 3; result = refused (BandOutside 0) (waiting 3) }
    ∷ []

-- "Days tried on both sides": cases 1 to 9 of the page, and more, each with its answer as the page prints it or as worked out by hand.
use Rattle.std.specs.Prelude.{ℕ, zero, suc, replicate, List, [], ◌∷◌, ◌++◌, ℤ, pos, negsuc}
use Rattle.integers.specs.Hull.{Range, range}
use Rattle.plan.specs.declared.Task.{Task}
use Rattle.plan.specs.declared.Resource.{Resource}
use Rattle.plan.specs.declared.Kind.TheVariants.{Plain}
use Rattle.plan.specs.declared.Sense.{Sense}
use Rattle.plan.specs.declared.Sense.TheVariants.{AtMost, AtLeast}
use Rattle.plan.specs.declared.Call.{Call}
use Rattle.plan.specs.declared.Call.TheVariants.{Check, Balance, Step, Pass, Settle}
use Rattle.plan.specs.declared.Refusal.TheVariants.{TooManyTasks, ResourceCount, RepeatedIdentifier, LimitOutside, RangeOutside, SetOutside, NoPlan}
use Rattle.plan.specs.Days.{span_of}
use Rattle.plan.specs.Powers.{power, power_span_of}
use Rattle.rules.specs.Frame.{Frame, unbanded}
use Rattle.rules.specs.Calls.{Result, done, refused}

-- a plan, a call, and what it answers and leaves
pub record Case : Type 0 where
  pub call : Call
  pub frame : Frame
  pub tasks : List Task
  pub result : Result

-- ---- plans in few words
abbrev pub one : ℤ → Range
one v = range v v

abbrev pub task : ℕ → Range → Range → Range → Range → Task
task s o d e h = record { set = s; origin = span_of o; duration = span_of d; end = span_of e; height = power_span_of h }

-- on the one resource; written origin / duration / end / height
abbrev pub here : ℤ → ℤ → ℤ → ℤ → Task
here o d e h = task 1 (one o) (one d) (one e) (one h)

abbrev pub resource : ℤ → ℤ → Resource
resource i l = record { id = i; limit = power l; kind = Plain }

abbrev pub limit : ℤ → List Resource
limit l = resource (pos 7) l ∷ []

abbrev settles : Sense → List Resource → List Task → ℕ → List Task → Case
settles s qs ts n us = record { call = Settle; frame = unbanded s qs; tasks = ts; result = done n us }

abbrev has_none : Sense → List Resource → List Task → Case
has_none s qs ts = record { call = Settle; frame = unbanded s qs; tasks = ts; result = refused NoPlan ts }

-- ---- the page's cases
abbrev case_a : Task
case_a = here (pos 3) (pos 2) (pos 5) (pos 2)

abbrev pub case7_before : List Task
case7_before = case_a ∷ task 1 (range (pos 0) (pos 9)) (one (pos 1)) (range (pos 1) (pos 10)) (one (negsuc 1)) ∷ []

abbrev pub case7_after : List Task
case7_after = case_a ∷ task 1 (range (pos 3) (pos 4)) (one (pos 1)) (range (pos 4) (pos 5)) (one (negsuc 1)) ∷ []

abbrev case9_first : Task
case9_first = task 1 (range (pos 1) (pos 2)) (one (pos 2)) (range (pos 3) (pos 4)) (range (pos 0) (pos 1))

abbrev case9_resources : List Resource
case9_resources = resource (pos 7) (pos 4) ∷ resource (pos 9) (pos 3) ∷ []

abbrev pub case9_frame : Frame
case9_frame = unbanded AtLeast case9_resources

abbrev pub case9_before : List Task
case9_before = case9_first ∷ task 3 (range (pos 0) (pos 6)) (one (pos 2)) (range (pos 2) (pos 8)) (range (pos 0) (pos 4)) ∷ []

-- its first resource's step needs the second task on day 2; only the second pass finds that task's least height
abbrev pub case9_stepped : List Task
case9_stepped = case9_first ∷ task 1 (range (pos 1) (pos 2)) (one (pos 2)) (range (pos 3) (pos 4)) (range (pos 0) (pos 4)) ∷ []

abbrev pub case9_after : List Task
case9_after = case9_first ∷ task 1 (range (pos 1) (pos 2)) (one (pos 2)) (range (pos 3) (pos 4)) (range (pos 3) (pos 4)) ∷ []

abbrev pub page_cases : List Case
page_cases =
    -- 1: no task, limit 3: settled, 1 pass
    settles AtLeast (limit (pos 3)) [] 1 []
    -- 2: 5/1/6/-1, limit 0: refusal 7; height 0: settled, 1 pass
    ∷ has_none AtLeast (limit (pos 0)) (here (pos 5) (pos 1) (pos 6) (negsuc 0) ∷ [])
    ∷ settles AtLeast (limit (pos 0)) (here (pos 5) (pos 1) (pos 6) (pos 0) ∷ []) 1 (here (pos 5) (pos 1) (pos 6) (pos 0) ∷ [])
    -- 3: 5/0/5/-1, limit 0: settled, 1 pass (covers no day)
    ∷ settles AtLeast (limit (pos 0)) (here (pos 5) (pos 0) (pos 5) (negsuc 0) ∷ []) 1 (here (pos 5) (pos 0) (pos 5) (negsuc 0) ∷ [])
    -- 4: 5/1/7/0, limit 0: refusal 7
    ∷ has_none AtLeast (limit (pos 0)) (here (pos 5) (pos 1) (pos 7) (pos 0) ∷ [])
    -- 5: at most 4, two tasks 1/1/2, heights 2 and 2: settled; 2 and 3: refusal 7
    ∷ settles AtMost (limit (pos 4)) (here (pos 1) (pos 1) (pos 2) (pos 2) ∷ here (pos 1) (pos 1) (pos 2) (pos 2) ∷ []) 1
    (here (pos 1) (pos 1) (pos 2) (pos 2) ∷ here (pos 1) (pos 1) (pos 2) (pos 2) ∷ [])
    ∷ has_none AtMost (limit (pos 4)) (here (pos 1) (pos 1) (pos 2) (pos 2) ∷ here (pos 1) (pos 1) (pos 2) (pos 3) ∷ [])
    -- 6: limit 2, tasks 1/2/3/2 and 5/2/7/2: settled; days 3 and 4 are bare
    ∷ settles AtLeast (limit (pos 2)) (here (pos 1) (pos 2) (pos 3) (pos 2) ∷ here (pos 5) (pos 2) (pos 7) (pos 2) ∷ []) 1
    (here (pos 1) (pos 2) (pos 3) (pos 2) ∷ here (pos 5) (pos 2) (pos 7) (pos 2) ∷ [])
    -- 7: limit 0, A 3/2/5/2, B origin 0..9, duration 1, end 1..10, height -2: B ends with origin 3..4, end 4..5, after 2 passes
    ∷ settles AtLeast (limit (pos 0)) case7_before 2 case7_after
    -- 8: limit -3, A 2/1/3/-2, B origin 1..3, duration 1, end 2..4, height -2: day 2 is barred for B, its origin stays 1..3, 1 pass
    ∷ settles AtLeast (limit (negsuc 2))
    (here (pos 2) (pos 1) (pos 3) (negsuc 1) ∷ task 1 (range (pos 1) (pos 3)) (one (pos 1)) (range (pos 2) (pos 4)) (one (negsuc 1)) ∷ []) 1
    (here (pos 2) (pos 1) (pos 3) (negsuc 1) ∷ task 1 (range (pos 1) (pos 3)) (one (pos 1)) (range (pos 2) (pos 4)) (one (negsuc 1)) ∷ [])
    -- 9: at least; resources 7 (limit 4), 9 (limit 3): settled 3
    ∷ settles AtLeast case9_resources case9_before 3 case9_after
    ∷ []

-- ---- cases of our own
abbrev refuses : Sense → List Resource → List Task → Result → Case
refuses s qs ts x = record { call = Settle; frame = unbanded s qs; tasks = ts; result = x }

abbrev pub two : ℤ → ℤ → List Resource
two a b = resource (pos 7) a ∷ resource (pos 9) b ∷ []

-- a job on one resource or the other
abbrev pub either : ℤ → ℤ → ℤ → ℤ → Task
either o d e h = task 3 (one o) (one d) (one e) (one h)

-- calls on case 9 other than settling
abbrev pub case9_calls : List Case
case9_calls =
    record { call = Step 0; frame = case9_frame; tasks = case9_before; result = done 0 case9_stepped }
    ∷ record { call = Pass; frame = case9_frame; tasks = case9_before; result = done 0 case9_stepped }
    ∷ []

abbrev needs_first_others : List Task
needs_first_others =
    task 1 (range (pos 0) (pos 3)) (one (pos 1)) (range (pos 1) (pos 4)) (one (pos 2))
    ∷ task 1 (range (pos 5) (pos 6)) (one (pos 2)) (range (pos 7) (pos 8)) (one (pos 1)) ∷ []

abbrev crews : ℕ → List Resource
crews zero = []
crews (suc n) = resource (pos n) (pos 0) ∷ crews n

-- four feeders, and a job on day 5 on one of a set of them, with so much power
abbrev feeders : List Resource
feeders = resource (pos 1) (pos 1) ∷ resource (pos 2) (pos 1) ∷ resource (pos 3) (pos 1) ∷ resource (pos 4) (pos 0) ∷ []

abbrev on_day5 : ℕ → ℕ → Task
on_day5 s h = task s (one (pos 5)) (one (pos 1)) (one (pos 6)) (one (pos h))

abbrev pub own_cases : List Case
own_cases =
    -- a negative height does not count while the task may still go elsewhere: B leaves the first resource, and A stands
    settles AtLeast (two (pos 0) (negsuc 4)) (here (pos 0) (pos 1) (pos 1) (pos 1) ∷ either (pos 0) (pos 1) (pos 1) (negsuc 1) ∷ []) 2
    (here (pos 0) (pos 1) (pos 1) (pos 1) ∷ task 2 (one (pos 0)) (one (pos 1)) (one (pos 1)) (one (negsuc 1)) ∷ [])
    -- two jobs back to back do not clash
    ∷ settles AtMost (limit (pos 2)) (here (pos 1) (pos 1) (pos 2) (pos 2) ∷ here (pos 2) (pos 1) (pos 3) (pos 2) ∷ []) 1
    (here (pos 1) (pos 1) (pos 2) (pos 2) ∷ here (pos 2) (pos 1) (pos 3) (pos 2) ∷ [])
    -- a day is barred with no task sure there: every day is too high for the one job
    ∷ has_none AtMost (limit (pos 1)) (task 1 (range (pos 0) (pos 3)) (one (pos 1)) (range (pos 1) (pos 4)) (one (pos 2)) ∷ [])
    -- unbalanced: the end follows from origin and duration, which may be 0
    ∷ settles AtLeast (limit (pos 0)) (task 1 (one (pos 5)) (range (pos 0) (pos 2)) (range (pos 5) (pos 9)) (one (pos 0)) ∷ []) 2
    (task 1 (one (pos 5)) (range (pos 0) (pos 2)) (range (pos 5) (pos 7)) (one (pos 0)) ∷ [])
    -- balance alone finds no plan
    ∷ has_none AtMost (limit (pos 9)) (here (pos 0) (pos 5) (pos 3) (pos 1) ∷ [])
    -- height: B has to bring what A lacks
    ∷ settles AtLeast (limit (pos 3)) (here (pos 0) (pos 1) (pos 1) (pos 1) ∷ task 1 (one (pos 0)) (one (pos 1)) (one (pos 1)) (range (pos 0) (pos 4)) ∷ []) 2
    (here (pos 0) (pos 1) (pos 1) (pos 1) ∷ task 1 (one (pos 0)) (one (pos 1)) (one (pos 1)) (range (pos 2) (pos 4)) ∷ [])
    -- the same at most: every height and limit negated
    ∷ settles AtMost (limit (negsuc 2)) (here (pos 0) (pos 1) (pos 1) (negsuc 0) ∷ task 1 (one (pos 0)) (one (pos 1)) (one (pos 1)) (range (negsuc 3) (pos 0)) ∷ []) 2
    (here (pos 0) (pos 1) (pos 1) (negsuc 0) ∷ task 1 (one (pos 0)) (one (pos 1)) (one (pos 1)) (range (negsuc 3) (negsuc 1)) ∷ [])
    -- negative limit: A takes all that may be taken on days 0 and 1
    ∷ settles AtLeast (limit (negsuc 0)) (here (pos 0) (pos 2) (pos 2) (negsuc 0) ∷ task 1 (range (pos 0) (pos 4)) (one (pos 1)) (range (pos 1) (pos 5)) (one (negsuc 0)) ∷ []) 2
    (here (pos 0) (pos 2) (pos 2) (negsuc 0) ∷ task 1 (range (pos 2) (pos 4)) (one (pos 1)) (range (pos 3) (pos 5)) (one (negsuc 0)) ∷ [])
    -- duration: day 2 is barred, so B ends before it, at most two days long
    ∷ settles AtLeast (limit (negsuc 0)) (here (pos 2) (pos 1) (pos 3) (negsuc 0) ∷ task 1 (one (pos 0)) (range (pos 1) (pos 4)) (range (pos 1) (pos 4)) (one (negsuc 0)) ∷ []) 3
    (here (pos 2) (pos 1) (pos 3) (negsuc 0) ∷ task 1 (one (pos 0)) (range (pos 1) (pos 2)) (range (pos 1) (pos 2)) (one (negsuc 0)) ∷ [])
    -- need: A on day 1 has to be joined by B, which gets its resource, its days and its height
    ∷ settles AtLeast (two (pos 2) (pos 0)) (here (pos 1) (pos 1) (pos 2) (pos 1) ∷ task 3 (range (pos 0) (pos 3)) (one (pos 1)) (range (pos 1) (pos 4)) (range (pos 0) (pos 1)) ∷ []) 3
    (here (pos 1) (pos 1) (pos 2) (pos 1) ∷ task 1 (one (pos 1)) (one (pos 1)) (one (pos 2)) (one (pos 1)) ∷ [])
    -- barred from one resource, short on the other
    ∷ has_none AtLeast (two (pos 5) (pos 5)) (either (pos 0) (pos 1) (pos 1) (pos 1) ∷ [])
    -- the ends of every range
    ∷ settles AtLeast (limit (pos 1000000)) (here (pos 99999) (pos 1) (pos 100000) (pos 1000000) ∷ []) 1 (here (pos 99999) (pos 1) (pos 100000) (pos 1000000) ∷ [])
    ∷ settles AtMost (limit (negsuc 999999)) (here (negsuc 99999) (pos 1) (negsuc 99998) (negsuc 999999) ∷ []) 1 (here (negsuc 99999) (pos 1) (negsuc 99998) (negsuc 999999) ∷ [])
    -- each refusal of a list, and which comes first
    ∷ refuses AtLeast [] (here (pos 5) (pos 1) (pos 4) (pos 0) ∷ []) (refused ResourceCount (here (pos 5) (pos 1) (pos 4) (pos 0) ∷ []))
    ∷ refuses AtLeast (two (pos 0) (pos 1000001) ++ resource (pos 9) (pos 0) ∷ []) [] (refused (RepeatedIdentifier 2) [])
    ∷ refuses AtMost (two (pos 0) (pos 1000001)) [] (refused (LimitOutside 1) [])
    ∷ refuses AtMost (limit (pos 0)) (here (pos 1) (pos 1) (pos 2) (pos 0) ∷ task 2 (one (pos 100001)) (one (pos 1)) (one (pos 2)) (one (pos 0)) ∷ [])
    (refused (RangeOutside 1) (here (pos 1) (pos 1) (pos 2) (pos 0) ∷ task 2 (one (pos 100001)) (one (pos 1)) (one (pos 2)) (one (pos 0)) ∷ []))
    ∷ refuses AtMost (limit (pos 0)) (task 2 (one (pos 1)) (one (pos 1)) (one (pos 2)) (one (pos 0)) ∷ task 1 (one (pos 1)) (one (pos 1)) (range (pos 2) (pos 1)) (one (pos 0)) ∷ [])
    (refused (SetOutside 0) (task 2 (one (pos 1)) (one (pos 1)) (one (pos 2)) (one (pos 0)) ∷ task 1 (one (pos 1)) (one (pos 1)) (range (pos 2) (pos 1)) (one (pos 0)) ∷ []))
    ∷ refuses AtMost (limit (pos 0)) (task 0 (one (pos 1)) (one (pos 1)) (one (pos 2)) (one (pos 0)) ∷ [])
    (refused (SetOutside 0) (task 0 (one (pos 1)) (one (pos 1)) (one (pos 2)) (one (pos 0)) ∷ []))
    -- one resource step: all needs come before bars. Day 6 needs the third task, days 4 and 8 are barred to it: only origin 5 is left.
    ∷ record {
      call = Step 0;
      frame = unbanded AtLeast (limit (pos 2));
      tasks = needs_first_others ++ task 1 (range (pos 0) (pos 6)) (one (pos 3)) (range (pos 3) (pos 9)) (one (pos 1)) ∷ [];
      result = done 0 (needs_first_others ++ here (pos 5) (pos 3) (pos 8) (pos 1) ∷ []);
    }
    -- balance alone, in three tasks: each of the six cuts
    ∷ record {
      call = Balance;
      frame = unbanded AtLeast (limit (pos 0));
      tasks = task 1 (range (pos 0) (pos 20)) (one (pos 2)) (range (pos 10) (pos 12)) (one (pos 0)) ∷ task 1 (one (pos 5)) (range (pos 2) (pos 3)) (range (pos 0) (pos 20)) (one (pos 0)) ∷ task 1 (range (pos 5) (pos 6)) (range (pos 0) (pos 100)) (range (pos 10) (pos 12)) (one (pos 0)) ∷ [];
      result = done 0 (task 1 (range (pos 8) (pos 10)) (one (pos 2)) (range (pos 10) (pos 12)) (one (pos 0)) ∷ task 1 (one (pos 5)) (range (pos 2) (pos 3)) (range (pos 7) (pos 8)) (one (pos 0)) ∷ task 1 (range (pos 5) (pos 6)) (range (pos 4) (pos 7)) (range (pos 10) (pos 12)) (one (pos 0)) ∷ []);
    }
    -- duration after a barred day
    ∷ record {
      call = Step 0;
      frame = unbanded AtLeast (limit (negsuc 0));
      tasks = here (pos 2) (pos 1) (pos 3) (negsuc 0) ∷ task 1 (range (pos 2) (pos 6)) (range (pos 1) (pos 9)) (range (pos 3) (pos 8)) (one (negsuc 0)) ∷ [];
      result = done 0 (here (pos 2) (pos 1) (pos 3) (negsuc 0) ∷ task 1 (range (pos 3) (pos 6)) (range (pos 1) (pos 5)) (range (pos 4) (pos 8)) (one (negsuc 0)) ∷ []);
    }
    -- list order
    ∷ record {
      call = Pass;
      frame = unbanded AtLeast (two (pos 5) (pos 2));
      tasks = task 3 (one (pos 0)) (one (pos 1)) (one (pos 1)) (range (pos 0) (pos 4)) ∷ [];
      result = done 0 (task 2 (one (pos 0)) (one (pos 1)) (one (pos 1)) (range (pos 2) (pos 4)) ∷ []);
    }
    -- list order once more: examples/mobile-units.txt. In the second pass the step of the first feeder takes a unit from the second, whose own step
    -- then needs the other one
    ∷ settles AtLeast feeders (on_day5 1 0 ∷ on_day5 2 0 ∷ on_day5 4 0 ∷ on_day5 5 1 ∷ on_day5 3 1 ∷ on_day5 10 1 ∷ []) 3 (on_day5 1 0 ∷ on_day5 2 0 ∷ on_day5 4 0 ∷ on_day5 4 1 ∷ on_day5 1 1 ∷ on_day5 2 1 ∷ [])
    -- a sure task, unbalanced, is needed too
    ∷ record {
      call = Step 0;
      frame = unbanded AtLeast (limit (pos 3));
      tasks = task 1 (range (pos 0) (pos 2)) (one (pos 1)) (range (pos 3) (pos 9)) (one (pos 3)) ∷ [];
      result = done 0 (task 1 (one (pos 2)) (one (pos 1)) (one (pos 3)) (one (pos 3)) ∷ []);
    }
    -- height under a limit below 0
    ∷ settles AtLeast (limit (negsuc 2)) (task 1 (one (pos 0)) (one (pos 1)) (one (pos 1)) (range (negsuc 4) (negsuc 0)) ∷ []) 2 (task 1 (one (pos 0)) (one (pos 1)) (one (pos 1)) (range (negsuc 2) (negsuc 0)) ∷ [])
    -- 3 of no neighbours; 4 of two, the first
    ∷ refuses AtLeast (two (pos 0) (pos 0) ++ resource (pos 7) (pos 0) ∷ []) [] (refused (RepeatedIdentifier 2) [])
    ∷ refuses AtLeast (two (pos 1000001) (pos 1000001)) [] (refused (LimitOutside 0) [])
    -- 1 and 2 at their ends
    ∷ record { call = Check; frame = unbanded AtLeast (crews 16); tasks = replicate 256 (here (pos 0) (pos 0) (pos 0) (pos 0)); result = done 0 (replicate 256 (here (pos 0) (pos 0) (pos 0) (pos 0))) }
    ∷ record { call = Check; frame = unbanded AtLeast (crews 17); tasks = []; result = refused ResourceCount [] }
    ∷ record { call = Check; frame = unbanded AtLeast []; tasks = replicate 257 (here (pos 0) (pos 0) (pos 0) (pos 0)); result = refused TooManyTasks (replicate 257 (here (pos 0) (pos 0) (pos 0) (pos 0))) }
    ∷ []

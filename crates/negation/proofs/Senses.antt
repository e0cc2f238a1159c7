-- A call worked out at least, on the plan as it is for its sense, is the call as it is for its sense; and for its sense twice is as it was.
use Rattle.std.specs.Prelude.{Ok, Err}
use Rattle.plan.specs.Refusals.{Answer}
use mathlib.Core.Path.{◌≡◌, refl, sym, ap, ◌∙◌}
use mathlib.Core.List.{List}
use Rattle.plan.specs.declared.Task.{Task}
use Rattle.plan.specs.declared.Resource.{Resource}
use Rattle.plan.specs.declared.Band.{Band}
use Rattle.plan.specs.declared.Call.{Call}
use Rattle.plan.specs.declared.Sense.{Sense}
use Rattle.plan.specs.declared.Sense.TheVariants.{AtMost, AtLeast}
use Rattle.rules.specs.Frame.{Frame, framed}
use Rattle.rules.specs.Calls.{Result, refused, check, call_of, result_of}
use Rattle.rules.proofs.Negation.{negateds_back, call_negated, check_negated, result_back, resources_back, bands_back}
use Rattle.negation.specs.Senses.{tasks_for, resources_for, bands_for, frame_for, result_for}

abbrev with_sense : Sense → Frame → Frame
with_sense sense f = framed sense f.resources f.bands

pub check_for : (f : Frame) (ts : List Task) → check (frame_for f) (tasks_for f.sense ts) ≡ check f ts
check_for f ts = go f.sense
  where
    go : (sense : Sense) → check (frame_for (with_sense sense f)) (tasks_for sense ts) ≡ check (with_sense sense f) ts
    go AtLeast = refl
    go AtMost = check_negated (with_sense AtMost f) ts

pub call_for : (c : Call) (f : Frame) (ts : List Task) → call_of c (frame_for f) (tasks_for f.sense ts) ≡ result_for f.sense (call_of c f ts)
call_for c f ts = go f.sense
  where
    go : (sense : Sense) → call_of c (frame_for (with_sense sense f)) (tasks_for sense ts) ≡ result_for sense (call_of c (with_sense sense f) ts)
    go AtLeast = refl
    go AtMost = call_negated c (with_sense AtMost f) ts

result_twice : (sense : Sense) (x : Result) → result_for sense (result_for sense x) ≡ x
result_twice AtLeast x = refl
result_twice AtMost x = result_back x

pub resources_twice : (sense : Sense) (qs : List Resource) → resources_for sense (resources_for sense qs) ≡ qs
resources_twice AtLeast qs = refl
resources_twice AtMost qs = resources_back qs

pub bands_twice : (sense : Sense) (bs : List Band) → bands_for sense (bands_for sense bs) ≡ bs
bands_twice AtLeast bs = refl
bands_twice AtMost bs = bands_back bs

-- what was answered and left at least, for its sense
pub call_back : (sense : Sense) (a : Answer) (ts us : List Task) (x : Result) → result_of a (tasks_for sense ts) us ≡ result_for sense x → result_of a ts (tasks_for sense us) ≡ x
call_back sense a ts us x e = sym (back sense a) ∙ ap (result_for sense) e ∙ result_twice sense x
  where
    back : (sense : Sense) (a : Answer) → result_for sense (result_of a (tasks_for sense ts) us) ≡ result_of a ts (tasks_for sense us)
    back AtLeast a = refl
    back AtMost (Ok n) = refl
    back AtMost (Err f) = ap (refused f) (negateds_back ts)

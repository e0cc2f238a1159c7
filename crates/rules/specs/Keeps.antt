-- What it means that a step loses nothing: the words in which demand 3 is stated.
use Rattle.plan.specs.Refusals.{accepted}
use Rattle.std.specs.Prelude.{◌≡◌, true, false, List, [], ◌∷◌}
use Rattle.integers.specs.Hull.{Sub}
use Rattle.plan.specs.declared.Task.{Task}
use Rattle.plan.specs.Days.{days_of}
use Rattle.plan.specs.Powers.{powers_of}
use Rattle.plan.specs.Sets.{SubSet}
use Rattle.rules.specs.Frame.{Frame}
use Rattle.rules.specs.Allowed.{Choice, inside_all, allowed}
use Rattle.rules.specs.Listing.{plans}
use Rattle.rules.specs.Calls.{check}

-- the set and each range of u lie inside those of t
pub record SubTask (u t : Task) : Type 0 where
  pub set : SubSet u.set t.set
  pub origin : Sub (days_of u.origin) (days_of t.origin)
  pub duration : Sub (days_of u.duration) (days_of t.duration)
  pub end : Sub (days_of u.end) (days_of t.end)
  pub height : Sub (powers_of u.height) (powers_of t.height)

-- as many tasks, each inside the one at its place
pub data Subs : List Task → List Task → Type 0 where
  no_subs : Subs [] []
  more_subs : {u t : Task} {us ts : List Task} → SubTask u t → Subs us ts → Subs (u ∷ us) (t ∷ ts)

-- "keeps the allowed plans the very same ones": us has the allowed choices of ts, as choices and as listed; it passes the checks again and
-- lies inside ts
pub record Keeps (f : Frame) (ts us : List Task) : Type 0 where
  pub choices : (cs : List Choice) → allowed f cs ≡ true → inside_all us cs ≡ inside_all ts cs
  pub same : plans f us ≡ plans f ts
  pub accepted : check f us ≡ accepted
  pub inside : Subs us ts

-- "the ranges entered held none": no choice inside ts is allowed, and none is listed
pub record HoldsNone (f : Frame) (ts : List Task) : Type 0 where
  pub choices : (cs : List Choice) → allowed f cs ≡ true → inside_all ts cs ≡ false
  pub none : plans f ts ≡ []

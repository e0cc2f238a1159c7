-- The allowed plans inside a plan's ranges, by plain listing: every choice of every task, filtered.
use Rattle.std.specs.Prelude.{ℕ, List, [], ◌∷◌, ◌++◌, map, Bool, true, false, ℤ, eqb, length}
use Rattle.integers.specs.Whole.{eq_z}
use Rattle.integers.specs.Tests.{and, filter}
use Rattle.integers.specs.Hull.{values}
use Rattle.plan.specs.declared.Task.{Task}
use Rattle.plan.specs.Days.{days_of}
use Rattle.plan.specs.Powers.{powers_of}
use Rattle.plan.specs.Sets.{has}
use Rattle.rules.specs.Frame.{Frame, resource_count, places_from}
use Rattle.rules.specs.Allowed.{Choice, allowed}

-- f of every x and every y, the y running first
unfoldable pub cross : {A B C : Type 0} → (A → B → C) → List A → List B → List C
cross f [] ys = []
cross f (x ∷ xs) ys = map (f x) ys ++ cross f xs ys

-- a choice is put together from its last value to its first
abbrev pub FromEnd : Type 0
FromEnd = record { end : ℤ; height : ℤ }

abbrev pub FromDuration : Type 0
FromDuration = record { duration : ℤ; rest : FromEnd }

abbrev pub FromOrigin : Type 0
FromOrigin = record { origin : ℤ; rest : FromDuration }

abbrev pub from_end : ℤ → ℤ → FromEnd
from_end e h = record { end = e; height = h }

abbrev pub from_duration : ℤ → FromEnd → FromDuration
from_duration d q = record { duration = d; rest = q }

abbrev pub from_origin : ℤ → FromDuration → FromOrigin
from_origin o q = record { origin = o; rest = q }

abbrev pub choice : ℕ → FromOrigin → Choice
choice r q = record { resource = r; origin = q.origin; duration = q.rest.duration; end = q.rest.rest.end; height = q.rest.rest.height }

-- every choice for a task, on the first n resources
unfoldable pub choices : ℕ → Task → List Choice
choices n t =
    cross choice (filter (has t.set) (places_from 0 n))
    (cross from_origin (values (days_of t.origin))
    (cross from_duration (values (days_of t.duration))
    (cross from_end (values (days_of t.end)) (values (powers_of t.height)))))

-- every choice for every task
unfoldable pub listing : ℕ → List Task → List (List Choice)
listing n [] = [] ∷ []
listing n (t ∷ ts) = cross (λ c cs. c ∷ cs) (choices n t) (listing n ts)

-- "Two plans are the same if all five values of all tasks are."
unfoldable pub same_choice : Choice → Choice → Bool
same_choice c d =
    and (eqb c.resource d.resource)
    (and (eq_z c.origin d.origin)
    (and (eq_z c.duration d.duration) (and (eq_z c.end d.end) (eq_z c.height d.height))))

unfoldable pub same_plan : List Choice → List Choice → Bool
same_plan [] [] = true
same_plan [] (d ∷ ds) = false
same_plan (c ∷ cs) [] = false
same_plan (c ∷ cs) (d ∷ ds) = and (same_choice c d) (same_plan cs ds)

unfoldable pub plans : Frame → List Task → List (List Choice)
plans f ts = filter (allowed f) (listing (resource_count f) ts)

-- how many there are, counted by plain listing
unfoldable pub count : Frame → List Task → ℕ
count f ts = length (plans f ts)

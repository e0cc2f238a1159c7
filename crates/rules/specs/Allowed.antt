-- "An allowed plan": a choice for each task, and when such a choice keeps the rules. Both senses are stated directly.
use Rattle.std.specs.Prelude.{ℕ, List, [], ◌∷◌, Bool, true, false, ℤ, pos, ◌+ℤ◌, eqb}
use Rattle.std.proofs.Math.IntN.{pred_ℤ}
use Rattle.std.specs.Int.Signed.{le_z, lt_z}
use Rattle.integers.specs.Whole.{eq_z}
use Rattle.integers.specs.Tests.{if, and, implies, all, filter}
use Rattle.integers.specs.Sums.{sum_of}
use Rattle.integers.specs.Least.{least_of, greatest_of}
use Rattle.integers.specs.Hull.{range, within, values}
use Rattle.plan.specs.declared.Task.{Task}
use Rattle.plan.specs.declared.Sense.{Sense}
use Rattle.plan.specs.declared.Sense.TheVariants.{AtMost, AtLeast}
use Rattle.plan.specs.Days.{days_of}
use Rattle.plan.specs.Powers.{powers_of}
use Rattle.plan.specs.Sets.{has}
use Rattle.rules.specs.Frame.{Frame, places, Floor, floor_at}

-- "It chooses for each task one resource and one value in each range"
pub record Choice : Type 0 where
  pub resource : ℕ
  pub origin : ℤ
  pub duration : ℤ
  pub end : ℤ
  pub height : ℤ

-- the choice lies in the task's set and ranges
unfoldable pub inside : Task → Choice → Bool
inside t c =
    and (has t.set c.resource)
    (and (within (days_of t.origin) c.origin)
    (and (within (days_of t.duration) c.duration)
    (and (within (days_of t.end) c.end) (within (powers_of t.height) c.height))))

-- one choice for each task, in the tasks' order
unfoldable pub inside_all : List Task → List Choice → Bool
inside_all [] [] = true
inside_all [] (c ∷ cs) = false
inside_all (t ∷ ts) [] = false
inside_all (t ∷ ts) (c ∷ cs) = and (inside t c) (inside_all ts cs)

-- "so that origin + duration = end for each task"
unfoldable pub joined : Choice → Bool
joined c = eq_z (c.origin +ℤ c.duration) c.end

-- "A task covers the days from origin to end - 1. So a task of duration 0 covers none."
unfoldable pub covers : ℕ → ℤ → Choice → Bool
covers r i c = and (eqb c.resource r) (and (le_z c.origin i) (lt_z i c.end))

unfoldable pub covered_days : Choice → List ℤ
covered_days c = values (range c.origin (pred_ℤ c.end))

-- "the heights of all tasks covering that day on that resource add up to"
unfoldable pub adds : ℕ → ℤ → Choice → ℤ
adds r i c = if (covers r i c) c.height (pos 0)

unfoldable pub level : ℕ → ℤ → List Choice → ℤ
level r i cs = sum_of (adds r i) cs

-- "at least (or at most) the limit"
unfoldable pub meets : Sense → ℤ → ℤ → Bool
meets AtLeast limit x = le_z limit x
meets AtMost limit x = le_z x limit

unfoldable pub meets_on : Sense → ℕ → Floor → List Choice → ℤ → Bool
meets_on sense r limit cs i = meets sense (limit.on i) (level r i cs)

-- "on every resource and every day covered there by at least one task"; "A day that no task covers is not checked"
unfoldable pub holds_covered : Sense → ℕ → Floor → List Choice → Bool
holds_covered sense r limit cs = all (λ c. implies (eqb c.resource r) (all (meets_on sense r limit cs) (covered_days c))) cs

-- "the tasks placed there"
unfoldable pub placed_on : ℕ → List Choice → List Choice
placed_on r cs = filter (λ c. eqb c.resource r) cs

-- "the days from the least origin to one before the greatest end of the tasks placed there", "tasks of duration 0 taking part in both"
unfoldable pub held_days : List Choice → List ℤ
held_days [] = []
held_days (c ∷ cs) = values (range (least_of (λ c. c.origin) c.origin cs) (pred_ℤ (greatest_of (λ c. c.end) c.end cs)))

-- "On a held one", those days "are all checked"
unfoldable pub holds : Sense → ℕ → Floor → List Choice → Bool
holds sense r limit cs = if limit.held (all (meets_on sense r limit cs) (held_days (placed_on r cs))) (holds_covered sense r limit cs)

unfoldable pub allowed : Frame → List Choice → Bool
allowed f cs = and (all joined cs) (all (λ r. holds f.sense r (floor_at f r) cs) (places f))

-- For how many tasks arrays are lent: the constants SMALL, MIDDLE and WIDE; whether there are places for bands and room for a held resource; and what is
-- promised of a call once the header was read.
use Rattle.std.specs.Prelude.{ℕ, ◌≤◌, ◌≡◌, Bool, List, eqb, drop}
use Rattle.integers.specs.Tests.{and, or}
use Rattle.plan.specs.declared.Call.{Call}
use Rattle.plan.specs.Refusals.{Answer}
use Rattle.plan.specs.Tasks.{most_resources}
use Rattle.held.specs.Held.{some_held}
use Rattle.format.specs.declared.Mark.TheVariants.{PL, LB}
use Rattle.format.specs.Format.{marked, size, resources, bands_from}
use Rattle.format.specs.declared.Header.{Header}
use Rattle.format.specs.Reading.{run_in, read_after}
use Rattle.answers.specs.Files.{answer_number, file_result, after_read}
use Rattle.answers.specs.Outcomes.{read_outcome}

-- what a header counts fits the array of resources, and one for so many tasks
abbrev pub Counted : Header → ℕ → Type 0
Counted h n = (h.resources ≤ most_resources) × (h.tasks ≤ n)

-- a band follows so many resources; one of these is held
unfoldable pub banded_in : ℕ → List ℕ → Bool
banded_in n file = marked LB (drop (bands_from n) file)

unfoldable pub held_in : ℕ → List ℕ → Bool
held_in n file = some_held (run_in resources file (size PL) n)

abbrev pub small : ℕ
small = 16

abbrev pub middle : ℕ
middle = 64

abbrev pub wide : ℕ
wide = 128

-- so many tasks fill the arrays that are lent for them: no room is left beyond that of their events. Arrays for the most tasks have some in any case.
unfoldable pub fills_lists : ℕ → Bool
fills_lists n = or (eqb n small) (or (eqb n middle) (eqb n wide))

-- room for the events of the tasks is not enough: a band follows the resources, or, where the tasks fill the arrays, one of these is held, whose span
-- needs room as well
unfoldable pub asks_more : Header → List ℕ → Bool
asks_more h file = or (banded_in h.resources file) (and (fills_lists h.tasks) (held_in h.resources file))

-- a call's promise once the header was read, with places for so many bands (as the page says it: for `most_bands`): its number and what it leaves of the
-- output, and the answer itself
pub record HeaderAnswered (c : Call) (room : ℕ) (h : Header) (file out : List ℕ) (answer : Answer) (left : List ℕ) : Type 0 where
  pub answered : file_result (answer_number answer) left ≡ after_read c out (read_after room h file)
  pub outcome : answer ≡ read_outcome c out (read_after room h file)

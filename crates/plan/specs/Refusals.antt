-- The page's number and place for each refusal, and its number and values for each answer.
use Rattle.std.specs.Prelude.{Ok, Err}
use Rattle.std.specs.Prelude.{ℕ, List, [], ◌∷◌, Result, Ok, Err}
use Rattle.plan.specs.declared.Refusal.{Refusal}
use Rattle.plan.specs.declared.Refusal.TheVariants.{TooManyTasks, ResourceCount, RepeatedIdentifier, LimitOutside, RangeOutside, SetOutside, NoPlan, WrongMark, CutShort, BufferShort, ListShort, NoSuchResource, BandOutside}
use Rattle.plan.specs.declared.Task.{Task}
use Rattle.plan.specs.declared.Value.{Value}

-- what a check answers: accepted, or the first refusal
abbrev pub Checked : Type 0
Checked = Result (Unit {0}) Refusal

abbrev pub accepted : Checked
accepted = Ok tt

-- what a call answers: done, with the passes that settling made or those that it makes at most (0 for every other call, and where the passes that
-- settling may make were too few); or one refusal
abbrev pub Answer : Type 0
Answer = Result ℕ Refusal

-- one task after a step: what is left of it, or the first value of which nothing is left
abbrev pub Narrowed : Type 0
Narrowed = Result Task Value

-- "Numbered refusals", the first column
abbrev pub number : Refusal → ℕ
number TooManyTasks = 1
number ResourceCount = 2
number (RepeatedIdentifier k) = 3
number (LimitOutside k) = 4
number (RangeOutside k) = 5
number (SetOutside k) = 6
number NoPlan = 7
number (WrongMark k) = 8
number (CutShort k) = 9
number BufferShort = 10
number ListShort = 11
number NoSuchResource = 12
number (BandOutside k) = 13

-- the last column: a resource, a band, a task or a byte, counted from 0, or 0
abbrev pub place : Refusal → ℕ
place TooManyTasks = 0
place ResourceCount = 0
place (RepeatedIdentifier k) = k
place (LimitOutside k) = k
place (RangeOutside k) = k
place (SetOutside k) = k
place NoPlan = 0
place (WrongMark k) = k
place (CutShort k) = k
place BufferShort = 0
place ListShort = 0
place NoSuchResource = 0
place (BandOutside k) = k

-- "Where an answer is an enum, a definition gives this paper's number and values for each of the enum's cases. The promises use this
-- definition." The number of a refusal with its place, or 0 with what was answered
pub record Told : Type 0 where
  pub number : ℕ
  pub values : List ℕ

abbrev pub told : ℕ → List ℕ → Told
told n vs = record { number = n; values = vs }

abbrev pub told_refusal : Refusal → Told
told_refusal f = told (number f) (place f ∷ [])

-- done: the pass count of settling (0 where the passes that it may make were too few), or how many passes it makes at most; 0 of every other call
abbrev pub told_answer : Answer → Told
told_answer (Ok n) = told 0 (n ∷ [])
told_answer (Err f) = told_refusal f

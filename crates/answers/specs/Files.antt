-- A call on a plan file in memory: one number, and what the lent output holds then. Refusals come in the order of reading (`read_plan`: 8
-- and 9 as each record is due, 1 and 2 after the first, 13 for a 65th band, then 3, 4, 13, 5 and 6), then 12 for a place, 10 for an output shorter than the file, then 7.
use Rattle.std.specs.Prelude.{Ok, Err}
use Rattle.std.specs.Prelude.{◌≡◌, not, List, [], ◌∷◌, map, ℕ, suc, ◌+◌, ◌*◌, ◌/◌, ◌%◌, ◌^◌, ◌≤◌, eqb, length, get_or, take}
use Rattle.integers.specs.Lists.{Each}
use Rattle.integers.specs.Tests.{if}
use Rattle.plan.specs.declared.Task.{Task}
use Rattle.plan.specs.declared.Call.{Call}
use Rattle.plan.specs.declared.Call.TheVariants.{Settle, Within}
use Rattle.plan.specs.declared.Refusal.{Refusal}
use Rattle.plan.specs.declared.Refusal.TheVariants.{NoSuchResource}
use Rattle.plan.specs.Refusals.{number, place, Told, Answer, Checked}
use Rattle.rules.specs.Frame.{Frame, resource_count}
use Rattle.rules.specs.Settle.{most_passes}
use Rattle.rules.specs.Calls.{or_else, refuse_if, Result, unless_refused, placed_in, call_of}
use Rattle.format.specs.Reading.{Read, read_plan}
use Rattle.format.specs.Writing.{written, laid, room_for}

-- include/gristwaltz.h: the refusal number times 2^32 plus the place, or, for number 0, the pass count or the most passes; every place is below 2^32
abbrev pub answer_number : Answer → ℕ
answer_number (Ok n) = n
answer_number (Err f) = number f * 2 ^ 32 + place f % 2 ^ 32

-- the same of an answer in the page's number and values
abbrev pub one_number : Told → ℕ
one_number t = t.number * 2 ^ 32 + get_or t.values 0 0

pub record FileResult : Type 0 where
  pub answer : ℕ
  pub out : List ℕ

abbrev pub file_result : ℕ → List ℕ → FileResult
file_result n out = record { answer = n; out = out }

-- "On each refusal, task lists and buffers keep their entry contents."
abbrev pub refused_file : Refusal → List ℕ → FileResult
refused_file f out = file_result (answer_number (Err f)) out

-- "the writer writes exactly the file's length"
abbrev pub answer_file : Frame → List ℕ → Answer → List Task → FileResult
answer_file f out (Ok n) us = file_result n (laid (written f us) out)
answer_file f out (Err e) us = refused_file e out

-- 12, then 10, of so many resources, a file of so many bytes and an output of so many
unfoldable pub lent_due : Call → ℕ → ℕ → ℕ → Checked
lent_due c resources file out = or_else (refuse_if (not (placed_in resources c)) NoSuchResource) (room_for file out)

-- the plan's file is the file that was read (the law `read_written` of crate format)
unfoldable pub plan_call : Call → Frame → List Task → List ℕ → Result
plan_call c f ts out = unless_refused (lent_due c (resource_count f) (length (written f ts)) (length out)) ts (call_of c f ts)

abbrev pub plan_file : Call → Frame → List Task → List ℕ → FileResult
plan_file c f ts out = answer_file f out (plan_call c f ts out).answer (plan_call c f ts out).tasks

abbrev pub after_read : Call → List ℕ → Read → FileResult
after_read c out (Read.Plan f ts) = plan_file c f ts out
after_read c out (Read.Refuse e) = refused_file e out

unfoldable pub file_call : Call → List ℕ → List ℕ → FileResult
file_call c file out = after_read c out (read_plan file)

-- what is asked of the tasks of the plan that a file holds, where no output is lent
abbrev pub read_number : (List Task → ℕ) → Read → ℕ
read_number asked (Read.Plan f ts) = asked ts
read_number asked (Read.Refuse e) = answer_number (Err e)

-- whether a file is a plan that passes the entry checks
abbrev pub checked : List Task → ℕ
checked ts = 0

unfoldable pub check_file : List ℕ → ℕ
check_file file = read_number checked (read_plan file)

-- "How many passes at most"
unfoldable pub most_file : List ℕ → ℕ
most_file file = read_number most_passes (read_plan file)

-- ---- what a caller does with them
-- include/gristwaltz.h: an answer's refusal number, 0 where nothing is refused
abbrev pub refusal_in : ℕ → ℕ
refusal_in answer = answer / 2 ^ 32

-- the file to go on from: as many bytes of the output as the file has; where the call is refused, the file itself
unfoldable pub file_left : Call → List ℕ → List ℕ → List ℕ
file_left c file out = if (eqb (refusal_in (file_call c file out).answer) 0) (take (length file) (file_call c file out).out) file

-- a call that is asked for, and the output that is lent to it
pub record Asked : Type 0 where
  pub call : Call
  pub out : List ℕ

-- calls in a row, each on the file that the one before left
unfoldable pub files_left : List Asked → List ℕ → List ℕ
files_left [] file = file
files_left (a ∷ asked) file = files_left asked (file_left a.call file a.out)

-- ---- "The host cuts off long calls": settling in several calls, each of so many passes at most, on the file that the one before left
pub record Part : Type 0 where
  pub most : ℕ
  pub out : List ℕ

abbrev pub mosts : List Part → List ℕ
mosts parts = map (λ p. p.most) parts

-- every output has room for a file of so many bytes
abbrev pub Roomy : ℕ → List Part → Type 0
Roomy n parts = Each (λ p. n ≤ length p.out) parts

-- until an answer is not 0: a refusal, or a count, to which the host adds the passes of the calls before; the answer, and the file as it is then
unfoldable pub settle_file_again : ℕ → List Part → List ℕ → FileResult
settle_file_again before [] file = file_result 0 file
settle_file_again before (p ∷ parts) file =
    let answer = (file_call (Within p.most) file p.out).answer in
    let left = file_left (Within p.most) file p.out in
    if (eqb answer 0) (settle_file_again (before + p.most) parts left)
    (file_result (if (eqb (refusal_in answer) 0) (before + answer) answer) left)

-- what settling a file comes to, beside settling what a pass left of it
pub record Alike (file a next b : List ℕ) : Type 0 where
  pub counted : refusal_in (file_call Settle next b).answer ≡ 0 → (file_call Settle file a).answer ≡ suc (file_call Settle next b).answer
  pub left : refusal_in (file_call Settle next b).answer ≡ 0 → file_left Settle file a ≡ file_left Settle next b
  pub none : refusal_in (file_call Settle next b).answer ≡ 7 → refusal_in (file_call Settle file a).answer ≡ 7

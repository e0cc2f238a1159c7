-- What a call on a plan file comes to before it is made one number, and how that number is taken apart again.
use Rattle.std.specs.Prelude.{Ok, Err}
use Rattle.std.specs.Prelude.{◌≡◌, List, ℕ, ◌%◌, ◌^◌, ◌<◌}
use Rattle.plan.specs.declared.Task.{Task}
use Rattle.plan.specs.declared.Call.{Call}
use Rattle.plan.specs.Refusals.{number, place, Answer, Checked, accepted}
use Rattle.rules.specs.Settle.{most_passes}
use Rattle.format.specs.Reading.{Read, read_plan}
use Rattle.answers.specs.Files.{plan_call, refusal_in}

-- the reader's refusal; else 12 for a place or 10 for an output that is too short; else what the page's call answers
abbrev pub read_outcome : Call → List ℕ → Read → Answer
read_outcome c out (Read.Plan f ts) = (plan_call c f ts out).answer
read_outcome c out (Read.Refuse e) = Err e

abbrev pub file_outcome : Call → List ℕ → List ℕ → Answer
file_outcome c file out = read_outcome c out (read_plan file)

-- of a file that is only looked at
abbrev pub entry_outcome : (List Task → ℕ) → Read → Answer
entry_outcome asked (Read.Plan f ts) = Ok (asked ts)
entry_outcome asked (Read.Refuse e) = Err e

abbrev pub check_outcome : List ℕ → Answer
check_outcome file = entry_outcome (λ ts. 0) (read_plan file)

abbrev pub most_outcome : List ℕ → Answer
most_outcome file = entry_outcome most_passes (read_plan file)

-- whether it is a plan that passes the entry checks: `check_outcome`, which answers 0 where it is, without a number
abbrev pub entry_checked : Read → Checked
entry_checked (Read.Plan f ts) = accepted
entry_checked (Read.Refuse e) = Err e

abbrev pub file_checked : List ℕ → Checked
file_checked file = entry_checked (read_plan file)

-- nothing is refused: the answer is a number of passes, below 2^32, so its refusal number is 0; refused: the high half is the refusal's number
-- (never 0, the law `number_ends`), the low half its place
abbrev pub Apart : ℕ → Answer → Type 0
Apart answer (Ok passes) = (answer ≡ passes) × (passes < 2 ^ 32) × (refusal_in answer ≡ 0)
Apart answer (Err f) = (refusal_in answer ≡ number f) × (answer % 2 ^ 32 ≡ place f)

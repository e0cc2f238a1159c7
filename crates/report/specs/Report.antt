-- What is printed for a plan file.
use Rattle.std.specs.Prelude.{Ok, Err}
use Rattle.plan.specs.Refusals.{Answer}
use Rattle.std.specs.Prelude.{List, ◌++◌, ℕ}
use Rattle.plan.specs.declared.Task.{Task}
use Rattle.plan.specs.declared.Call.TheVariants.{Settle}
use Rattle.rules.specs.Calls.{Result, call_of}
use Rattle.format.specs.Reading.{Read, read_plan}
use Rattle.text.specs.Text.{settled_line, refused_line, task_lines}

abbrev pub answer_text : Answer → List Task → List ℕ
answer_text (Ok n) us = settled_line n ++ task_lines 0 us
answer_text (Err e) us = refused_line e

abbrev pub result_text : Result → List ℕ
result_text x = answer_text x.answer x.tasks

abbrev pub read_text : Read → List ℕ
read_text (Read.Plan f ts) = result_text (call_of Settle f ts)
read_text (Read.Refuse e) = refused_line e

unfoldable pub report_of : List ℕ → List ℕ
report_of file = read_text (read_plan file)

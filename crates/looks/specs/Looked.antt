-- What is read of a plan file that is only looked at: its tasks.
use Rattle.std.specs.Prelude.{Ok, Err}
use Rattle.std.specs.Prelude.{◌≡◌, Result, Ok, Err, ℕ, List, length, take}
use Rattle.plan.specs.declared.Refusal.{Refusal}
use Rattle.plan.specs.declared.Task.{Task}
use Rattle.format.specs.Reading.{Read}

-- how many tasks the plan has, which stand in the first places of a list; or the reader's refusal
abbrev pub TasksRead : Read → Result ℕ Refusal → List Task → Type 0
TasksRead (Read.Plan f ts) r us = (r ≡ Ok (length ts)) × (take (length ts) us ≡ ts)
TasksRead (Read.Refuse e) r us = r ≡ Err e

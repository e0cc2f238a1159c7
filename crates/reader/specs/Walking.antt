-- What it is to walk the reader: the records of a plan in the order of its file, and that they are handed out one after another.
use Rattle.std.specs.Prelude.{◌≡◌, List, [], ◌∷◌, ◌++◌, map, ℕ, length}
use Rattle.plan.specs.declared.Task.{Task}
use Rattle.plan.specs.declared.Resource.{Resource}
use Rattle.plan.specs.declared.Band.{Band}
use Rattle.rules.specs.Frame.{Frame}
use Rattle.format.specs.declared.Header.{Header}
use Rattle.format.specs.Writing.{header_of}
use Rattle.cursor.specs.declared.Record.{Record}
use Rattle.cursor.specs.Handed.{record_at, past_at}

-- each kind of record, but for the place past it
abbrev pub plan_record : Header → ℕ → Record
plan_record h past = Record.Plan h past

abbrev pub resource_record : Resource → ℕ → Record
resource_record q past = Record.Resource q past

abbrev pub band_record : Band → ℕ → Record
band_record b past = Record.Band b past

abbrev pub task_record : Task → ℕ → Record
task_record t past = Record.Task t past

-- "One PL, all RS, all TK, nothing more", and the bands "after all RS and before TK"
unfoldable pub records_of : Frame → List Task → List (ℕ → Record)
records_of f ts =
    plan_record (header_of f (length ts))
    ∷ (map resource_record f.resources ++ (map band_record f.bands ++ map task_record ts))

-- "A reader stands in the lent file bytes and hands out one record after another": it stands at a place, hands out the first of these with
-- the place past it, goes there and hands out the others, and after the last it stands at the place `to`
abbrev pub HandsOut : List ℕ → ℕ → List (ℕ → Record) → ℕ → Type 0
HandsOut file at [] to = at ≡ to
HandsOut file at (x ∷ xs) to = (record_at file at ≡ x (past_at file at)) × HandsOut file (past_at file at) xs to

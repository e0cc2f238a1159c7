-- What is read, and every refusal of a file in the page's order; what the reading call answers and leaves.
use Rattle.std.specs.Prelude.{◌≡◌, List, [], ◌∷◌, not, ℕ, zero, suc, ◌+◌, ◌≤◌, Result, Ok, Err, eqb, ltb, length, take, drop}
use Rattle.integers.specs.Tests.{if, or}
use Rattle.plan.specs.declared.Task.{Task}
use Rattle.plan.specs.declared.Resource.{Resource}
use Rattle.plan.specs.declared.Band.{Band}
use Rattle.plan.specs.declared.Sense.{Sense}
use Rattle.plan.specs.declared.Refusal.{Refusal}
use Rattle.plan.specs.declared.Refusal.TheVariants.{TooManyTasks, ResourceCount, WrongMark, CutShort, ListShort, BandOutside}
use Rattle.plan.specs.Refusals.{Told, told, told_refusal, Checked, accepted}
use Rattle.plan.specs.Tasks.{most_resources, most_bands, most_tasks}
use Rattle.rules.specs.Frame.{Frame, framed, resource_count}
use Rattle.rules.specs.Calls.{or_else, refuse_if, check}
use Rattle.format.specs.declared.Mark.{Mark}
use Rattle.format.specs.declared.Mark.TheVariants.{PL, LB}
use Rattle.format.specs.declared.Header.{Header}
use Rattle.format.specs.declared.Found.{Found}
use Rattle.format.specs.Format.{Layout, resources, bands, tasks, size, mark_size, marked, due_in, numbers_in, header_from, sense_number, sense_from, bands_from, tasks_from, file_length}
use Rattle.format.specs.Writing.{laid}

-- ---- what reading answers
-- of the PL record: what it holds, or one refusal
abbrev pub HeaderAnswer : Type 0
HeaderAnswer = Result Header Refusal

-- of the run of bands: how many there are, or one refusal
abbrev pub Run : Type 0
Run = Result ℕ Refusal

-- of a whole file: the sense and how many resources, bands and tasks there are, or one refusal
abbrev pub ReadAnswer : Type 0
ReadAnswer = Result Found Refusal

-- ---- one record, in the bytes from its place on
-- "Per record: fewer than two bytes left, 9; wrong mark, 8; record longer than the rest, 9."
unfoldable pub due : Mark → ℕ → List ℕ → Checked
due k at bs =
    or_else (refuse_if (ltb (length bs) mark_size) (CutShort at))
    (or_else (refuse_if (not (marked k bs)) (WrongMark at)) (refuse_if (ltb (length bs) (size k)) (CutShort at)))

-- ---- so many records where one mark is due, or the one in its place, one after another: whether each is due, and what they hold
unfoldable pub each_due : Mark → ℕ → ℕ → List ℕ → Checked
each_due k zero at bs = accepted
each_due k (suc n) at bs = or_else (due (due_in k bs) at bs) (each_due k n (at + size k) (drop (size k) bs))

module _ {A : Type 0} (l : Layout A) where
  unfoldable pub records_in : ℕ → List ℕ → List A
  records_in zero bs = []
  records_in (suc n) bs = l.from (due_in l.due bs) (numbers_in l.due bs) ∷ records_in n (drop (size l.due) bs)

  -- from a place of a file on
  abbrev pub run_due : List ℕ → ℕ → ℕ → Checked
  run_due file at n = each_due l.due n at (drop at file)

  abbrev pub run_in : List ℕ → ℕ → ℕ → List A
  run_in file at n = records_in n (drop at file)

  -- such a run read: the answer, and, where each record was due, the first places of the list that it was read into
  pub record ReadRun (file : List ℕ) (at n : ℕ) (r : Checked) (list : List A) : Type 0 where
    pub answer : r ≡ run_due file at n
    pub held : r ≡ accepted → take n list ≡ run_in file at n

-- ---- the run of bands: "a plan may carry up to 64 bands", and no count of them stands in the file
-- as many as there are marks, of which no more than so many are looked at
unfoldable pub band_run : ℕ → List ℕ → ℕ
band_run zero bs = 0
band_run (suc most) bs = if (marked LB bs) (suc (band_run most (drop (size LB) bs))) 0

-- band k, for a lent band list of so many places: "in a file a 65th is refused when met whole (cut short, it gets 9), as is, with 11, an
-- earlier one that the lent band list has no room for"
unfoldable pub band_due : ℕ → ℕ → ℕ → List ℕ → Checked
band_due room k at bs =
    or_else (refuse_if (ltb (length bs) (size LB)) (CutShort at))
    (or_else (refuse_if (not (ltb k most_bands)) (BandOutside k)) (refuse_if (not (ltb k room)) ListShort))

-- band k and those after it
unfoldable pub each_band_due : ℕ → ℕ → ℕ → ℕ → List ℕ → Checked
each_band_due zero room k at bs = accepted
each_band_due (suc most) room k at bs =
    if (marked LB bs) (or_else (band_due room k at bs) (each_band_due most room (suc k) (at + size LB) (drop (size LB) bs))) accepted

-- a 65th is refused where it is met, whole or cut short: no more are looked at
abbrev pub looked_at : ℕ
looked_at = suc most_bands

-- from a place of a file on
unfoldable pub bands_due : ℕ → List ℕ → ℕ → Checked
bands_due room file at = each_band_due looked_at room 0 at (drop at file)

unfoldable pub band_count : List ℕ → ℕ → ℕ
band_count file at = band_run looked_at (drop at file)

abbrev pub run_unless : Checked → ℕ → Run
run_unless (Ok _) k = Ok k
run_unless (Err f) k = Err f

-- such a run read: the answer, and, where none was refused, the first places of the list that it was read into
pub record ReadBands (file : List ℕ) (at room : ℕ) (r : Run) (list : List Band) : Type 0 where
  pub answer : r ≡ run_unless (bands_due room file at) (band_count file at)
  pub held : bands_due room file at ≡ accepted → take (band_count file at) list ≡ run_in bands file at (band_count file at)

-- ---- the PL record
unfoldable pub header_in : List ℕ → Header
header_in file = header_from (numbers_in PL file)

-- "In PL then, in this order: refusal 8 for the sense, refusal 1 for the task count, refusal 2 for the resource count, refusal 11."
unfoldable pub header_due : Header → Checked
header_due h =
    or_else (refuse_if (ltb 1 h.sense) (WrongMark 0))
    (or_else (refuse_if (ltb most_tasks h.tasks) TooManyTasks)
    (refuse_if (or (eqb h.resources 0) (ltb most_resources h.resources)) ResourceCount))

-- 11: the lent lists have so many places for resources and for tasks
unfoldable pub lists_due : ℕ → ℕ → Header → Checked
lists_due places room h = refuse_if (or (ltb places h.resources) (ltb room h.tasks)) ListShort

abbrev pub header_unless : Checked → Header → HeaderAnswer
header_unless (Ok _) h = Ok h
header_unless (Err f) h = Err f

-- what it holds, or its refusal, but for 11
unfoldable pub read_header : List ℕ → HeaderAnswer
read_header file = header_unless (or_else (due PL 0 file) (header_due (header_in file))) (header_in file)

-- ---- what follows a PL record that holds such a header
-- how many bands there are
unfoldable pub bands_in : Header → List ℕ → ℕ
bands_in h file = band_count file (bands_from h.resources)

unfoldable pub frame_in : Header → List ℕ → Frame
frame_in h file =
    framed (sense_from h.sense) (run_in resources file (size PL) h.resources) (run_in bands file (bands_from h.resources) (bands_in h file))

unfoldable pub tasks_in : Header → List ℕ → List Task
tasks_in h file = run_in (tasks h.resources) file (tasks_from h.resources (bands_in h file)) h.tasks

abbrev pub file_end : Header → List ℕ → ℕ
file_end h file = file_length h.resources (bands_in h file) h.tasks

-- all RS or RH, all LB, for a lent band list of so many places, all TK; "After the last record, leftover bytes 9"
unfoldable pub body_due : ℕ → Header → List ℕ → Checked
body_due room h file =
    or_else (run_due resources file (size PL) h.resources)
    (or_else (bands_due room file (bands_from h.resources))
    (or_else (run_due (tasks h.resources) file (tasks_from h.resources (bands_in h file)) h.tasks)
    (refuse_if (ltb (file_end h file) (length file)) (CutShort (file_end h file)))))

-- ---- the plan of a file, or its refusal
pub data Read : Type 0 where
  Plan : Frame → List Task → Read
  Refuse : Refusal → Read

abbrev pub read_unless : Checked → Read → Read
read_unless (Ok _) x = x
read_unless (Err f) x = Refuse f

-- what the records hold; "then 3 to 6", 13 among them
unfoldable pub read_body : ℕ → Header → List ℕ → Read
read_body room h file = read_unless (body_due room h file) (Plan (frame_in h file) (tasks_in h file))

abbrev pub read_checked : Read → Read
read_checked (Plan f ts) = read_unless (check f ts) (Plan f ts)
read_checked (Refuse f) = Refuse f

unfoldable pub read_after : ℕ → Header → List ℕ → Read
read_after room h file = read_checked (read_body room h file)

-- read into lists as long as the header asks and as bands may be, and into lists of so many places
abbrev pub plan_after : List ℕ → HeaderAnswer → Read
plan_after file (Ok h) = read_after most_bands h file
plan_after file (Err f) = Refuse f

unfoldable pub read_plan : List ℕ → Read
read_plan file = plan_after file (read_header file)

abbrev pub lent_after : ℕ → ℕ → ℕ → List ℕ → HeaderAnswer → Read
lent_after places bandRoom room file (Ok h) = read_unless (lists_due places room h) (read_after bandRoom h file)
lent_after places bandRoom room file (Err f) = Refuse f

unfoldable pub read_lent : ℕ → ℕ → ℕ → List ℕ → Read
read_lent places bandRoom room file = lent_after places bandRoom room file (read_header file)

-- ---- the reading call
abbrev pub found : Sense → ℕ → ℕ → ℕ → Found
found sense n k m = record { sense = sense; resources = n; bands = k; tasks = m }

-- the page's number and values of its answer: 0 with the sense and the three counts, or the refusal's number with its place
abbrev pub told_read : ReadAnswer → Told
told_read (Ok p) = told 0 (sense_number p.sense ∷ p.resources ∷ p.bands ∷ p.tasks ∷ [])
told_read (Err f) = told_refusal f

-- the answer, so told, and the later contents of the three lent lists
pub record ReadResult : Type 0 where
  pub answer : Told
  pub resources : List Resource
  pub bands : List Band
  pub tasks : List Task

abbrev pub read_result : ReadAnswer → List Resource → List Band → List Task → ReadResult
read_result r qs bs ts = record { answer = told_read r; resources = qs; bands = bs; tasks = ts }

-- the sense and the three counts; "On success the reader writes the first places only and later ones stay"; on a refusal all stay
abbrev pub read_into : Read → List Resource → List Band → List Task → ReadResult
read_into (Plan f us) qs bs ts =
    read_result (Ok (found f.sense (resource_count f) (length f.bands) (length us))) (laid f.resources qs) (laid f.bands bs) (laid us ts)
read_into (Refuse f) qs bs ts = read_result (Err f) qs bs ts

unfoldable pub read_call : List ℕ → List Resource → List Band → List Task → ReadResult
read_call file qs bs ts = read_into (read_lent (length qs) (length bs) (length ts) file) qs bs ts

-- ---- a plan read into lists: so many resources, bands and tasks stand in their first places
abbrev pub plan_in : Found → List Resource → List Band → List Task → Read
plan_in p qs bs ts = Plan (framed p.sense (take p.resources qs) (take p.bands bs)) (take p.tasks ts)

-- as its header counts them, and so many bands
abbrev pub header_plan : Header → List Resource → List Band → List Task → ℕ → Read
header_plan h qs bs ts k = plan_in (found (sense_from h.sense) h.resources k h.tasks) qs bs ts

-- where the run of bands was read
abbrev pub read_through : Run → (ℕ → Read) → Read
read_through (Ok k) x = x k
read_through (Err f) x = Refuse f

abbrev pub RunWithin : Run → ℕ → Type 0
RunWithin (Ok k) room = k ≤ room
RunWithin (Err f) room = Unit {0}

-- as the reader answers, which counts no more than there are places
abbrev pub answer_plan : ReadAnswer → List Resource → List Band → List Task → Read
answer_plan (Ok p) qs bs ts = plan_in p qs bs ts
answer_plan (Err f) qs bs ts = Refuse f

abbrev pub AnswerWithin : ReadAnswer → ℕ → ℕ → ℕ → Type 0
AnswerWithin (Ok p) places bandRoom room = (p.resources ≤ places) × (p.bands ≤ bandRoom) × (p.tasks ≤ room)
AnswerWithin (Err f) places bandRoom room = Unit {0}

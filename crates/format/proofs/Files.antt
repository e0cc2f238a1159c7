-- Whole files: how long a written plan is and how it is stored; a written plan is read back as itself, and a file that is read is the
-- writing of what was read.
use Rattle.std.specs.Prelude.{Ok, Err}
use Rattle.plan.specs.Refusals.{Checked, accepted}
use mathlib.Core.Path.{◌≡◌, refl, sym, ap, ◌∙◌, subst}
use mathlib.Core.List.{List, [], ◌++◌, append-nil}
use Prim.Native.Nat.{ℕ, zero, suc, ◌+◌, ◌*◌, ◌≤◌, ◌<◌}
use native.Mathlib.Omega.{arith}
use native.Mathlib.Nat.{zero-add}
use lib.Dec.{eqb, ltb}
use lib.ListN.{length, take, drop, length-append, length-drop, take-append-drop}
use lib.Seq.{drop_at, drop-drop, take_all, sets}
use borrow.Author.Tests.{le-ltb, ne_eqb, ltb-false}
use Rattle.integers.specs.Tests.{or}
use Rattle.integers.proofs.Tests.{or_none}
use Rattle.integers.specs.Lists.{Each}
use Rattle.plan.specs.declared.Task.{Task}
use Rattle.plan.specs.declared.Resource.{Resource}
use Rattle.plan.specs.declared.Band.{Band}
use Rattle.plan.specs.declared.Sense.{Sense}
use Rattle.plan.specs.declared.Sense.TheVariants.{AtMost, AtLeast}
use Rattle.plan.specs.declared.Refusal.TheVariants.{TooManyTasks, ResourceCount, WrongMark, CutShort}
use Rattle.plan.specs.Tasks.{most_tasks, most_resources, most_bands}
use Rattle.rules.specs.Frame.{Frame, resource_count}
use Rattle.rules.specs.Calls.{or_else, refuse_if, check}
use Rattle.rules.proofs.Checks.{accepts, past, past_all}
use Rattle.format.specs.declared.Mark.TheVariants.{PL}
use Rattle.format.specs.declared.Header.{Header}
use Rattle.format.specs.Format.{resources, bands, tasks, size, widths, record_bytes, fields_in, numbers_in, header_numbers, header_from, sense_number, sense_from, task_mark, bands_from, tasks_from, file_length}
use Rattle.format.specs.Writing.{records_bytes, header_of, written, Identified}
use Rattle.format.specs.Reading.{due, header_in, header_due, bands_due, band_count, bands_in, looked_at, frame_in, tasks_in, body_due, file_end, run_due, run_in, Read, read_unless, read_checked, header_unless, plan_after, read_header, read_body, read_after, read_plan, header_plan}
use Rattle.format.proofs.Numbers.{beyond, bytes_drop}
use Rattle.format.specs.Numbers.{Byte}
use Rattle.format.proofs.Stores.{sets_append}
use Rattle.format.proofs.Records.{unrefused, Held, none, more, length_record, record_read, record_due, due_is, record_written, length_records, records_back, records_written, length_in}
use Rattle.format.proofs.Layouts.{resources_lawful, resource_identified, bands_lawful, tasks_lawful, resources_small, bands_small, tasks_small}
use Rattle.format.proofs.Bands.{run_is, tasks_unmarked, run_back}

-- ---- the four parts of a written plan
module _ (f : Frame) (ts : List Task) where
  abbrev pub n : ℕ
  n = resource_count f

  abbrev h : Header
  h = header_of f (length ts)

  abbrev first : List ℕ
  first = record_bytes PL (header_numbers h)

  abbrev listed : List ℕ
  listed = records_bytes resources f.resources

  abbrev banded : List ℕ
  banded = records_bytes bands f.bands

  abbrev last : List ℕ
  last = records_bytes (tasks n) ts

  -- how many bands there are
  abbrev count : ℕ
  count = length f.bands

  length_first : length first ≡ size PL
  unfolding header_numbers
  length_first = length_record PL (header_numbers h) refl

  length_listed : length listed ≡ n * size resources.due
  length_listed = length_records resources_lawful f.resources

  length_banded : length banded ≡ count * size bands.due
  length_banded = length_records bands_lawful f.bands

  pub length_written : length (written f ts) ≡ file_length n count (length ts)
  unfolding written
  length_written =
      omega (
        arith,
        length-append first (listed ++ (banded ++ last)),
        length-append listed (banded ++ last),
        length-append banded last,
        length_first,
        length_listed,
        length_banded,
        length_records (tasks_lawful n) ts,
      )

  -- stored record after record
  pub written_stored : (out : List ℕ) → sets out 0 (written f ts) ≡ sets (sets (sets (sets out 0 first) (size PL) listed) (bands_from n) banded) (tasks_from n count) last
  unfolding written
  written_stored out =
      let one = sets out 0 first in
      let two = sets one (size PL) listed in
      sets_append out 0 first (listed ++ (banded ++ last))
      ∙ ap (λ (k : ℕ). sets one k (listed ++ (banded ++ last))) (zero-add (length first) ∙ length_first)
      ∙ sets_append one (size PL) listed (banded ++ last)
      ∙ ap (λ (k : ℕ). sets two (size PL + k) (banded ++ last)) length_listed
      ∙ sets_append two (bands_from n) banded last
      ∙ ap (λ (k : ℕ). sets (sets two (bands_from n) banded) (bands_from n + k) last) length_banded

  after_first : drop (size PL) (written f ts) ≡ listed ++ (banded ++ last)
  unfolding written
  after_first = drop_at first (listed ++ (banded ++ last)) (size PL) length_first

  after_listed : drop (bands_from n) (written f ts) ≡ banded ++ last
  after_listed =
      sym (drop-drop (n * size resources.due) (size PL) (written f ts))
      ∙ ap (drop (n * size resources.due)) after_first
      ∙ drop_at listed (banded ++ last) (n * size resources.due) length_listed

  after_banded : drop (tasks_from n count) (written f ts) ≡ last
  after_banded =
      sym (drop-drop (count * size bands.due) (bands_from n) (written f ts))
      ∙ ap (drop (count * size bands.due)) after_listed
      ∙ drop_at banded last (count * size bands.due) length_banded

  -- ---- read back, where the plan passes the checks
  module _ (ids : Each Identified f.resources) (ok : check f ts ≡ accepted) where
    sense_small : (s : Sense) → sense_number s < 2
    sense_small AtMost = omega arith
    sense_small AtLeast = omega arith

    sense_back : (s : Sense) → sense_from (sense_number s) ≡ s
    sense_back AtMost = refl
    sense_back AtLeast = refl

    header_held : Held (widths PL) (header_numbers h)
    unfolding header_numbers header_of beyond
    header_held =
        let s : sense_number f.sense < beyond 1 = omega (arith, sense_small f.sense) in
        let r : n < beyond 1 = omega (arith, (accepts f ts ok).most) in
        let t : length ts < beyond 2 = omega (arith, (accepts f ts ok).few) in
        more s (more r (more t none))

    header_back : header_in (written f ts) ≡ h
    unfolding header_in header_from header_numbers written
    header_back = rw (record_read PL header_held (listed ++ (banded ++ last)))

    first_due : due PL 0 (written f ts) ≡ accepted
    unfolding written
    first_due = record_due PL header_held (listed ++ (banded ++ last)) 0

    header_passes : header_due h ≡ accepted
    unfolding header_due header_of
    header_passes =
        let a = accepts f ts ok in
        let s = sense_small f.sense in
        simp (
          le-ltb 1 (sense_number f.sense) (omega arith),
          le-ltb most_tasks (length ts) a.few,
          ne_eqb n 0 (λ e. omega (arith, a.some)),
          le-ltb most_resources n a.most,
        )

    resources_back : (run_due resources (written f ts) (size PL) n ≡ accepted) × (run_in resources (written f ts) (size PL) n ≡ f.resources)
    resources_back = rw after_first (records_back resources_lawful (resources_small f ts ok ids) (banded ++ last) (size PL))

    bands_run : (bands_due most_bands (written f ts) (bands_from n) ≡ accepted) × (band_count (written f ts) (bands_from n) ≡ count)
    unfolding bands_due band_count
    bands_run =
        let few = (accepts f ts ok).few_bands in
        rw after_listed
        (run_back (bands_small f ts ok) last (tasks_unmarked n ts) looked_at most_bands 0 (bands_from n) (omega arith) (omega arith) (omega arith))

    bands_counted : bands_in h (written f ts) ≡ count
    unfolding bands_in header_of
    bands_counted = bands_run.1

    bands_back : run_in bands (written f ts) (bands_from n) count ≡ f.bands
    bands_back = rw after_listed (records_back bands_lawful (bands_small f ts ok) last (bands_from n)).1

    tasks_back : (run_due (tasks n) (written f ts) (tasks_from n count) (length ts) ≡ accepted) × (run_in (tasks n) (written f ts) (tasks_from n count) (length ts) ≡ ts)
    tasks_back = rw after_banded (rw append-nil at (records_back (tasks_lawful n) (tasks_small f ts ok) [] (tasks_from n count)))

    body_passes : body_due most_bands h (written f ts) ≡ accepted
    unfolding body_due header_of
    body_passes =
        simp (
          resources_back.0,
          bands_run.0,
          bands_counted,
          tasks_back.0,
          le-ltb (file_length n count (length ts)) (length (written f ts)) (omega (arith, length_written)),
        )

    frame_back : frame_in h (written f ts) ≡ f
    unfolding frame_in header_of
    frame_back = rw (resources_back.1, bands_counted, bands_back, sense_back f.sense)

    tasks_same : tasks_in h (written f ts) ≡ ts
    unfolding tasks_in header_of
    tasks_same = rw (bands_counted) tasks_back.1

    pub read_back : read_plan (written f ts) ≡ Read.Plan f ts
    unfolding read_plan read_header read_after read_body
    read_back = rw (first_due, header_back, header_passes, body_passes, frame_back, tasks_same, ok)

-- ---- a file that is read
-- what the header's checks say of it
pub record Few (h : Header) : Type 0 where
  pub sense : h.sense ≤ 1
  pub tasks : h.tasks ≤ most_tasks
  pub resources : h.resources ≤ most_resources

pub few : (h : Header) → header_due h ≡ accepted → Few h
unfolding header_due
few h e =
    let none = eqb h.resources 0 in
    let more = ltb most_resources h.resources in
    let count = refuse_if (or none more) ResourceCount in
    let a = past (ltb 1 h.sense) (WrongMark 0) (or_else (refuse_if (ltb most_tasks h.tasks) TooManyTasks) count) e in
    let b = past (ltb most_tasks h.tasks) TooManyTasks count a.1 in
    record {
      sense = ltb-false 1 h.sense a.0;
      tasks = ltb-false most_tasks h.tasks b.0;
      resources = ltb-false most_resources h.resources (or_none none more (unrefused (or none more) ResourceCount b.1)).1;
    }

-- a plan is read only past every check
pub read_is : (c : Checked) (x : Read) {f : Frame} {ts : List Task} → read_unless c x ≡ Read.Plan f ts → (c ≡ accepted) × (x ≡ Read.Plan f ts)
read_is (Ok _) x e = (refl, e)
read_is (Err g) x e = (cc, cc)

pub header_is : (c : Checked) (h : Header) (file : List ℕ) {f : Frame} {ts : List Task} → plan_after file (header_unless c h) ≡ Read.Plan f ts → (c ≡ accepted) × (read_after most_bands h file ≡ Read.Plan f ts)
header_is (Ok _) h file e = (refl, e)
header_is (Err g) h file e = (cc, cc)

checked_is : (x : Read) {f : Frame} {ts : List Task} → read_checked x ≡ Read.Plan f ts → (x ≡ Read.Plan f ts) × (check f ts ≡ accepted)
checked_is (Read.Plan g us) {f} {ts} e =
    let r = read_is (check g us) (Read.Plan g us) e in
    let plan = r.1 in
    let frame : g ≡ f = cc in
    let tasks : us ≡ ts = cc in
    (r.1, rw (frame, tasks) at r.0)
checked_is (Read.Refuse g) e = (cc, cc)

-- the plan behind a header passes the checks
pub after_is : (room : ℕ) (h : Header) (file : List ℕ) {f : Frame} {ts : List Task} → read_after room h file ≡ Read.Plan f ts → (read_body room h file ≡ Read.Plan f ts) × (check f ts ≡ accepted)
unfolding read_after
after_is room h file e = checked_is (read_body room h file) e

-- what each check says of a file and of the plan that is read from it
pub record Whole (file : List ℕ) (f : Frame) (ts : List Task) : Type 0 where
  pub first : due PL 0 file ≡ accepted
  pub few : Few (header_in file)
  pub listed : run_due resources file (size PL) (header_in file).resources ≡ accepted
  pub banded : bands_due most_bands file (bands_from (header_in file).resources) ≡ accepted
  pub last : run_due (tasks (header_in file).resources) file (tasks_from (header_in file).resources (bands_in (header_in file) file)) (header_in file).tasks ≡ accepted
  pub ends : length file ≤ file_end (header_in file) file
  pub frame : frame_in (header_in file) file ≡ f
  pub tasks : tasks_in (header_in file) file ≡ ts
  pub accepted : check f ts ≡ accepted

pub whole : {file : List ℕ} {f : Frame} {ts : List Task} → read_plan file ≡ Read.Plan f ts → Whole file f ts
unfolding read_plan read_header read_body body_due
whole {file} {f} {ts} e =
    let h = header_in file in
    let rs = run_due resources file (size PL) h.resources in
    let bs = bands_due most_bands file (bands_from h.resources) in
    let ks = run_due (tasks h.resources) file (tasks_from h.resources (bands_in h file)) h.tasks in
    let left = ltb (file_end h file) (length file) in
    let over = refuse_if left (CutShort (file_end h file)) in
    let a = header_is (or_else (due PL 0 file) (header_due h)) h file e in
    let b = after_is most_bands h file a.1 in
    let c = past_all (due PL 0 file) (header_due h) a.0 in
    let d = read_is (body_due most_bands h file) (Read.Plan (frame_in h file) (tasks_in h file)) b.0 in
    let r = past_all rs (or_else bs (or_else ks over)) d.0 in
    let g = past_all bs (or_else ks over) r.1 in
    let k = past_all ks over g.1 in
    let plan = d.1 in
    let frame : frame_in h file ≡ f = cc in
    let tasks : tasks_in h file ≡ ts = cc in
    record {
      first = c.0;
      few = few h c.1;
      listed = r.0;
      banded = g.0;
      last = k.0;
      ends = ltb-false (file_end h file) (length file) (unrefused left (CutShort (file_end h file)) k.1);
      frame = frame;
      tasks = tasks;
      accepted = b.1;
    }

pub frame_count : (h : Header) (file : List ℕ) → resource_count (frame_in h file) ≡ h.resources
unfolding frame_in
frame_count h file = length_in resources h.resources (drop (size PL) file)

pub bands_count : (h : Header) (file : List ℕ) → length (frame_in h file).bands ≡ bands_in h file
unfolding frame_in
bands_count h file = length_in bands (bands_in h file) (drop (bands_from h.resources) file)

pub tasks_count : (h : Header) (file : List ℕ) → length (tasks_in h file) ≡ h.tasks
unfolding tasks_in
tasks_count h file = length_in (tasks h.resources) h.tasks (drop (tasks_from h.resources (bands_in h file)) file)

-- written again: the four parts of the file
module _ (file : List ℕ) (f : Frame) (ts : List Task) (w : Whole file f ts) (bytes : Each Byte file) where
  abbrev head : Header
  head = header_in file

  sense_number_lem : (k : ℕ) → k ≤ 1 → sense_number (sense_from k) ≡ k
  sense_number_lem zero e = refl
  sense_number_lem (suc k) e = omega arith

  header_written : header_numbers (header_of (frame_in head file) (length (tasks_in head file))) ≡ numbers_in PL file
  unfolding header_numbers header_of header_in header_from numbers_in fields_in frame_in
  header_written = rw (sense_number_lem head.sense w.few.sense, frame_count head file, tasks_count head file)

  resources_written : (records_bytes resources (frame_in head file).resources ≡ take (head.resources * size resources.due) (drop (size PL) file)) × Each Identified (frame_in head file).resources
  unfolding frame_in
  resources_written =
      records_written resources_lawful Identified resource_identified head.resources (size PL) (drop (size PL) file) w.listed (bytes_drop (size PL) bytes)

  -- how many bands were read
  abbrev run : ℕ
  run = bands_in head file

  bands_written : records_bytes bands (frame_in head file).bands ≡ take (run * size bands.due) (drop (bands_from head.resources) file)
  unfolding frame_in bands_in bands_due band_count
  bands_written =
      let at = bands_from head.resources in
      let r = run_is looked_at most_bands 0 at (drop at file) w.banded in
      (records_written bands_lawful (λ b. Unit {0}) (λ k ns held. tt) run at (drop at file) r.due (bytes_drop at bytes)).0

  tasks_written : records_bytes (tasks head.resources) (tasks_in head file) ≡ take (head.tasks * size (task_mark head.resources)) (drop (tasks_from head.resources run) file)
  unfolding tasks_in
  tasks_written =
      let at = tasks_from head.resources run in
      (records_written (tasks_lawful head.resources) (λ t. Unit {0}) (λ k ns held. tt) head.tasks at (drop at file) w.last (bytes_drop at bytes)).0

  parts : take (size PL) file ++ (take (head.resources * size resources.due) (drop (size PL) file) ++ (take (run * size bands.due) (drop (bands_from head.resources) file) ++ take (head.tasks * size (task_mark head.resources)) (drop (tasks_from head.resources run) file))) ≡ file
  parts =
      let q = head.resources * size resources.due in
      let b = run * size bands.due in
      let at = tasks_from head.resources run in
      rw (
        take_all (head.tasks * size (task_mark head.resources)) (drop at file) (omega (arith, length-drop at file, w.ends)),
        ← drop-drop b (bands_from head.resources) file,
        take-append-drop b (drop (bands_from head.resources) file),
        ← drop-drop q (size PL) file,
        take-append-drop q (drop (size PL) file),
        take-append-drop (size PL) file,
      )

  pub write_back : written f ts ≡ file
  unfolding written
  write_back =
      rw (← w.frame, ← w.tasks)
      (rw (header_written, resources_written.0, bands_written, tasks_written, record_written PL (due_is PL 0 file w.first) bytes) parts)

  pub identified : Each Identified f.resources
  identified = rw w.frame at resources_written.1

-- ---- lists that a plan is read into
pub header_few : (file : List ℕ) {h : Header} → read_header file ≡ Ok h → Few h
unfolding read_header
header_few file {h} e =
    let r = counts_is (or_else (due PL 0 file) (header_due (header_in file))) (header_in file) e in
    subst Few r.1 (few (header_in file) (past_all (due PL 0 file) (header_due (header_in file)) r.0).1)
  where
    counts_is : (c : Checked) (g : Header) → header_unless c g ≡ Ok h → (c ≡ accepted) × (g ≡ h)
    counts_is (Ok _) g e = (refl, cc)
    counts_is (Err x) g e = (cc, cc)

pub lists_read : (h : Header) (file : List ℕ) (qs : List Resource) (bs : List Band) (ts : List Task) → take h.resources qs ≡ run_in resources file (size PL) h.resources → take (bands_in h file) bs ≡ run_in bands file (bands_from h.resources) (bands_in h file) → take h.tasks ts ≡ run_in (tasks h.resources) file (tasks_from h.resources (bands_in h file)) h.tasks → header_plan h qs bs ts (bands_in h file) ≡ Read.Plan (frame_in h file) (tasks_in h file)
unfolding frame_in tasks_in
lists_read h file qs bs ts x y v = rw (x, y, v)

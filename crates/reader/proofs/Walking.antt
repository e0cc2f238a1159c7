-- WALKING the reader from the first byte to the last is reading the plan: a file is read as a plan exactly if the plan passes the checks and
-- the reader hands out the plan's records one after another, of which the last ends with the file.
use Rattle.plan.specs.Refusals.{accepted}
use mathlib.Core.Path.{◌≡◌, refl, sym, ap, ◌∙◌, subst}
use mathlib.Core.Bool.{false}
use mathlib.Core.List.{List, [], ◌∷◌, ◌++◌, map, append-nil}
use Prim.Native.Nat.{ℕ, zero, suc, ◌+◌, ◌*◌, ◌≤◌, ◌<◌}
use native.Mathlib.Omega.{arith}
use native.Mathlib.Nat.{suc-mul, zero-mul}
use lib.ListN.{length, drop, length-drop, drop_of_length-le}
use lib.Seq.{drop-drop}
use borrow.Author.Tests.{le-ltb, ne_eqb}
use Rattle.plan.specs.declared.Task.{Task}
use Rattle.plan.specs.declared.Sense.{Sense}
use Rattle.plan.specs.declared.Sense.TheVariants.{AtMost, AtLeast}
use Rattle.plan.specs.Tasks.{most_tasks, most_resources, most_bands}
use Rattle.rules.specs.Frame.{Frame, resource_count}
use Rattle.rules.specs.Calls.{check}
use Rattle.rules.proofs.Checks.{accepts, past_all}
use Rattle.format.specs.declared.Mark.{Mark}
use Rattle.format.specs.declared.Mark.TheVariants.{PL, LB, TK}
use Rattle.format.specs.declared.Header.{Header}
use Rattle.format.specs.Format.{Layout, resources, bands, tasks, size, marked, due_in, numbers_in, sense_number, sense_from, bands_from, tasks_from, file_length}
use Rattle.format.specs.Writing.{header_of}
use Rattle.format.specs.Reading.{due, each_due, records_in, run_due, run_in, band_run, each_band_due, looked_at, bands_due, band_count, bands_in, header_in, header_due, frame_in, tasks_in, file_end, body_due, Read, read_header, read_body, read_after, read_plan}
use Rattle.format.proofs.Records.{due_is, due_size, due_alone}
use Rattle.format.proofs.Bands.{taken_in, run_is}
use Rattle.format.proofs.Files.{Whole, whole, frame_count, tasks_count}
use Rattle.cursor.specs.declared.Record.{Record}
use Rattle.cursor.specs.Handed.{record_in, record_at, past_in, past_at}
use Rattle.cursor.proofs.Due.{rest_none, stands, whole_handed, past_whole}
use Rattle.reader.proofs.Handing.{Kind, plan_kind, resource_kind, band_kind, task_kind}
use Rattle.reader.specs.Walking.{resource_record, band_record, task_record, records_of, HandsOut}

-- ---- one record
-- a record that is due is handed out, and the place past it is its size further on
due_handed_out : (k : Mark) (file : List ℕ) (at : ℕ) → let j = due_in k (drop at file) in due j at (drop at file) ≡ accepted → (record_at file at ≡ record_in j at (drop at file)) × (past_at file at ≡ at + size k)
unfolding record_at past_at
due_handed_out k file at d =
    let bs = drop at file in
    let e = whole_handed (due_in k bs) at bs d in
    (e, ap (past_in at) e ∙ past_whole (due_in k bs) at bs ∙ ap (λ (n : ℕ). at + n) (due_size k bs))

module _ {A : Type 0} {l : Layout A} {made : A → ℕ → Record} (w : Kind l made) (file : List ℕ) (to : ℕ) where
  hands_one : (rest : List (ℕ → Record)) (at : ℕ) → let j = due_in l.due (drop at file) in due j at (drop at file) ≡ accepted → HandsOut file (at + size l.due) rest to → HandsOut file at (made (l.from j (numbers_in l.due (drop at file))) ∷ rest) to
  hands_one rest at d h = let o = due_handed_out l.due file at d in rw o.1 (o.0 ∙ w.whole at (drop at file), h)

  took_one : (rest : List (ℕ → Record)) (at : ℕ) (x : A) → HandsOut file at (made x ∷ rest) to → let j = due_in l.due (drop at file) in (due j at (drop at file) ≡ accepted) × (x ≡ l.from j (numbers_in l.due (drop at file))) × HandsOut file (at + size l.due) rest to
  unfolding record_at
  took_one rest at x h =
      let t = w.taken at (drop at file) h.0 in
      (t.0, t.1, subst (λ (p : ℕ). HandsOut file p rest to) t.2 h.1)

  -- ---- so many records of one kind
  record Taken (at : ℕ) (xs : List A) (rest : List (ℕ → Record)) : Type 0 where
    pub due : run_due l file at (length xs) ≡ accepted
    pub held : run_in l file at (length xs) ≡ xs
    pub later : HandsOut file (at + length xs * size l.due) rest to

  none_further : (at : ℕ) → at + 0 * size l.due ≡ at
  none_further at = omega (arith, zero-mul (size l.due))

  one_further : (at n : ℕ) → at + size l.due + n * size l.due ≡ at + suc n * size l.due
  one_further at n = omega (arith, suc-mul n (size l.due))

  hands_run : (rest : List (ℕ → Record)) (n at : ℕ) → run_due l file at n ≡ accepted → HandsOut file (at + n * size l.due) rest to → HandsOut file at (map made (run_in l file at n) ++ rest) to
  unfolding each_due records_in
  hands_run rest zero at d h = subst (λ (p : ℕ). HandsOut file p rest to) (none_further at) h
  hands_run rest (suc n) at d h =
      let k = l.due in
      let a = past_all (due (due_in k (drop at file)) at (drop at file)) (each_due k n (at + size k) (drop (size k) (drop at file))) d in
      let h' = subst (λ (p : ℕ). HandsOut file p rest to) (sym (one_further at n)) h in
      let later = hands_run rest n (at + size k) (rw (drop-drop (size k) at file) at a.1) h' in
      hands_one (map made (records_in l n (drop (size k) (drop at file))) ++ rest) at a.0 (rw (drop-drop (size k) at file) later)

  took_run : (rest : List (ℕ → Record)) (xs : List A) (at : ℕ) → HandsOut file at (map made xs ++ rest) to → Taken at xs rest
  unfolding each_due records_in
  took_run rest [] at h = record { due = refl; held = refl; later = subst (λ (p : ℕ). HandsOut file p rest to) (sym (none_further at)) h }
  took_run rest (x ∷ xs) at h =
      let k = l.due in
      let o = took_one (map made xs ++ rest) at x h in
      let r = took_run rest xs (at + size k) o.2 in
      record {
        due = rw (o.0, drop-drop (size k) at file) r.due;
        held = rw (← o.1, drop-drop (size k) at file, r.held);
        later = subst (λ (p : ℕ). HandsOut file p rest to) (one_further at (length xs)) r.later;
      }

-- a run of due records ends within the file
run_within : (k : Mark) (file : List ℕ) (n at : ℕ) → at ≤ length file → each_due k n at (drop at file) ≡ accepted → at + n * size k ≤ length file
unfolding each_due
run_within k file zero at h d = omega (arith, zero-mul (size k))
run_within k file (suc n) at h d =
    let j = due_in k (drop at file) in
    let a = past_all (due j at (drop at file)) (each_due k n (at + size k) (drop (size k) (drop at file))) d in
    let one : size k ≤ length (drop at file) = rw (due_size k (drop at file)) at (due_is j at (drop at file) a.0).whole in
    let r = run_within k file n (at + size k) (omega (arith, one, length-drop at file)) (rw (drop-drop (size k) at file) at a.1) in
    omega (arith, r, suc-mul n (size k))

-- ---- the run of bands, which is told from what follows it by its marks
bands_in_lem : (n most room k at : ℕ) (bs : List ℕ) → each_due LB n at bs ≡ accepted → marked LB (drop (n * size LB) bs) ≡ false → n < most → k + n ≤ most_bands → k + n ≤ room → (each_band_due most room k at bs ≡ accepted) × (band_run most bs ≡ n)
unfolding each_due each_band_due band_run
bands_in_lem n zero room k at bs d m l a b = (refl, absurd (omega arith))
bands_in_lem zero (suc most) room k at bs d m l a b = (rw m, rw m)
bands_in_lem (suc n) (suc most) room k at bs d m l a b =
    let e = past_all (due (due_in LB bs) at bs) (each_due LB n (at + size LB) (drop (size LB) bs)) d in
    let one = due_is LB at bs (rw (due_alone LB bs refl) at e.0) in
    let taken = taken_in room k at bs (record { whole = one.whole; few = omega arith; held = omega arith }) in
    let same : size LB + n * size LB ≡ suc n * size LB = omega (arith, suc-mul n (size LB)) in
    let m' : marked LB (drop (n * size LB) (drop (size LB) bs)) ≡ false = rw (drop-drop (n * size LB) (size LB) bs, same) m in
    let r = bands_in_lem n most room (suc k) (at + size LB) (drop (size LB) bs) e.1 m' (omega arith) (omega arith) (omega arith) in
    (rw (one.begins, taken) r.0, rw (one.begins, r.1))

-- no band follows where a task does, or nothing
unmarked : (n : ℕ) (ts : List Task) (file : List ℕ) (at : ℕ) → HandsOut file at (map task_record ts) (length file) → marked LB (drop at file) ≡ false
unfolding marked
unmarked n [] file at h = let end : length file ≤ at = omega (arith, h) in rw (drop_of_length-le file end)
unmarked n (t ∷ ts) file at h =
    let o = took_one (task_kind n) file (length file) (map task_record ts) at t h in
    stands TK LB (drop at file) (due_is TK at (drop at file) (rw (due_alone TK (drop at file) refl) at o.0)).begins

-- ---- the sense byte
sense_number_lem : (s : ℕ) → s ≤ 1 → sense_number (sense_from s) ≡ s
sense_number_lem zero e = refl
sense_number_lem (suc s) e = omega arith

sense_small : (s : Sense) → sense_number s < 2
sense_small AtMost = omega arith
sense_small AtLeast = omega arith

sense_back : (s : Sense) → sense_from (sense_number s) ≡ s
sense_back AtMost = refl
sense_back AtLeast = refl

-- ---- a plan that is read is walked
module _ (file : List ℕ) (f : Frame) (ts : List Task) (w : Whole file f ts) where
  abbrev h : Header
  h = header_in file

  abbrev k : ℕ
  k = bands_in h file

  bands_each : run_due bands file (bands_from h.resources) k ≡ accepted
  unfolding bands_in bands_due band_count
  bands_each = (run_is looked_at most_bands 0 (bands_from h.resources) (drop (bands_from h.resources) file) w.banded).due

  ends_there : file_end h file ≡ length file
  ends_there =
      let first = (due_is PL 0 file w.first).whole in
      let listed = run_within resources.due file h.resources (size PL) first w.listed in
      let banded = run_within LB file k (bands_from h.resources) listed bands_each in
      let last = run_within (tasks h.resources).due file h.tasks (tasks_from h.resources k) banded w.last in
      omega (arith, last, w.ends)

  header_same : header_of (frame_in h file) (length (tasks_in h file)) ≡ h
  unfolding header_of frame_in
  header_same = rw (sense_number_lem h.sense w.few.sense, frame_count h file, tasks_count h file)

  tasks_handed : HandsOut file (tasks_from h.resources k) (map task_record (tasks_in h file)) (length file)
  unfolding tasks_in
  tasks_handed = rw append-nil at (hands_run (task_kind h.resources) file (length file) [] h.tasks (tasks_from h.resources k) w.last ends_there)

  bands_handed : HandsOut file (bands_from h.resources) (map band_record (frame_in h file).bands ++ map task_record (tasks_in h file)) (length file)
  unfolding frame_in
  bands_handed = hands_run band_kind file (length file) (map task_record (tasks_in h file)) k (bands_from h.resources) bands_each tasks_handed

  resources_handed : HandsOut file (size PL) (map resource_record (frame_in h file).resources ++ (map band_record (frame_in h file).bands ++ map task_record (tasks_in h file))) (length file)
  unfolding frame_in
  resources_handed =
      hands_run resource_kind file (length file) (map band_record (frame_in h file).bands ++ map task_record (tasks_in h file)) h.resources (size PL) w.listed bands_handed

  all_handed : HandsOut file 0 (records_of (frame_in h file) (tasks_in h file)) (length file)
  unfolding records_of header_in
  all_handed =
      rw header_same
      (hands_one plan_kind file (length file) (map resource_record (frame_in h file).resources ++ (map band_record (frame_in h file).bands ++ map task_record (tasks_in h file))) 0 (rw (due_alone PL file refl) w.first) resources_handed)

pub read_walked : (file : List ℕ) (f : Frame) (ts : List Task) → read_plan file ≡ Read.Plan f ts → (check f ts ≡ accepted) × HandsOut file 0 (records_of f ts) (length file)
read_walked file f ts e = let w : Whole file f ts = whole e in (w.accepted, rw (w.frame, w.tasks) at (all_handed file f ts w))

-- there the reader has no more to hand out
pub walk_ends : (file : List ℕ) → record_at file (length file) ≡ Record.Ended
walk_ends file = sym (rest_none file (length file) (omega arith))

-- ---- a plan that is walked is read
module _ (file : List ℕ) (f : Frame) (ts : List Task) (ok : check f ts ≡ accepted) (walked : HandsOut file 0 (records_of f ts) (length file)) where
  abbrev n : ℕ
  n = resource_count f

  abbrev count : ℕ
  count = length f.bands

  abbrev head : Header
  head = header_of f (length ts)

  -- the records after the first
  abbrev others : List (ℕ → Record)
  others = map resource_record f.resources ++ (map band_record f.bands ++ map task_record ts)

  first : (due PL 0 file ≡ accepted) × (head ≡ header_in file) × HandsOut file (size PL) others (length file)
  unfolding records_of header_in
  first = rw (due_alone PL file refl) at (took_one plan_kind file (length file) others 0 head walked)

  listed : Taken resource_kind file (length file) (size PL) f.resources (map band_record f.bands ++ map task_record ts)
  listed = took_run resource_kind file (length file) (map band_record f.bands ++ map task_record ts) f.resources (size PL) first.2

  banded : Taken band_kind file (length file) (bands_from n) f.bands (map task_record ts)
  banded = took_run band_kind file (length file) (map task_record ts) f.bands (bands_from n) listed.later

  last : Taken (task_kind n) file (length file) (tasks_from n count) ts []
  last = took_run (task_kind n) file (length file) [] ts (tasks_from n count) (rw append-nil banded.later)

  bands_run : (bands_due most_bands file (bands_from n) ≡ accepted) × (band_count file (bands_from n) ≡ count)
  unfolding bands_due band_count
  bands_run =
      let few = (accepts f ts ok).few_bands in
      let next = unmarked n ts file (tasks_from n count) banded.later in
      bands_in_lem count looked_at most_bands 0 (bands_from n) (drop (bands_from n) file) banded.due (rw (drop-drop (count * size LB) (bands_from n) file) next) (omega arith) (omega arith) (omega arith)

  bands_counted : bands_in head file ≡ count
  unfolding bands_in header_of
  bands_counted = bands_run.1

  header_passes : header_due head ≡ accepted
  unfolding header_due header_of
  header_passes =
      let a = accepts f ts ok in
      let s = sense_small f.sense in
      simp (
        le-ltb 1 (sense_number f.sense) (omega arith),
        le-ltb most_tasks (length ts) a.few,
        ne_eqb n 0 (λ e. omega (arith, a.some)),
        le-ltb most_resources n a.most,
      )

  body_passes : body_due most_bands head file ≡ accepted
  unfolding body_due header_of
  body_passes =
      simp (
        listed.due,
        bands_run.0,
        bands_counted,
        last.due,
        le-ltb (file_length n count (length ts)) (length file) (omega (arith, last.later)),
      )

  frame_back : frame_in head file ≡ f
  unfolding frame_in header_of
  frame_back = rw (listed.held, bands_counted, banded.held, sense_back f.sense)

  tasks_back : tasks_in head file ≡ ts
  unfolding tasks_in header_of
  tasks_back = rw bands_counted last.held

  pub walked_read : read_plan file ≡ Read.Plan f ts
  unfolding read_plan read_header read_after read_body
  walked_read = rw (first.0, ← first.1, header_passes, body_passes, frame_back, tasks_back, ok)

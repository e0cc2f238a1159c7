-- ROUND TRIPS. An accepted plan written and read gives the same plan; an accepted file read and written gives the same bytes; a file
-- is accepted exactly if it is the writing of a plan that passes the checks; and lists of so many places take the plans that fit them.
use Rattle.std.specs.Prelude.{Ok, Err}
use Rattle.plan.specs.Refusals.{Checked, accepted}
use mathlib.Core.Path.{◌≡◌, refl, sym, ap, ◌∙◌, subst}
use mathlib.Core.List.{List, ◌++◌}
use Prim.Native.Nat.{ℕ, ◌≤◌}
use native.Mathlib.Omega.{arith}
use native.Mathlib.Nat.{zero-add}
use lib.Dec.{ltb}
use lib.ListN.{length, drop}
use borrow.Author.Tests.{le-ltb, ltb-false}
use Rattle.integers.specs.Tests.{or}
use Rattle.integers.proofs.Tests.{or_none}
use Rattle.plan.specs.declared.Task.{Task}
use Rattle.plan.specs.declared.Resource.{Resource}
use Rattle.plan.specs.declared.Sense.{Sense}
use Rattle.plan.specs.declared.Refusal.TheVariants.{CutShort, ListShort}
use Rattle.plan.specs.Tasks.{most_bands}
use Rattle.rules.specs.Frame.{Frame, unbanded, resource_count}
use Rattle.rules.specs.Calls.{or_else, refuse_if}
use Rattle.rules.proofs.Checks.{past_all}
use Rattle.format.specs.declared.Mark.TheVariants.{PL}
use Rattle.format.specs.declared.Header.{Header}
use Rattle.format.specs.Format.{resources, tasks, size, record_bytes, header_numbers, bands_from, tasks_from}
use Rattle.format.specs.Numbers.{AllBytes}
use Rattle.format.specs.Writing.{records_bytes, header_of, written, Good}
use Rattle.format.specs.Reading.{due, run_due, header_in, header_due, header_unless, lists_due, bands_due, band_count, bands_in, looked_at, file_end, frame_in, tasks_in, body_due, Read, read_header, read_body, read_after, read_plan, plan_after, lent_after, read_lent}
use Rattle.format.proofs.Records.{unrefused}
use Rattle.format.proofs.Bands.{run_is, run_room}
use Rattle.format.proofs.Files.{read_back, whole, write_back, identified, read_is, header_is, after_is, frame_count, bands_count, tasks_count}

pub written_read : (f : Frame) (ts : List Task) → Good f ts → read_plan (written f ts) ≡ Read.Plan f ts
written_read f ts g = read_back f ts g.identifiers g.passes

pub written_accepted : (file : List ℕ) (f : Frame) (ts : List Task) → Good f ts × (written f ts ≡ file) → read_plan file ≡ Read.Plan f ts
written_accepted file f ts g = subst (λ (x : List ℕ). read_plan x ≡ Read.Plan f ts) g.1 (written_read f ts g.0)

module _ (file : List ℕ) (bytes : AllBytes file) (f : Frame) (ts : List Task) where
  pub accepted_written : read_plan file ≡ Read.Plan f ts → Good f ts × (written f ts ≡ file)
  accepted_written e =
      let w = whole e in
      (record { identifiers = identified file f ts w bytes; passes = w.accepted }, write_back file f ts w bytes)

  pub read_written : read_plan file ≡ Read.Plan f ts → written f ts ≡ file
  read_written e = (accepted_written e).1

-- ---- "Files without LB keep their bytes."
pub unbanded_written : (sense : Sense) (qs : List Resource) (ts : List Task) → written (unbanded sense qs) ts ≡ record_bytes PL (header_numbers (header_of (unbanded sense qs) (length ts))) ++ (records_bytes resources qs ++ records_bytes (tasks (length qs)) ts)
unfolding written records_bytes
unbanded_written sense qs ts = refl

-- ---- lists of so many places
-- what was due for one band list is due for every other that has room
body_room : (h : Header) (file : List ℕ) (one other : ℕ) → bands_in h file ≤ other → body_due one h file ≡ accepted → body_due other h file ≡ accepted
unfolding body_due bands_due bands_in band_count
body_room h file one other l e =
    let at = bands_from h.resources in
    let rs = run_due resources file (size PL) h.resources in
    let ks = run_due (tasks h.resources) file (tasks_from h.resources (bands_in h file)) h.tasks in
    let over = refuse_if (ltb (file_end h file) (length file)) (CutShort (file_end h file)) in
    let a = past_all rs (or_else (bands_due one file at) (or_else ks over)) e in
    let b = past_all (bands_due one file at) (or_else ks over) a.1 in
    rw (a.0, run_room looked_at one other 0 at (drop at file) b.0 (rw zero-add l)) b.1

-- a plan that was read, for a list of so many bands, is the plan that the file holds, and only how many bands there are decides
module _ (room : ℕ) (h : Header) (file : List ℕ) {f : Frame} {ts : List Task} where
  after_frame : (other : ℕ) → read_after other h file ≡ Read.Plan f ts → frame_in h file ≡ f
  unfolding read_body
  after_frame other e =
      let plan = (read_is (body_due other h file) (Read.Plan (frame_in h file) (tasks_in h file)) (after_is other h file e).0).1 in
      cc

  read_room : (one other : ℕ) → bands_in h file ≤ other → read_after one h file ≡ Read.Plan f ts → read_after other h file ≡ Read.Plan f ts
  unfolding read_after read_body
  read_room one other l e =
      let d = (read_is (body_due one h file) (Read.Plan (frame_in h file) (tasks_in h file)) (after_is one h file e).0).0 in
      rw (body_room h file one other l d) (rw d at e)

  run_few : (other : ℕ) → read_after other h file ≡ Read.Plan f ts → (bands_in h file ≤ most_bands) × (bands_in h file ≤ other)
  unfolding read_body body_due bands_due bands_in band_count
  run_few other e =
      let at = bands_from h.resources in
      let rs = run_due resources file (size PL) h.resources in
      let ks = run_due (tasks h.resources) file (tasks_from h.resources (bands_in h file)) h.tasks in
      let over = refuse_if (ltb (file_end h file) (length file)) (CutShort (file_end h file)) in
      let d = (read_is (body_due other h file) (Read.Plan (frame_in h file) (tasks_in h file)) (after_is other h file e).0).0 in
      let a = past_all rs (or_else (bands_due other file at) (or_else ks over)) d in
      let b = past_all (bands_due other file at) (or_else ks over) a.1 in
      let r = run_is looked_at other 0 at (drop at file) b.0 in
      (rw zero-add at (r.few (omega arith)), rw zero-add at (r.held (omega arith)))

  counted : (other : ℕ) → read_after other h file ≡ Read.Plan f ts → length f.bands ≡ bands_in h file
  counted other e = ap (λ (g : Frame). length g.bands) (sym (after_frame other e)) ∙ bands_count h file

  after_room : read_after room h file ≡ Read.Plan f ts → (read_after most_bands h file ≡ Read.Plan f ts) × (length f.bands ≤ room)
  after_room e =
      let r = run_few room e in
      (read_room room most_bands r.0 e, omega (arith, counted room e, r.1))

  room_after : read_after most_bands h file ≡ Read.Plan f ts → length f.bands ≤ room → read_after room h file ≡ Read.Plan f ts
  room_after e l = read_room most_bands room (omega (arith, counted most_bands e)) e

module _ (places bandRoom room : ℕ) (file : List ℕ) {f : Frame} {ts : List Task} where
  lent_after_lem : (c : Checked) (h : Header) → lent_after places bandRoom room file (header_unless c h) ≡ Read.Plan f ts → (plan_after file (header_unless c h) ≡ Read.Plan f ts) × (lists_due places room h ≡ accepted) × (length f.bands ≤ bandRoom)
  lent_after_lem (Ok _) h e =
      let r = read_is (lists_due places room h) (read_after bandRoom h file) e in
      let m = after_room bandRoom h file r.1 in
      (m.0, r.0, m.1)
  lent_after_lem (Err g) h e = let q : ◌≡◌ {A = ℕ} 0 1 = cc in absurd (omega arith)

  counts : read_plan file ≡ Read.Plan f ts → (resource_count f ≡ (header_in file).resources) × (length ts ≡ (header_in file).tasks)
  counts e =
      let w = whole e in
      (ap resource_count (sym w.frame) ∙ frame_count (header_in file) file, ap length (sym w.tasks) ∙ tasks_count (header_in file) file)

  pub lent_is : read_lent places bandRoom room file ≡ Read.Plan f ts → (read_plan file ≡ Read.Plan f ts) × (resource_count f ≤ places) × (length f.bands ≤ bandRoom) × (length ts ≤ room)
  unfolding read_lent read_plan read_header lists_due
  lent_is e =
      let h = header_in file in
      let few = ltb places h.resources in
      let short = ltb room h.tasks in
      let a = lent_after_lem (or_else (due PL 0 file) (header_due h)) h e in
      let n = counts a.0 in
      let l = or_none few short (unrefused (or few short) ListShort a.1) in
      (a.0, omega (arith, n.0, ltb-false places h.resources l.0), a.2, omega (arith, n.1, ltb-false room h.tasks l.1))

  pub lent_in : read_plan file ≡ Read.Plan f ts → resource_count f ≤ places → length f.bands ≤ bandRoom → length ts ≤ room → read_lent places bandRoom room file ≡ Read.Plan f ts
  unfolding read_lent read_plan read_header lists_due
  lent_in e p b r =
      let h = header_in file in
      let n = counts e in
      let a = header_is (or_else (due PL 0 file) (header_due h)) h file e in
      rw (a.0, le-ltb places h.resources (omega (arith, n.0)), le-ltb room h.tasks (omega (arith, n.1))) (room_after bandRoom h file a.1 b)

-- What follows a PL record: the resources' run, the bands' run, the tasks' run, then the length; each read by a reader that stands where the one before
-- it left it.
use Rattle.std.specs.Prelude.{Ok, Err}
use mathlib.Core.Path.{◌≡◌, sym, ◌∙◌}
use mathlib.Core.List.{List, ◌++◌}
use Prim.Native.Nat.{ℕ, ◌≤◌, ◌<◌}
use lib.ListN.{length, take}
use lib.Seq.{take-append-le}
use borrow.Author.Tests.{lt-ltb, le-ltb}
use Rattle.plan.specs.declared.Refusal.{Refusal}
use Rattle.plan.specs.declared.Refusal.TheVariants.{CutShort}
use Rattle.plan.specs.declared.Resource.{Resource}
use Rattle.plan.specs.declared.Band.{Band}
use Rattle.plan.specs.declared.Task.{Task}
use Rattle.plan.specs.Refusals.{Checked, accepted}
use Rattle.format.specs.declared.Mark.TheVariants.{PL}
use Rattle.format.specs.declared.Header.{Header}
use Rattle.format.specs.Format.{resources, tasks, size, bands_from, tasks_from, file_length}
use Rattle.format.specs.Reading.{Read, Run, ReadRun, ReadBands, run_due, run_in, bands_due, bands_in, body_due, read_body, header_plan}
use Rattle.format.proofs.Files.{lists_read}
use Rattle.runs.proofs.Going.{bands_through, bands_held, bands_refused}

module _ (h : Header) (file : List ℕ) {n : ℕ} {first : Checked} {qs : List Resource} (same : n ≡ h.resources) (read : ReadRun resources file (size PL) n first qs) where
  listed : {r : Checked} → first ≡ r → run_due resources file (size PL) h.resources ≡ r
  listed g = rw same at (sym read.answer ∙ g)

  pub unlisted : (room : ℕ) {f : Refusal} → first ≡ Err f → Read.Refuse f ≡ read_body room h file
  unfolding read_body body_due
  unlisted room g = rw (listed g)

  module _ (ok : first ≡ accepted) {at room : ℕ} {run : Run} {bs : List Band} (behind : at ≡ bands_from h.resources) (banded : ReadBands file at room run bs) where
    pub unbanded : {f : Refusal} → run ≡ Err f → Read.Refuse f ≡ read_body room h file
    unfolding read_body body_due
    unbanded g = rw (listed ok, bands_refused behind banded g)

    module _ {k : ℕ} (through : run ≡ Ok k) {from m : ℕ} {last : Checked} {ts : List Task} (all : m ≡ h.tasks) (next : from ≡ tasks_from h.resources k) (rest : ReadRun (tasks h.resources) file from m last ts) where
      counted : (bands_due room file (bands_from h.resources) ≡ accepted) × (bands_in h file ≡ k)
      unfolding bands_in
      counted = bands_through behind banded through

      lasted : {r : Checked} → last ≡ r → run_due (tasks h.resources) file (tasks_from h.resources k) h.tasks ≡ r
      lasted g = rw (next, all) at (sym rest.answer ∙ g)

      pub unlasted : {f : Refusal} → last ≡ Err f → Read.Refuse f ≡ read_body room h file
      unfolding read_body body_due
      unlasted g = rw (listed ok, counted.0, counted.1, lasted g)

      module _ (done : last ≡ accepted) {end : ℕ} (there : end ≡ file_length h.resources k h.tasks) where
        pub left_over : end < length file → Read.Refuse (CutShort end) ≡ read_body room h file
        unfolding read_body body_due
        left_over l =
            rw (listed ok, counted.0, counted.1, lasted done, there, lt-ltb (file_length h.resources k h.tasks) (length file) (rw there at l))

        pub all_read : length file ≤ end → h.resources ≤ length qs → h.tasks ≤ length ts → (rs : List Resource) (us : List Task) → header_plan h (qs ++ rs) bs (ts ++ us) k ≡ read_body room h file
        unfolding read_body body_due bands_in
        all_read l a b rs us =
            let x : take h.resources (qs ++ rs) ≡ run_in resources file (size PL) h.resources = rw (take-append-le h.resources qs rs a) (rw same at (read.held ok)) in
            let v : take h.tasks (ts ++ us) ≡ run_in (tasks h.resources) file (tasks_from h.resources k) h.tasks = rw (take-append-le h.tasks ts us b) (rw (next, all) at (rest.held done)) in
            rw (
              listed ok,
              counted.0,
              counted.1,
              lasted done,
              le-ltb (file_length h.resources k h.tasks) (length file) (rw there at l),
            )
            (rw (← counted.1) (lists_read h file (qs ++ rs) bs (ts ++ us) x (bands_held behind banded through) (rw (← counted.1) at v)))

-- Round trips of the calls over lent lists: "A plan written reads back the same; an accepted file written again has the same bytes", over
-- `write_call` and `read_call`, which are the promises of the calls. Of a list of resources it is asked that identifiers are signed 32-bit
-- numbers, of a file that it has bytes: every lent list of resources, every lent file has that.
use Rattle.std.specs.Prelude.{Ok, Err}
use mathlib.Core.Path.{◌≡◌, refl, sym, ap, ◌∙◌}
use mathlib.Core.List.{List, [], ◌∷◌}
use Prim.Native.Nat.{ℕ, ◌≤◌, ◌<◌}
use native.Mathlib.Omega.{arith}
use lib.ListN.{length, take, drop}
use lib.Seq.{take_at, drop_at}
use borrow.Author.Tests.{lt-ltb, le-ltb}
use Rattle.integers.specs.Lists.{Each}
use Rattle.plan.specs.declared.Task.{Task}
use Rattle.plan.specs.declared.Resource.{Resource}
use Rattle.plan.specs.declared.Band.{Band}
use Rattle.plan.specs.declared.Sense.{Sense}
use Rattle.plan.specs.declared.Sense.TheVariants.{AtMost, AtLeast}
use Rattle.plan.specs.declared.Refusal.{Refusal}
use Rattle.plan.specs.Refusals.{Told, told, number, place, Checked, accepted}
use Rattle.plan.proofs.Refusals.{first_value, told_refused, told_refusals}
use Rattle.rules.specs.Frame.{Frame, framed, resource_count}
use Rattle.rules.specs.Calls.{or_else, check}
use Rattle.rules.proofs.Checks.{past_all}
use Rattle.format.specs.Writing.{WriteAnswer}
use Rattle.format.specs.Reading.{ReadAnswer}
use Rattle.format.specs.Numbers.{AllBytes}
use Rattle.format.specs.Format.{sense_number}
use Rattle.format.specs.Writing.{written, laid, Identified, told_write, written_unless, room_for, write_call}
use Rattle.format.specs.Reading.{Read, read_lent, told_read, ReadResult, read_into, read_call}
use Rattle.format.proofs.Files.{whole}
use Rattle.format.proofs.RoundTrip.{written_read, read_written, lent_is, lent_in}

-- ---- what a call that is not refused says
laid_first : {A : Type 0} (n : ℕ) (xs ds : List A) → length xs ≡ n → take n (laid xs ds) ≡ xs
laid_first n xs ds e = take_at xs (drop (length xs) ds) n e

written_is : (c : Checked) (n : ℕ) (file out : List ℕ) → (written_unless c file out).answer ≡ told 0 (n ∷ []) → (c ≡ accepted) × (length file ≡ n)
written_is (Ok _) n file out e = (refl, first_value (ap (λ (t : Told). t.values) e))
written_is (Err f) n file out e = told_refused f (n ∷ []) e

sense_once : (a b : Sense) → sense_number a ≡ sense_number b → a ≡ b
sense_once AtMost AtMost e = refl
sense_once AtLeast AtLeast e = refl
sense_once AtMost AtLeast e = absurd (omega arith)
sense_once AtLeast AtMost e = absurd (omega arith)

-- ---- "A plan written reads back the same"
module _ (f : Frame) (ts : List Task) (ids : Each Identified f.resources) (out : List ℕ) (n : ℕ) (done : (write_call f ts out).answer ≡ told 0 (n ∷ [])) where
  passed : (check f ts ≡ accepted) × (length (written f ts) ≡ n)
  unfolding write_call
  passed =
      let w = written_is (or_else (check f ts) (room_for (length (written f ts)) (length out))) n (written f ts) out done in
      ((past_all (check f ts) (room_for (length (written f ts)) (length out)) w.0).0, w.1)

  buffer_is : (write_call f ts out).buffer ≡ laid (written f ts) out
  unfolding write_call
  buffer_is = rw (written_is (or_else (check f ts) (room_for (length (written f ts)) (length out))) n (written f ts) out done).0

  -- so many first bytes are the plan's file, and later ones stay
  pub write_lays : (take n (write_call f ts out).buffer ≡ written f ts) × (drop n (write_call f ts out).buffer ≡ drop n out)
  write_lays = rw buffer_is (laid_first n (written f ts) out passed.1, drop_at (written f ts) (drop (length (written f ts)) out) n passed.1 ∙ ap (λ (k : ℕ). drop k out) passed.1)

  -- these bytes, read into lists that have room, are answered with the plan's sense and counts, and the first places hold the plan
  pub write_then_read : (qs : List Resource) (bs : List Band) (us : List Task) → resource_count f ≤ length qs → length f.bands ≤ length bs → length ts ≤ length us → read_call (take n (write_call f ts out).buffer) qs bs us ≡ record { answer = told 0 (sense_number f.sense ∷ resource_count f ∷ length f.bands ∷ length ts ∷ []); resources = laid f.resources qs; bands = laid f.bands bs; tasks = laid ts us }
  unfolding read_call
  write_then_read qs bs us p b r =
      let back = written_read f ts (record { identifiers = ids; passes = passed.0 }) in
      rw (write_lays.0, lent_in (length qs) (length bs) (length us) (written f ts) back p b r)

-- ---- "an accepted file written again has the same bytes"
module _ (file : List ℕ) (bytes : AllBytes file) (qs : List Resource) (bs : List Band) (ts : List Task) where
  abbrev left : ReadResult
  left = read_call file qs bs ts

  module _ (sense : Sense) (n k m : ℕ) where
    -- what was read, as far as the answer counts it
    record Held (f : Frame) (us : List Task) : Type 0 where
      frame : framed sense (take n left.resources) (take k left.bands) ≡ f
      tasks : take m left.tasks ≡ us
      plan : read_lent (length qs) (length bs) (length ts) file ≡ Read.Plan f us

    held : (x : Read) → read_lent (length qs) (length bs) (length ts) file ≡ x → (read_into x qs bs ts).answer ≡ told 0 (sense_number sense ∷ n ∷ k ∷ m ∷ []) → (f : Frame) × (us : List Task) × Held f us
    unfolding read_call
    held (Read.Refuse g) e d = told_refused g (sense_number sense ∷ n ∷ k ∷ m ∷ []) d
    held (Read.Plan f us) e d =
        let vs = ap (λ (t : Told). t.values) d in
        let a : sense_number f.sense ≡ sense_number sense = cc in
        let b : resource_count f ≡ n = cc in
        let c : length f.bands ≡ k = cc in
        let g : length us ≡ m = cc in
        (f, us, record { frame = rw (e, laid_first n f.resources qs b, laid_first k f.bands bs c, sense_once sense f.sense (sym a)); tasks = rw (e, laid_first m us ts g); plan = e })

    pub read_then_write : left.answer ≡ told 0 (sense_number sense ∷ n ∷ k ∷ m ∷ []) → (out : List ℕ) → length file ≤ length out → write_call (framed sense (take n left.resources) (take k left.bands)) (take m left.tasks) out ≡ record { answer = told 0 (length file ∷ []); buffer = laid file out }
    unfolding write_call read_call room_for
    read_then_write d out l =
        let h = held (read_lent (length qs) (length bs) (length ts) file) refl d in
        let f = h.0 in
        let us = h.1 in
        let r = (lent_is (length qs) (length bs) (length ts) file h.2.plan).0 in
        rw (h.2.frame, h.2.tasks, read_written file bytes f us r, (whole r).accepted, le-ltb (length out) (length file) l)

-- ---- "On each refusal, task lists and buffers keep their entry contents."
unwritten : (c : Checked) (file out : List ℕ) → ((written_unless c file out).answer.number ≡ 0 → ⊥) → (written_unless c file out).buffer ≡ out
unwritten (Ok _) file out h = absurd (h refl)
unwritten (Err f) file out h = refl

pub write_stays : (f : Frame) (ts : List Task) (out : List ℕ) → ((write_call f ts out).answer.number ≡ 0 → ⊥) → (write_call f ts out).buffer ≡ out
unfolding write_call
write_stays f ts out h = unwritten (or_else (check f ts) (room_for (length (written f ts)) (length out))) (written f ts) out h

unread : (x : Read) (qs : List Resource) (bs : List Band) (ts : List Task) → ((read_into x qs bs ts).answer.number ≡ 0 → ⊥) → ((read_into x qs bs ts).resources ≡ qs) × ((read_into x qs bs ts).bands ≡ bs) × ((read_into x qs bs ts).tasks ≡ ts)
unread (Read.Plan f us) qs bs ts h = absurd (h refl)
unread (Read.Refuse f) qs bs ts h = (refl, refl, refl)

pub read_stays : (file : List ℕ) (qs : List Resource) (bs : List Band) (ts : List Task) → ((read_call file qs bs ts).answer.number ≡ 0 → ⊥) → ((read_call file qs bs ts).resources ≡ qs) × ((read_call file qs bs ts).bands ≡ bs) × ((read_call file qs bs ts).tasks ≡ ts)
unfolding read_call
read_stays file qs bs ts h = unread (read_lent (length qs) (length bs) (length ts) file) qs bs ts h

-- ---- an answer is known by its number and values
pub write_told_once : (a b : WriteAnswer) → told_write a ≡ told_write b → a ≡ b
write_told_once (Ok n) (Ok m) e = ap Ok (first_value (ap (λ (t : Told). t.values) e))
write_told_once (Ok n) (Err g) e = told_refused g (n ∷ []) (sym e)
write_told_once (Err f) (Ok m) e = told_refused f (m ∷ []) e
write_told_once (Err f) (Err g) e = ap Err (told_refusals f g e)

pub read_told_once : (a b : ReadAnswer) → told_read a ≡ told_read b → a ≡ b
read_told_once (Ok p) (Ok q) e =
    let vs = ap (λ (t : Told). t.values) e in
    let a : sense_number p.sense ≡ sense_number q.sense = cc in
    let b : p.resources ≡ q.resources = cc in
    let c : p.bands ≡ q.bands = cc in
    let d : p.tasks ≡ q.tasks = cc in
    ap Ok (rw (sense_once p.sense q.sense a, b, c, d))
read_told_once (Ok p) (Err g) e = told_refused g (sense_number p.sense ∷ p.resources ∷ p.bands ∷ p.tasks ∷ []) (sym e)
read_told_once (Err f) (Ok p) e = told_refused f (sense_number p.sense ∷ p.resources ∷ p.bands ∷ p.tasks ∷ []) e
read_told_once (Err f) (Err g) e = ap Err (told_refusals f g e)

-- ---- 1 to 6 and 13, then 10
pub write_refused : (f : Frame) (ts : List Task) (out : List ℕ) (e : Refusal) → check f ts ≡ Err e → write_call f ts out ≡ record { answer = told (number e) (place e ∷ []); buffer = out }
unfolding write_call
write_refused f ts out e h = rw h

pub write_short : (f : Frame) (ts : List Task) (out : List ℕ) → check f ts ≡ accepted → length out < length (written f ts) → write_call f ts out ≡ record { answer = told 10 (0 ∷ []); buffer = out }
unfolding write_call room_for
write_short f ts out ok l = rw (ok, lt-ltb (length out) (length (written f ts)) l)

pub write_done : (f : Frame) (ts : List Task) (out : List ℕ) → check f ts ≡ accepted → length (written f ts) ≤ length out → write_call f ts out ≡ record { answer = told 0 (length (written f ts) ∷ []); buffer = laid (written f ts) out }
unfolding write_call room_for
write_done f ts out ok l = rw (ok, le-ltb (length out) (length (written f ts)) l)

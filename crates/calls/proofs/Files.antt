-- A call on a plan file: each refusal in its turn; which arrays are enough.
use Rattle.std.specs.Prelude.{Ok, Err}
use mathlib.Core.Path.{◌≡◌, refl, sym, ap, ◌∙◌}
use mathlib.Core.Bool.{Bool, true, false, not}
use mathlib.Core.List.{List}
use Prim.Native.Nat.{ℕ, suc, ◌+◌, ◌-◌, ◌*◌, ◌≤◌, ◌<◌}
use native.Mathlib.Omega.{arith}
use lib.Dec.{eqb, ltb}
use lib.ListN.{length, drop}
use lib.Seq.{drop-drop}
use borrow.Author.Tests.{not-false, ltb-true, ltb-false}
use Rattle.integers.specs.Tests.{and, or, any}
use Rattle.integers.proofs.Tests.{clash, by_cases, or_none}
use Rattle.plan.specs.declared.Call.{Call}
use Rattle.plan.specs.declared.Refusal.{Refusal}
use Rattle.plan.specs.declared.Refusal.TheVariants.{NoSuchResource}
use Rattle.plan.specs.declared.Task.{Task}
use Rattle.plan.specs.Refusals.{Answer, Checked, accepted}
use Rattle.plan.specs.Tasks.{most_bands}
use Rattle.plan.proofs.Sets.{eqb_in, eqb_true}
use Rattle.rules.specs.Frame.{Frame, resource_count, is_held}
use Rattle.rules.specs.Calls.{placed_in, call_of, result_of}
use Rattle.rules.proofs.Checks.{past}
use Rattle.events.specs.Events.{events_a_task}
use Rattle.held.specs.Held.{room_if, some_held}
use Rattle.held.proofs.Room.{room_most}
use Rattle.profile.specs.Lent.{Lent}
use Rattle.format.specs.declared.Header.{Header}
use Rattle.format.specs.declared.Mark.TheVariants.{RS, RH}
use Rattle.format.specs.Format.{marked, due_in, kind_from, size, resources, resource_from, bands_from}
use Rattle.format.specs.Reading.{Read, records_in, frame_in, tasks_in, body_due, read_body, read_after}
use Rattle.format.specs.Writing.{written, room_for}
use Rattle.format.proofs.Files.{read_is, after_is}
use Rattle.runs.proofs.Rooms.{no_bands}
use Rattle.answers.specs.Files.{answer_file, lent_due, plan_call, plan_file, refused_file}
use Rattle.calls.specs.Lists.{banded_in, held_in, fills_lists, asks_more}

-- ---- each refusal in its turn
pub lent_is : (c : Call) (resources file out : ℕ) → lent_due c resources file out ≡ accepted → (placed_in resources c ≡ true) × (room_for file out ≡ accepted)
unfolding lent_due
lent_is c resources file out h =
    let p = past (not (placed_in resources c)) NoSuchResource (room_for file out) h in
    (not-false (placed_in resources c) p.0, p.1)

module _ (c : Call) (f : Frame) (ts : List Task) (out : List ℕ) where
  abbrev due : Checked
  due = lent_due c (resource_count f) (length (written f ts)) (length out)

  pub plan_unlent : (e : Refusal) → due ≡ Err e → plan_file c f ts out ≡ refused_file e out
  unfolding plan_call
  plan_unlent e h = rw h

  pub plan_lent : due ≡ accepted → (a : Answer) (us : List Task) → result_of a ts us ≡ call_of c f ts → plan_file c f ts out ≡ answer_file f out a us
  unfolding plan_call
  plan_lent h a us e = rw (h, sym e) (told a)
    where
      told : (a : Answer) → answer_file f out (result_of a ts us).answer (result_of a ts us).tasks ≡ answer_file f out a us
      told (Ok n) = refl
      told (Err e) = refl

-- ---- no band follows the resources
-- so what is read does not depend on the places for bands
pub unbanded_same : (h : Header) (file : List ℕ) → banded_in h.resources file ≡ false → (room : ℕ) → read_after room h file ≡ read_after most_bands h file
unfolding banded_in read_after read_body body_due
unbanded_same h file m room = rw ((no_bands room file (bands_from h.resources) m).0, (no_bands most_bands file (bands_from h.resources) m).0)

-- nor, where room for the events of the tasks is enough, what a call answers
pub bare_same : (h : Header) (file : List ℕ) → asks_more h file ≡ false → read_after 0 h file ≡ read_after most_bands h file
unfolding asks_more
bare_same h file m =
    unbanded_same h file (or_none (banded_in h.resources file) (and (fills_lists h.tasks) (held_in h.resources file)) m).0 0

-- ---- the resources that were read have the file's kinds
pub read_held : (room : ℕ) (h : Header) (file : List ℕ) {f : Frame} {ts : List Task} → read_after room h file ≡ Read.Plan f ts → some_held f.resources ≡ held_in h.resources file
unfolding held_in read_body frame_in
read_held room h file {f} {ts} e =
    let d = (read_is (body_due room h file) (Read.Plan (frame_in h file) (tasks_in h file)) (after_is room h file e).0).1 in
    let frame : frame_in h file ≡ f = cc d in
    sym (ap (λ (g : Frame). some_held g.resources) frame)

-- tasks that fill their arrays have no held resource, where room for their events is enough
filled_unheld : (h : Header) (file : List ℕ) → asks_more h file ≡ false → fills_lists h.tasks ≡ true → held_in h.resources file ≡ false
unfolding asks_more
filled_unheld h file m f = (rw f at (or_none (banded_in h.resources file) (and (fills_lists h.tasks) (held_in h.resources file)) m).1)

-- arrays for n tasks have room for the span of a held resource, unless the tasks fill them
room_left : (n : ℕ) (h : Header) (file : List ℕ) → fills_lists n ≡ true → h.tasks ≤ n → asks_more h file ≡ false
    → events_a_task * h.tasks + room_if (held_in h.resources file) ≤ events_a_task * n
room_left n h file f l m =
    by_cases (eqb h.tasks n) (λ e. rw (filled_unheld h file m (ap fills_lists (eqb_true h.tasks n e) ∙ f)) (omega arith))
    (λ e. let r = room_most (held_in h.resources file) in let m : h.tasks < n = below h.tasks n l e in omega arith)
  where
    below : (a b : ℕ) → a ≤ b → eqb a b ≡ false → a < b
    below a b l e = by_cases (ltb a b) (ltb-true a b) (λ g. let m = ltb-false a b g in let same : a ≡ b = omega arith in clash (eqb a b) (eqb_in a b same) e)

pub lent_left : (n : ℕ) (h : Header) (file : List ℕ) → fills_lists n ≡ true → h.tasks ≤ n → asks_more h file ≡ false
    → Lent h.tasks (room_if (held_in h.resources file) + 0) (n * events_a_task) (n * events_a_task + 1)
lent_left n h file f l m =
    let room = room_left n h file f l m in
    record { keys_long = omega arith; stretches_long = omega arith }

-- the kind of the resource at the front of the bytes is told by its mark
kind_told : (bs : List ℕ) → is_held (kind_from (due_in RS bs)) ≡ marked RH bs
unfolding due_in
kind_told bs = by_cases (marked RH bs) (λ e. rw e) (λ e. rw e)

-- one record after another: whether one from record k on is held
unfoldable pub held_from : List ℕ → ℕ → ℕ → Bool
held_from file n k = some_held (records_in resources (n - k) (drop (bands_from k) file))

module _ (file : List ℕ) (n : ℕ) where
  pub held_all : held_from file n 0 ≡ held_in n file
  unfolding held_from held_in
  held_all = let e : n - 0 ≡ n = omega arith in rw e

  pub held_here : (k : ℕ) → k < n → held_from file n k ≡ or (marked RH (drop (bands_from k) file)) (held_from file n (k + 1))
  unfolding held_from some_held records_in any resource_from
  held_here k l =
      let e : n - k ≡ suc (n - (k + 1)) = omega arith in
      let g : bands_from k + size RS ≡ bands_from (k + 1) = omega arith in
      let f : drop (size RS) (drop (bands_from k) file) ≡ drop (bands_from (k + 1)) file = drop-drop (size RS) (bands_from k) file ∙ ap (λ (i : ℕ). drop i file) g in
      rw (e, kind_told (drop (bands_from k) file), f)

  pub held_none : (k : ℕ) → n ≤ k → held_from file n k ≡ false
  unfolding held_from some_held records_in any
  held_none k l = let e : n - k ≡ 0 = omega arith in rw e

-- Runs of records, one step at a time: what is still to be stored, or still to be read, applied to the list as it is now, is the answer.
use Rattle.std.specs.Prelude.{Err}
use Rattle.plan.specs.Refusals.{Checked, accepted}
use mathlib.Core.Path.{◌≡◌, sym, ap, ◌∙◌}
use mathlib.Core.List.{List}
use Prim.Native.Nat.{ℕ, suc, ◌+◌, ◌-◌, ◌*◌, ◌≤◌, ◌<◌}
use native.Mathlib.Omega.{arith}
use native.Mathlib.Nat.{suc-mul, mul-le-mul_right}
use native.Mathlib.Numerals.{add-one}
use lib.ListN.{length, get_or, take, drop, set, drop_of_length-le}
use lib.Seq.{drop-cons, drop-drop, sets, length-sets}
use Rattle.plan.specs.declared.Refusal.{Refusal}
use Rattle.rules.specs.Calls.{or_else}
use Rattle.format.specs.Format.{Layout, size, due_in, record_bytes, numbers_in}
use Rattle.format.specs.Writing.{records_bytes, Even}
use Rattle.format.specs.Reading.{due, each_due, records_in, run_due, run_in, ReadRun}
use Rattle.format.proofs.Records.{length_in}
use Rattle.format.proofs.Stores.{sets_append, sets_taken}

one_more : (i m : ℕ) → (i + 1) * m ≡ i * m + m
one_more i m = rw add-one (suc-mul i m)

-- ---- a run half stored: after i elements, at a place, with the buffer as it is now
module _ {A : Type 0} (l : Layout A) (xs : List A) (out : List ℕ) (from : ℕ) where
  pub record Storing (i at : ℕ) (now : List ℕ) : Type 0 where
    pub upto : i ≤ length xs
    pub place : at ≡ from + i * size l.due
    pub room : length now ≡ length out
    pub still : sets now at (records_bytes l (drop i xs)) ≡ sets out from (records_bytes l xs)

module _ {A : Type 0} {l : Layout A} {xs : List A} {out : List ℕ} {from i at : ℕ} {now : List ℕ} (r : Storing l xs out from i at now) where
  pub storing_goes_on : Even l → {later : List ℕ} (x : A) → i < length xs → later ≡ sets now at (record_bytes (l.mark (get_or xs i x)) (l.numbers (get_or xs i x))) → Storing l xs out from (i + 1) (at + size l.due) later
  unfolding records_bytes
  storing_goes_on even x h e =
      let y = get_or xs i x in
      let bytes = record_bytes (l.mark y) (l.numbers y) in
      let step : sets now at (records_bytes l (drop i xs)) ≡ sets (sets now at bytes) (at + size l.due) (records_bytes l (drop (i + 1) xs)) =
      rw (add-one i, drop-cons xs i x h, sets_append now at bytes (records_bytes l (drop (suc i) xs)), even y) in
      record {
        upto = omega arith;
        place = omega (arith, one_more i (size l.due), r.place);
        room = ap length e ∙ length-sets now at bytes ∙ r.room;
        still = rw e (sym step ∙ r.still);
      }

  -- the next element has its place
  pub storing_room : from + length xs * size l.due ≤ length out → i < length xs → at + size l.due ≤ length now
  storing_room h k =
      let s = size l.due in
      let next : (i + 1) * s ≤ length xs * s = mul-le-mul_right s (omega arith) in
      omega (arith, h, next, one_more i s, r.place, r.room)

  pub storing_ends : length xs ≤ i → now ≡ sets out from (records_bytes l xs)
  unfolding records_bytes
  storing_ends h =
      let none : sets now at (records_bytes l (drop i xs)) ≡ now = rw (drop_of_length-le xs h) in
      sym none ∙ r.still

-- ---- a run half read: after i of n records, at a place, with the list as it is now
module _ {A : Type 0} (l : Layout A) (file : List ℕ) (from n : ℕ) (ds : List A) where
  pub record Reading (i at : ℕ) (now : List A) : Type 0 where
    pub upto : i ≤ n
    pub place : at ≡ from + i * size l.due
    pub due : run_due l file at (n - i) ≡ run_due l file from n
    pub still : sets now i (run_in l file at (n - i)) ≡ sets ds 0 (run_in l file from n)

module _ {A : Type 0} {l : Layout A} {file : List ℕ} {from n : ℕ} {ds : List A} {i at : ℕ} {now : List A} (r : Reading l file from n ds i at now) where
  one_left : i < n → n - i ≡ suc (n - (i + 1))
  one_left h = omega arith

  -- the next record decides, and then the others
  next_due : i < n → run_due l file from n ≡ or_else (due (due_in l.due (drop at file)) at (drop at file)) (run_due l file (at + size l.due) (n - (i + 1)))
  unfolding each_due
  next_due h = sym r.due ∙ rw (one_left h, drop-drop (size l.due) at file)

  pub reading_goes_on : {later : List A} → i < n → due (due_in l.due (drop at file)) at (drop at file) ≡ accepted → later ≡ set now i (l.from (due_in l.due (drop at file)) (numbers_in l.due (drop at file))) → Reading l file from n ds (i + 1) (at + size l.due) later
  unfolding records_in
  reading_goes_on h d e =
      let step : sets now i (run_in l file at (n - i)) ≡ sets (set now i (l.from (due_in l.due (drop at file)) (numbers_in l.due (drop at file)))) (i + 1) (run_in l file (at + size l.due) (n - (i + 1))) =
      rw (one_left h, drop-drop (size l.due) at file, add-one i) in
      record {
        upto = omega arith;
        place = omega (arith, one_more i (size l.due), r.place);
        due = sym (next_due h ∙ ap (λ (x : Checked). or_else x (run_due l file (at + size l.due) (n - (i + 1)))) d);
        still = rw e (sym step ∙ r.still);
      }

  pub reading_refused : {f : Refusal} {list : List A} → i < n → due (due_in l.due (drop at file)) at (drop at file) ≡ Err f → ReadRun l file from n (Err f) list
  reading_refused h d =
      record {
        answer = sym (next_due h ∙ ap (λ (x : Checked). or_else x (run_due l file (at + size l.due) (n - (i + 1)))) d);
        held = λ e. cc;
      }

  pub reading_ends : n ≤ i → n ≤ length ds → ReadRun l file from n accepted now
  unfolding each_due records_in
  reading_ends h room =
      let none : n - i ≡ 0 = omega arith in
      let all : now ≡ sets ds 0 (run_in l file from n) = sym (rw none) ∙ r.still in
      record {
        answer = sym (sym r.due ∙ rw none);
        held = λ e. ap (take n) all ∙ sets_taken n (run_in l file from n) ds (length_in l n (drop from file)) room;
      }

-- Laws of a run of bands, which is read by its marks: an accepted run is so many due records, no more than there is room for and than a
-- plan may have; the bands of an accepted plan are such a run; and only how many there are decides whether a list has room.
use Rattle.plan.specs.Refusals.{accepted}
use mathlib.Core.Path.{◌≡◌, refl}
use mathlib.Core.Bool.{false, not}
use mathlib.Core.List.{List, [], ◌∷◌, ◌++◌, append_assoc}
use Prim.Native.Nat.{ℕ, zero, suc, ◌+◌, ◌≤◌, ◌<◌}
use native.Mathlib.Omega.{arith}
use lib.Dec.{ltb}
use lib.ListN.{length, drop, length-append}
use lib.Seq.{drop_at}
use borrow.Author.Tests.{ltb-true, ltb-false, lt-ltb, le-ltb, not-false}
use Rattle.integers.specs.Lists.{Each}
use Rattle.integers.specs.Lists.Each.{nothing, also}
use Rattle.integers.proofs.Tests.{by_cases}
use Rattle.plan.specs.declared.Task.{Task}
use Rattle.plan.specs.declared.Band.{Band}
use Rattle.plan.specs.declared.Refusal.TheVariants.{CutShort, ListShort, BandOutside}
use Rattle.plan.specs.Tasks.{most_bands}
use Rattle.rules.specs.Calls.{or_else, refuse_if}
use Rattle.rules.proofs.Checks.{past, past_all}
use Rattle.format.specs.declared.Mark.TheVariants.{LB}
use Rattle.format.specs.Format.{bands, tasks, size, marked, record_bytes, band_numbers}
use Rattle.format.specs.Writing.{records_bytes, BandSmall}
use Rattle.format.specs.Reading.{each_due, band_run, band_due, each_band_due}
use Rattle.format.proofs.Records.{unrefused, due_in_lem, due_alone, own_mark, length_record, held_length}
use Rattle.format.proofs.Layouts.{bands_lawful}

-- ---- one band
-- a band that is taken: it is whole, one of the most, and has its place in the list
pub record Taken (room k : ℕ) (bs : List ℕ) : Type 0 where
  pub whole : size LB ≤ length bs
  pub few : k < most_bands
  pub held : k < room

pub taken_is : (room k at : ℕ) (bs : List ℕ) → band_due room k at bs ≡ accepted → Taken room k bs
unfolding band_due
taken_is room k at bs h =
    let short = ltb (length bs) (size LB) in
    let more = not (ltb k most_bands) in
    let none = not (ltb k room) in
    let a = past short (CutShort at) (or_else (refuse_if more (BandOutside k)) (refuse_if none ListShort)) h in
    let b = past more (BandOutside k) (refuse_if none ListShort) a.1 in
    record {
      whole = ltb-false (length bs) (size LB) a.0;
      few = ltb-true k most_bands (not-false (ltb k most_bands) b.0);
      held = ltb-true k room (not-false (ltb k room) (unrefused none ListShort b.1));
    }

pub taken_in : (room k at : ℕ) (bs : List ℕ) → Taken room k bs → band_due room k at bs ≡ accepted
unfolding band_due
taken_in room k at bs t = simp (le-ltb (length bs) (size LB) t.whole, lt-ltb k most_bands t.few, lt-ltb k room t.held)

-- ---- an accepted run
-- what it says: so many due records, which with the k before them are no more than a plan may have and than there is room for
pub record RunIs (most room k at : ℕ) (bs : List ℕ) : Type 0 where
  pub due : each_due LB (band_run most bs) at bs ≡ accepted
  pub few : k ≤ most_bands → k + band_run most bs ≤ most_bands
  pub held : k ≤ room → k + band_run most bs ≤ room

pub run_is : (most room k at : ℕ) (bs : List ℕ) → each_band_due most room k at bs ≡ accepted → RunIs most room k at bs
unfolding each_band_due band_run each_due
run_is zero room k at bs h = record { due = refl; few = λ l. omega arith; held = λ l. omega arith }
run_is (suc most) room k at bs h =
    by_cases (marked LB bs)
    (λ m.
    let rest = drop (size LB) bs in
    let a = past_all (band_due room k at bs) (each_band_due most room (suc k) (at + size LB) rest) (rw m at h) in
    let t = taken_is room k at bs a.0 in
    let r = run_is most room (suc k) (at + size LB) rest a.1 in
    let due : each_due LB (band_run (suc most) bs) at bs ≡ accepted = rw (m, due_alone LB bs refl, due_in_lem LB at bs (record { whole = t.whole; begins = m })) r.due in
    let few = r.few t.few in
    let held = r.held t.held in
    record { due = due; few = λ l. rw m (omega (arith, few)); held = λ l. rw m (omega (arith, held)) })
    (λ m. record { due = rw m; few = λ l. rw m (omega arith); held = λ l. rw m (omega arith) })

-- the same bytes are accepted by every list that has room for so many
pub run_room : (most room other k at : ℕ) (bs : List ℕ) → each_band_due most room k at bs ≡ accepted → k + band_run most bs ≤ other → each_band_due most other k at bs ≡ accepted
unfolding each_band_due band_run
run_room zero room other k at bs h l = refl
run_room (suc most) room other k at bs h l =
    by_cases (marked LB bs)
    (λ m.
    let rest = drop (size LB) bs in
    let a = past_all (band_due room k at bs) (each_band_due most room (suc k) (at + size LB) rest) (rw m at h) in
    let t = taken_is room k at bs a.0 in
    let fits : k + suc (band_run most rest) ≤ other = rw m at l in
    rw (m, taken_in other k at bs (record { whole = t.whole; few = t.few; held = omega arith }))
    (run_room most room other (suc k) (at + size LB) rest a.1 (omega arith)))
    (λ m. rw m)

-- ---- bands that are written
-- what follows them does not begin with their mark
pub tasks_unmarked : (n : ℕ) (ts : List Task) → marked LB (records_bytes (tasks n) ts) ≡ false
unfolding records_bytes record_bytes marked
tasks_unmarked n [] = refl
tasks_unmarked n (t ∷ ts) = refl

pub run_back : {bs : List Band} → Each BandSmall bs → (rest : List ℕ) → marked LB rest ≡ false → (most room k at : ℕ) → length bs < most → k + length bs ≤ most_bands → k + length bs ≤ room → (each_band_due most room k at (records_bytes bands bs ++ rest) ≡ accepted) × (band_run most (records_bytes bands bs ++ rest) ≡ length bs)
unfolding records_bytes each_band_due band_run
run_back nothing rest m zero room k at l a b = (refl, refl)
run_back nothing rest m (suc most) room k at l a b = (rw m, rw m)
run_back (also p ps) rest m zero room k at l a b = (refl, absurd (omega arith))
run_back (also {x} {xs} p ps) rest m (suc most) room k at l a b =
    let later = records_bytes bands xs ++ rest in
    let ns = band_numbers x in
    let long = length_record LB ns (held_length (bands_lawful.held x p)) in
    let split : (record_bytes LB ns ++ records_bytes bands xs) ++ rest ≡ record_bytes LB ns ++ later = append_assoc (record_bytes LB ns) (records_bytes bands xs) rest in
    let past : drop (size LB) (record_bytes LB ns ++ later) ≡ later = drop_at (record_bytes LB ns) later (size LB) long in
    let whole : size LB ≤ length (record_bytes LB ns ++ later) = omega (arith, length-append (record_bytes LB ns) later, long) in
    let taken = taken_in room k at (record_bytes LB ns ++ later) (record { whole = whole; few = omega arith; held = omega arith }) in
    let r = run_back ps rest m most room (suc k) (at + size LB) (omega arith) (omega arith) (omega arith) in
    (rw (split, own_mark LB ns later, taken, past) r.0, rw (split, own_mark LB ns later, past, r.1))

-- A run of bands half read: what is still due from here on decides, and the bands still to come, put into the list as it is now, give the list
-- with all of them.
use Rattle.std.specs.Prelude.{Ok, Err}
use Rattle.plan.specs.Refusals.{Checked, accepted}
use mathlib.Core.Path.{◌≡◌, refl, sym, ap, ◌∙◌, subst}
use mathlib.Core.Bool.{true, false}
use mathlib.Core.List.{List}
use Prim.Native.Nat.{ℕ, suc, ◌+◌, ◌-◌, ◌*◌, ◌≤◌, ◌<◌}
use native.Mathlib.Omega.{arith}
use native.Mathlib.Numerals.{add-one}
use lib.Dec.{ltb}
use lib.ListN.{length, take, drop, set}
use lib.Seq.{sets, drop-drop}
use borrow.Author.Tests.{lt-ltb, le-ltb, ltb-false}
use Rattle.integers.proofs.Tests.{by_cases}
use Rattle.plan.specs.declared.Band.{Band}
use Rattle.plan.specs.declared.Refusal.{Refusal}
use Rattle.plan.specs.declared.Refusal.TheVariants.{CutShort, ListShort, BandOutside}
use Rattle.plan.specs.Tasks.{most_bands}
use Rattle.format.specs.declared.Mark.TheVariants.{LB}
use Rattle.format.specs.Format.{bands, mark_size, size, marked, numbers_in, band_from}
use Rattle.format.specs.Reading.{Run, Read, due, records_in, run_in, band_run, band_due, each_band_due, looked_at, bands_due, band_count, run_unless, ReadBands, read_unless, read_through, RunWithin}
use Rattle.format.proofs.Stores.{sets_taken}
use Rattle.format.proofs.Records.{due_is, due_in_lem, length_in}
use Rattle.format.proofs.Bands.{taken_in}

-- ---- one band whose mark stands there
-- not due, it is cut short
short_cut : (at : ℕ) (bs : List ℕ) → marked LB bs ≡ true → ltb (length bs) (size LB) ≡ true → due LB at bs ≡ Err (CutShort at)
unfolding due
short_cut at bs m e = by_cases (ltb (length bs) mark_size) (λ s. rw s) (λ s. rw (s, m, e))

pub short_due : (room k at : ℕ) (bs : List ℕ) {f : Refusal} → marked LB bs ≡ true → due LB at bs ≡ Err f → band_due room k at bs ≡ Err f
unfolding band_due
short_due room k at bs m d =
    by_cases (ltb (length bs) (size LB)) (λ e. rw e (sym (short_cut at bs m e) ∙ d))
    (λ e. let whole : due LB at bs ≡ accepted = due_in_lem LB at bs (record { whole = ltb-false (length bs) (size LB) e; begins = m }) in cc)

-- due, it is whole: a 65th, one without room, or one to be taken
module _ (room k at : ℕ) (bs : List ℕ) (d : due LB at bs ≡ accepted) where
  whole : size LB ≤ length bs
  whole = (due_is LB at bs d).whole

  pub many_due : most_bands ≤ k → band_due room k at bs ≡ Err (BandOutside k)
  unfolding band_due
  many_due h = rw (le-ltb (length bs) (size LB) whole, le-ltb k most_bands h)

  pub full_due : k < most_bands → room ≤ k → band_due room k at bs ≡ Err ListShort
  unfolding band_due
  full_due h n = rw (le-ltb (length bs) (size LB) whole, lt-ltb k most_bands h, le-ltb k room n)

  pub next_due : k < most_bands → k < room → band_due room k at bs ≡ accepted
  next_due h n = taken_in room k at bs (record { whole = whole; few = h; held = n })

-- ---- the run: after k bands, at a place, with the list as it is now
module _ (file : List ℕ) (from : ℕ) (ds : List Band) where
  pub record Going (k at : ℕ) (now : List Band) : Type 0 where
    pub few : k ≤ most_bands
    pub fits : k ≤ length ds
    pub place : at ≡ from + k * size LB
    pub due : each_band_due (looked_at - k) (length ds) k at (drop at file) ≡ bands_due (length ds) file from
    pub count : k + band_run (looked_at - k) (drop at file) ≡ band_count file from
    pub still : sets now k (run_in bands file at (band_run (looked_at - k) (drop at file))) ≡ sets ds 0 (run_in bands file from (band_count file from))

  pub going_starts : Going 0 from ds
  unfolding bands_due band_count
  going_starts = record { few = omega arith; fits = omega arith; place = omega arith; due = refl; count = omega arith; still = refl }

module _ {file : List ℕ} {from : ℕ} {ds : List Band} {k at : ℕ} {now : List Band} (g : Going file from ds k at now) where
  one_left : looked_at - k ≡ suc (looked_at - (k + 1))
  one_left = let h = g.few in omega arith

  -- a band more
  pub going_on : {later : List Band} → marked LB (drop at file) ≡ true → due LB at (drop at file) ≡ accepted → k < most_bands → k < length ds → later ≡ set now k (band_from (numbers_in LB (drop at file))) → Going file from ds (k + 1) (at + size LB) later
  unfolding each_band_due band_run records_in
  going_on m d few fits e =
      let one = band_from (numbers_in LB (drop at file)) in
      let rest = run_in bands file (at + size LB) (band_run (looked_at - (k + 1)) (drop (at + size LB) file)) in
      let step : sets now k (run_in bands file at (band_run (looked_at - k) (drop at file))) ≡ sets (set now k one) (k + 1) rest =
      rw (one_left, m, drop-drop (size LB) at file, add-one k) in
      let n = rw (one_left, m, drop-drop (size LB) at file) at g.count in
      record {
        few = omega arith;
        fits = omega arith;
        place = omega (arith, g.place);
        due = rw (one_left, m, next_due (length ds) k at (drop at file) d few fits, drop-drop (size LB) at file, ← (add-one k)) at g.due;
        count = omega (arith, n);
        still = rw e (sym step ∙ g.still);
      }

  pub going_refused : {f : Refusal} {list : List Band} → marked LB (drop at file) ≡ true → band_due (length ds) k at (drop at file) ≡ Err f → ReadBands file from (length ds) (Err f) list
  unfolding each_band_due
  going_refused {f} m d =
      let all : bands_due (length ds) file from ≡ Err f = sym (rw (one_left, m, d) at g.due) in
      record { answer = rw all; held = λ e. let no = sym e ∙ all in cc }

  -- no mark stands here
  pub going_ends : marked LB (drop at file) ≡ false → ReadBands file from (length ds) (Ok k) now
  unfolding each_band_due band_run records_in
  going_ends m =
      let all : bands_due (length ds) file from ≡ accepted = sym (rw (one_left, m) at g.due) in
      let n = rw (one_left, m) at g.count in
      let count : k ≡ band_count file from = omega (arith, n) in
      let same : now ≡ sets ds 0 (run_in bands file from (band_count file from)) = rw (one_left, m) at g.still in
      let fits = g.fits in
      record {
        answer = rw all (ap Ok count);
        held = λ e. ap (take (band_count file from)) same
            ∙ sets_taken (band_count file from) (run_in bands file from (band_count file from)) ds (length_in bands (band_count file from) (drop from file)) (omega (arith, count));
      }

-- ---- what the answer of a run says
through_is : (c : Checked) (n : ℕ) {k : ℕ} → run_unless c n ≡ Ok k → (c ≡ accepted) × (n ≡ k)
through_is (Ok _) n e = (refl, cc)
through_is (Err f) n e = (cc, cc)

refused_is : (c : Checked) (n : ℕ) {f : Refusal} → run_unless c n ≡ Err f → c ≡ Err f
refused_is (Ok _) n e = cc
refused_is (Err g) n {f} e = let same : g ≡ f = cc in ap Err same

module _ {file : List ℕ} {from at room : ℕ} {r : Run} {list : List Band} (e : from ≡ at) (b : ReadBands file from room r list) where
  there : ReadBands file at room r list
  there = subst (λ (x : ℕ). ReadBands file x room r list) e b

  pub bands_through : {k : ℕ} → r ≡ Ok k → (bands_due room file at ≡ accepted) × (band_count file at ≡ k)
  bands_through g = through_is (bands_due room file at) (band_count file at) (sym there.answer ∙ g)

  pub bands_held : {k : ℕ} → r ≡ Ok k → take (band_count file at) list ≡ run_in bands file at (band_count file at)
  bands_held g = there.held (bands_through g).0

  pub bands_refused : {f : Refusal} → r ≡ Err f → bands_due room file at ≡ Err f
  bands_refused g = refused_is (bands_due room file at) (band_count file at) (sym there.answer ∙ g)

pub run_within : {r : Run} {k room : ℕ} → r ≡ Ok k → RunWithin r room → k ≤ room
run_within {room} g w = subst (λ (x : Run). RunWithin x room) g w

-- what was read behind a run, and the checks that decide it
pub read_through_lem : {r : Run} {k : ℕ} (x : ℕ → Read) {y : Read} → r ≡ Ok k → read_through r x ≡ y → x k ≡ y
read_through_lem x {y} g e = subst (λ (z : Run). read_through z x ≡ y) g e

module _ {r : Run} (c : Checked) (k : ℕ) (e : r ≡ run_unless c k) where
  pub unless_through : (x : ℕ → Read) → read_through r x ≡ read_unless c (x k)
  unless_through x = rw e (either c)
    where
      either : (c : Checked) → read_through (run_unless c k) x ≡ read_unless c (x k)
      either (Ok _) = refl
      either (Err f) = refl

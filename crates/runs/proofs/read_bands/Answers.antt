-- What is still due from the reader on decides; the bands still to come, put into the list as it is now, give the list with all of them.
use Rattle.std.specs.Prelude.{Ok, Err}
use native.Mathlib.Omega.{arith}
use mathlib.Core.Path.{◌≡◌, refl, sym, ap, ◌∙◌}
use mathlib.Core.List.{List}
use Prim.Native.Nat.{ℕ}
use lib.ListN.{drop, set}
use Rattle.std.proofs.lemmas.Result.{err_from_is_err_and}
use Rattle.plan.specs.declared.Band.{Band}
use Rattle.plan.specs.declared.Refusal.{Refusal}
use Rattle.plan.specs.Refusals.{accepted}
use Rattle.format.specs.declared.Mark.TheVariants.{LB}
use Rattle.format.specs.Format.{bands, numbers_in, band_from}
use Rattle.format.specs.Reading.{due}
use Rattle.format.proofs.Records.{due_alone}
use Rattle.reader.specs.Taking.{taken_at}
use Rattle.reader.proofs.Handing.{one_taken, none_taken}
use Rattle.runs.proofs.Going.{short_due, many_due, full_due, going_starts, going_on, going_refused, going_ends}
use Rattle.runs.proofs.read_bands.Goals as goal

-- what was taken at a place: a band, or no band
module _ (file : List ℕ) (at : ℕ) where
  taken : {b : Band} → taken_at bands file at ≡ Ok b → (due LB at (drop at file) ≡ accepted) × (b ≡ band_from (numbers_in LB (drop at file)))
  taken e = let w = one_taken bands file at e in (rw (due_alone LB (drop at file) refl) at w.0, w.1)

  not_taken : {f : Refusal} → taken_at bands file at ≡ Err f → due LB at (drop at file) ≡ Err f
  not_taken e = rw (due_alone LB (drop at file) refl) at (none_taken bands file at e)

pub loop-reader-init : goal.loop-reader-init
loop-reader-init c = let a = c.args in (refl, going_starts a.reader.now.file.now a.reader.now.at a.bands.now)

pub returns-in_err-band-clause-read_bands : goal.returns-in_err-band-clause-read_bands
returns-in_err-band-clause-read_bands c =
    let l = c.loop-reader in
    let at = l.reader.at in
    let m = rw l.invariant.0 at (sym c.stands_before.ensures ∙ c.loop-reader-test.true) in
    let d = rw l.invariant.0 at (not_taken l.reader.file.now at (sym c.take.ensures.taken ∙ c.in_err-band.was)) in
    let p = err_from_is_err_and c.from_residual.result c.from_residual.ensures.1 in
    rw (p.1, p.2) (going_refused l.invariant.1 m (short_due _ l.k at _ m d))

pub returns-in_err-band-clause-same_file : goal.returns-in_err-band-clause-same_file
returns-in_err-band-clause-same_file c = c.take.ensures.same_file ∙ c.loop-reader.invariant.0

pub returns-then-k-ge-MOST_BANDS-clause-read_bands : goal.returns-then-k-ge-MOST_BANDS-clause-read_bands
returns-then-k-ge-MOST_BANDS-clause-read_bands c =
    let l = c.loop-reader in
    let at = l.reader.at in
    let m = rw l.invariant.0 at (sym c.stands_before.ensures ∙ c.loop-reader-test.true) in
    let t = rw l.invariant.0 at (taken l.reader.file.now at (sym c.take.ensures.taken ∙ c.in_ok-band.was)) in
    going_refused l.invariant.1 m (many_due _ l.k at _ t.0 (omega arith))

pub returns-then-k-ge-MOST_BANDS-clause-same_file : goal.returns-then-k-ge-MOST_BANDS-clause-same_file
returns-then-k-ge-MOST_BANDS-clause-same_file c = c.take.ensures.same_file ∙ c.loop-reader.invariant.0

pub returns-then-bands-k-clause-read_bands : goal.returns-then-bands-k-clause-read_bands
returns-then-bands-k-clause-read_bands c =
    let l = c.loop-reader in
    let at = l.reader.at in
    let m = rw l.invariant.0 at (sym c.stands_before.ensures ∙ c.loop-reader-test.true) in
    let t = rw l.invariant.0 at (taken l.reader.file.now at (sym c.take.ensures.taken ∙ c.in_ok-band.was)) in
    going_refused l.invariant.1 m (full_due _ l.k at _ t.0 (omega arith) (omega arith))

pub returns-then-bands-k-clause-same_file : goal.returns-then-bands-k-clause-same_file
returns-then-bands-k-clause-same_file c = c.take.ensures.same_file ∙ c.loop-reader.invariant.0

pub loop-reader-preserved : goal.loop-reader-preserved
loop-reader-preserved c =
    let l = c.loop-reader in
    let at = l.reader.at in
    let m = rw l.invariant.0 at (sym c.stands_before.ensures ∙ c.loop-reader-test.true) in
    let t = rw l.invariant.0 at (taken l.reader.file.now at (sym c.take.ensures.taken ∙ c.in_ok-band.was)) in (
      c.take.ensures.same_file ∙ l.invariant.0,
      rw c.in_ok-band.ensures.past (going_on l.invariant.1 m t.0 (omega arith) (omega arith) (ap (set l.bands l.k) t.1)),
    )

pub returns-clause-read_bands : goal.returns-clause-read_bands
returns-clause-read_bands c =
    let l = c.loop-reader in
    going_ends l.invariant.1 (rw l.invariant.0 at (sym c.stands_before.ensures ∙ c.loop-reader-test.false))

pub returns-clause-run_within : goal.returns-clause-run_within
returns-clause-run_within c = let fits = c.loop-reader.invariant.1.fits in omega arith

pub returns-clause-past : goal.returns-clause-past
returns-clause-past c = c.loop-reader.invariant.1.place

pub returns-clause-same_file : goal.returns-clause-same_file
returns-clause-same_file c = c.loop-reader.invariant.0

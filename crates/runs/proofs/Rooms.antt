-- What the room of a lent band list, and a file without bands, say of the run.
use Rattle.std.specs.Prelude.{Ok, Err}
use Rattle.plan.specs.Refusals.{accepted}
use mathlib.Core.Path.{◌≡◌, refl}
use mathlib.Core.Bool.{false}
use mathlib.Core.List.{List, ◌++◌}
use Prim.Native.Nat.{ℕ, zero, suc, ◌+◌, ◌≤◌, min}
use native.Mathlib.Omega.{arith}
use lib.Dec.{ltb}
use lib.ListN.{length, drop}
use lib.Seq.{take-append-le}
use borrow.Author.Tests.{lt-ltb, ltb-true, ltb-false}
use Rattle.integers.proofs.Tests.{by_cases}
use Rattle.plan.specs.declared.Resource.{Resource}
use Rattle.plan.specs.declared.Band.{Band}
use Rattle.plan.specs.declared.Task.{Task}
use Rattle.plan.specs.Tasks.{most_bands}
use Rattle.format.specs.declared.Mark.TheVariants.{LB}
use Rattle.format.specs.declared.Header.{Header}
use Rattle.format.specs.Format.{size, marked, bands_from}
use Rattle.format.specs.Reading.{Run, band_run, band_due, each_band_due, looked_at, bands_due, band_count, body_due, read_body, read_after, header_plan, read_through, RunWithin}

-- no mark stands at the place: no band, for a list of any room
pub no_bands : (room : ℕ) (file : List ℕ) (at : ℕ) → marked LB (drop at file) ≡ false → (bands_due room file at ≡ accepted) × (band_count file at ≡ 0)
unfolding bands_due band_count each_band_due band_run
no_bands room file at m = (rw m, rw m)

-- a list has room for every band that is not a 65th: more room says nothing
module _ (room : ℕ) (h : most_bands ≤ room) where
  band_roomy : (k at : ℕ) (bs : List ℕ) → band_due room k at bs ≡ band_due most_bands k at bs
  unfolding band_due
  band_roomy k at bs =
      by_cases (ltb k most_bands)
      (λ e. let l = ltb-true k most_bands e in rw (e, lt-ltb k room (omega arith)))
      (λ e. rw e)

  each_roomy : (most k at : ℕ) (bs : List ℕ) → each_band_due most room k at bs ≡ each_band_due most most_bands k at bs
  unfolding each_band_due
  each_roomy zero k at bs = refl
  each_roomy (suc most) k at bs =
      rw (band_roomy k at bs, each_roomy most (suc k) (at + size LB) (drop (size LB) bs))

  bands_roomy : (file : List ℕ) (at : ℕ) → bands_due room file at ≡ bands_due most_bands file at
  unfolding bands_due
  bands_roomy file at = each_roomy looked_at 0 at (drop at file)

-- so the list that we read into needs no more places than that
pub after_roomy : (room : ℕ) (h : Header) (file : List ℕ) → read_after (min room most_bands) h file ≡ read_after room h file
unfolding read_after read_body body_due
after_roomy room h file =
    by_cases (ltb room most_bands)
    (λ e. let l = ltb-true room most_bands e in let own : min room most_bands ≡ room = omega arith in rw own)
    (λ e.
    let l = ltb-false room most_bands e in
    let most : min room most_bands ≡ most_bands = omega arith in
    rw (most, bands_roomy room l file (bands_from h.resources)))

-- ---- bands read into the first places of a longer list stand in the list
pub part_through : (r : Run) (h : Header) (q : List Resource) (b d : List Band) (s : List Task) → RunWithin r (length b) → read_through r (header_plan h q (b ++ d) s) ≡ read_through r (header_plan h q b s)
part_through (Ok k) h q b d s w = rw (take-append-le k b d w)
part_through (Err f) h q b d s w = refl

-- A day outside the listed ones, from the least origin low to the greatest end high, changes nothing: no rule speaks of it.
use mathlib.Core.Path.{◌≡◌, refl}
use Prim.Native.Nat.{ℕ}
use mathlib.Core.List.{List}
use mathlib.Core.Bool.{false, not}
use lib.IntN.{ℤ}
use lib.Signed.{lt_z}
use Rattle.integers.specs.Whole.{eq_z}
use Rattle.integers.specs.Tests.{any}
use Rattle.integers.proofs.Z.{eq_z_in}
use Rattle.integers.proofs.Tests.{clash, false_in, and_first, not_out, not_any}
use Rattle.plan.specs.declared.Task.{Task}
use Rattle.rules.specs.Frame.{Floor}
use Rattle.rules.specs.Step.{possible, sure, total, counts, shortfall, needed, barred, listed_days}
use Rattle.integers.specs.Lists.{In}
use Rattle.rules.proofs.Days.{listed}
use Rattle.rules.proofs.Counted.{counted_listed}
use Rattle.rules.proofs.Live.{Live, Lives}
use Rattle.rules.proofs.TaskDay.{possible_is, no_sure, no_need, no_bar}

-- ---- a day that is not listed
module _ (r : ℕ) (limit : Floor) (ts : List Task) (i : ℤ) (out : any (eq_z i) (listed_days ts) ≡ false) where
  pub possible_unlisted : {t : Task} → In t ts → possible r i t ≡ false
  possible_unlisted {t} k =
      false_in (possible r i t) λ h.
      let p = possible_is r i t h in
      let q = listed r (λ j. not (eq_z i j)) t ts k (not_any (eq_z i) (listed_days ts) out) i p.late p.early in
      clash (eq_z i i) (eq_z_in i i refl) (not_out (eq_z i i) q)

  pub sure_unlisted : {t : Task} → In t ts → Live t → sure r i t ≡ false
  sure_unlisted {t} k l = no_sure r i t l (possible_unlisted k)

  pub needed_unlisted : {t : Task} → In t ts → needed r limit ts t i ≡ false
  needed_unlisted {t} k = no_need r i t limit ts (possible_unlisted k)

  pub barred_unlisted : {t : Task} → In t ts → barred r limit ts t i ≡ false
  barred_unlisted {t} k = no_bar r i t limit ts (possible_unlisted k)

  pub counts_unlisted : Lives ts → counts r limit ts i ≡ false
  counts_unlisted l =
      false_in (counts r limit ts i) λ h.
      clash (eq_z i i) (eq_z_in i i refl)
      (not_out (eq_z i i) (counted_listed r limit ts i (λ j. not (eq_z i j)) l (not_any (eq_z i) (listed_days ts) out) h))

  pub shortfall_unlisted : Lives ts → shortfall r limit ts i ≡ false
  unfolding shortfall
  shortfall_unlisted l = rw (counts_unlisted l)

-- no shortfall on the listed days is none on any day
pub no_shortfall_ever : (r : ℕ) (limit : Floor) (ts : List Task) → Lives ts → any (shortfall r limit ts) (listed_days ts) ≡ false → (i : ℤ) → shortfall r limit ts i ≡ false
unfolding shortfall
no_shortfall_ever r limit ts l h i =
    false_in (shortfall r limit ts i) λ s.
    let c = and_first (counts r limit ts i) (lt_z (total r ts i) (limit.on i)) s in
    let n = counted_listed r limit ts i (λ j. not (shortfall r limit ts j)) l (not_any (shortfall r limit ts) (listed_days ts) h) c in
    clash (shortfall r limit ts i) s (not_out (shortfall r limit ts i) n)

-- What the entry checks 5 and 6 leave of a task, as orders, both ways.
use mathlib.Core.Path.{◌≡◌}
use mathlib.Core.Bool.{true, false, not}
use Prim.Native.Nat.{ℕ, ◌^◌, ◌≤◌}
use native.Mathlib.Omega.{arith}
use native.Mathlib.Nat.{pow-le-pow_right}
use lib.Dec.{eqb, ltb}
use borrow.Author.Tests.{ltb-true, lt-ltb, eqb-false, ne_eqb}
use Rattle.integers.specs.Hull.{fits}
use Rattle.integers.proofs.Tests.{four_is, and_first, and_second, not_out}
use Rattle.integers.proofs.Hull.{fits_is, fits_in}
use Rattle.plan.specs.declared.Task.{Task}
use Rattle.plan.specs.Days.{days_of, day_ends, duration_ends}
use Rattle.plan.specs.Powers.{powers_of, power_ends}
use Rattle.plan.specs.Tasks.{Bounded, TaskFits}
use Rattle.rules.specs.Calls.{ranges_fit, set_fits}

pub bounded_is : (t : Task) → ranges_fit t ≡ true → Bounded t
unfolding ranges_fit
bounded_is t h =
    let o = days_of t.origin in
    let d = days_of t.duration in
    let e = days_of t.end in
    let p = powers_of t.height in
    let k = four_is (fits day_ends o) (fits duration_ends d) (fits day_ends e) (fits power_ends p) h in
    record {
      origin = fits_is day_ends o k.first;
      duration = fits_is duration_ends d k.second;
      end = fits_is day_ends e k.third;
      height = fits_is power_ends p k.fourth;
    }

pub bounded_in : (t : Task) → Bounded t → ranges_fit t ≡ true
unfolding ranges_fit
bounded_in t b =
    rw (
      fits_in day_ends (days_of t.origin) b.origin,
      fits_in duration_ends (days_of t.duration) b.duration,
      fits_in day_ends (days_of t.end) b.end,
      fits_in power_ends (powers_of t.height) b.height,
    )

pub task_fits_is : (n : ℕ) (t : Task) → ranges_fit t ≡ true → set_fits n t ≡ true → TaskFits n t
unfolding set_fits
task_fits_is n t h k =
    let e : eqb t.set 0 ≡ false = not_out (eqb t.set 0) (and_first (not (eqb t.set 0)) (ltb t.set (2 ^ n)) k) in
    let l : ltb t.set (2 ^ n) ≡ true = and_second (not (eqb t.set 0)) (ltb t.set (2 ^ n)) k in
    record { ranges = bounded_is t h; some = omega (arith, eqb-false t.set 0 e); places = ltb-true t.set (2 ^ n) l }

pub set_fits_in : (n : ℕ) (t : Task) → TaskFits n t → set_fits n t ≡ true
unfolding set_fits
set_fits_in n t h = let some = h.some in rw (ne_eqb t.set 0 (omega arith), lt-ltb t.set (2 ^ n) h.places)

pub fits_wide : (n m : ℕ) → n ≤ m → (t : Task) → TaskFits n t → TaskFits m t
fits_wide n m h t k =
    let p = k.places in
    let q = pow-le-pow_right {n = 2} (omega arith) {i = n} {j = m} h in
    record { ranges = k.ranges; some = k.some; places = omega arith }

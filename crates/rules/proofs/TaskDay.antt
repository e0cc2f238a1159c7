-- A task on a day of one resource: what possible, running and sure say, fact by fact, and its hope; every rule of the resource speaks only
-- of days on which the task is possible there.
use mathlib.Core.Path.{◌≡◌}
use Prim.Native.Nat.{ℕ}
use mathlib.Core.List.{List}
use mathlib.Core.Bool.{true, false}
use lib.IntN.{ℤ, pos}
use lib.Signed.{le_z, lt_z, ◌≤ℤ◌, ◌<ℤ◌}
use Rattle.integers.specs.Tests.{and}
use Rattle.integers.proofs.Z.{z, le_z_in, lt_z_in}
use Rattle.integers.proofs.Tests.{clash, by_cases, false_in, and_first, and_second, and_in, and_off}
use Rattle.plan.specs.declared.Task.{Task}
use Rattle.plan.specs.Sets.{has, only}
use Rattle.plan.proofs.Sets.{only_has}
use Rattle.rules.specs.Frame.{Floor}
use Rattle.rules.specs.Step.{possible, running, sure, hope, needed, barred, shut}
use Rattle.rules.proofs.Live.{Live}

module _ (r : ℕ) (i : ℤ) (t : Task) where
  -- ---- possible
  pub record Possible : Type 0 where
    pub among : has t.set r ≡ true
    pub late : t.origin.low.0 ≤ℤ i
    pub early : i <ℤ t.end.high.0

  pub possible_is : possible r i t ≡ true → Possible
  unfolding possible
  possible_is h =
      let a = le_z t.origin.low.0 i in
      let b = lt_z i t.end.high.0 in
      let k = and_second (has t.set r) (and a b) h in
      let l : a ≡ true = and_first a b k in
      let m : b ≡ true = and_second a b k in
      record { among = and_first (has t.set r) (and a b) h; late = omega z; early = omega z }

  pub possible_in : has t.set r ≡ true → t.origin.low.0 ≤ℤ i → i <ℤ t.end.high.0 → possible r i t ≡ true
  unfolding possible
  possible_in h k l = rw (h, le_z_in t.origin.low.0 i k, lt_z_in i t.end.high.0 l)

  -- ---- running
  pub record Running : Type 0 where
    pub late : t.origin.high.0 ≤ℤ i
    pub early : i <ℤ t.end.low.0

  pub running_is : running r i t ≡ true → Running
  unfolding running
  running_is h =
      let a = le_z t.origin.high.0 i in
      let b = lt_z i t.end.low.0 in
      let l : a ≡ true = and_first a b h in
      let m : b ≡ true = and_second a b h in
      record { late = omega z; early = omega z }

  pub running_in : t.origin.high.0 ≤ℤ i → i <ℤ t.end.low.0 → running r i t ≡ true
  unfolding running
  running_in h k = and_in (le_z t.origin.high.0 i) (lt_z i t.end.low.0) (le_z_in t.origin.high.0 i h) (lt_z_in i t.end.low.0 k)

  -- a running day is a possible one
  pub running_possible : Live t → has t.set r ≡ true → running r i t ≡ true → possible r i t ≡ true
  running_possible l h k = let g = running_is k in possible_in h (omega (z, l.origin)) (omega (z, l.end))

  -- ---- sure
  pub sure_only : sure r i t ≡ true → only t.set r ≡ true
  unfolding sure
  sure_only h = and_first (only t.set r) (running r i t) h

  pub sure_running : sure r i t ≡ true → running r i t ≡ true
  unfolding sure
  sure_running h = and_second (only t.set r) (running r i t) h

  pub sure_in : only t.set r ≡ true → running r i t ≡ true → sure r i t ≡ true
  unfolding sure
  sure_in h k = and_in (only t.set r) (running r i t) h k

  pub sure_possible : Live t → sure r i t ≡ true → possible r i t ≡ true
  sure_possible l h = running_possible l (only_has t.set r (sure_only h)) (sure_running h)

  pub no_sure : Live t → possible r i t ≡ false → sure r i t ≡ false
  no_sure l e = false_in (sure r i t) (λ h. clash (possible r i t) (sure_possible l h) e)

  -- ---- its hope
  pub hope_high : lt_z (pos 0) t.height.high.0 ≡ true → possible r i t ≡ true → hope r i t ≡ t.height.high.0
  unfolding hope
  hope_high h k = rw (h, k)

  pub hope_none : lt_z (pos 0) t.height.high.0 ≡ false → sure r i t ≡ false → hope r i t ≡ pos 0
  unfolding hope
  hope_none h k = rw (h, k)

  pub hope_sure : Live t → sure r i t ≡ true → hope r i t ≡ t.height.high.0
  unfolding hope
  hope_sure l k = by_cases (lt_z (pos 0) t.height.high.0) (λ h. hope_high h (sure_possible l k)) (λ h. rw (h, k))

  -- ---- a day that is not possible
  module _ (limit : Floor) (ts : List Task) where
    pub no_need : possible r i t ≡ false → needed r limit ts t i ≡ false
    unfolding needed
    no_need e = simp (e, and_off)

    pub no_bar : possible r i t ≡ false → barred r limit ts t i ≡ false
    unfolding barred
    no_bar e = rw e

    pub no_shut : possible r i t ≡ false → shut r limit ts t i ≡ false
    unfolding shut
    no_shut e = simp (no_bar e, and_off)

    pub needed_possible : needed r limit ts t i ≡ true → possible r i t ≡ true
    needed_possible h = by_cases (possible r i t) (λ e. e) (λ e. clash (needed r limit ts t i) h (no_need e))

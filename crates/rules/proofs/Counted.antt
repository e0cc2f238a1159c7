-- The days that count, plain or held: between a task only on r that has begun by then wherever it starts, and one that has not ended; on a plain
-- resource the two are one.
use mathlib.Core.Path.{◌≡◌}
use Prim.Native.Nat.{ℕ}
use mathlib.Core.List.{List}
use mathlib.Core.Bool.{Bool, true, false}
use lib.IntN.{ℤ}
use lib.Signed.{le_z, lt_z, ◌≤ℤ◌, ◌<ℤ◌}
use Rattle.integers.specs.Lists.{In}
use Rattle.integers.specs.Tests.{and, any, all}
use Rattle.integers.proofs.Z.{z, le_z_in, lt_z_in}
use Rattle.integers.proofs.Tests.{if-case, false_in, clash, and_first, and_second, and_in}
use Rattle.integers.proofs.Lists.{any_in, in_any, each_in}
use Rattle.plan.specs.declared.Task.{Task}
use Rattle.plan.specs.Sets.{only}
use Rattle.rules.specs.Frame.{Floor}
use Rattle.rules.specs.Step.{sure, begun, unended, counts, listed_days}
use Rattle.rules.proofs.Days.{between}
use Rattle.rules.proofs.Live.{Lives}
use Rattle.rules.proofs.TaskDay.{sure_only, sure_running, running_is}

module _ (r : ℕ) (i : ℤ) (t : Task) where
  pub begun_in : only t.set r ≡ true → t.origin.high.0 ≤ℤ i → begun r i t ≡ true
  unfolding begun
  begun_in o h = and_in (only t.set r) (le_z t.origin.high.0 i) o (le_z_in t.origin.high.0 i h)

  pub begun_only : begun r i t ≡ true → only t.set r ≡ true
  unfolding begun
  begun_only h = and_first (only t.set r) (le_z t.origin.high.0 i) h

  pub begun_by_lem : begun r i t ≡ true → t.origin.high.0 ≤ℤ i
  unfolding begun
  begun_by_lem h = let e : le_z t.origin.high.0 i ≡ true = and_second (only t.set r) (le_z t.origin.high.0 i) h in omega z

  pub unended_in : only t.set r ≡ true → i <ℤ t.end.low.0 → unended r i t ≡ true
  unfolding unended
  unended_in o h = and_in (only t.set r) (lt_z i t.end.low.0) o (lt_z_in i t.end.low.0 h)

  pub unended_only : unended r i t ≡ true → only t.set r ≡ true
  unfolding unended
  unended_only h = and_first (only t.set r) (lt_z i t.end.low.0) h

  pub ends_after_lem : unended r i t ≡ true → i <ℤ t.end.low.0
  unfolding unended
  ends_after_lem h = let e : lt_z i t.end.low.0 ≡ true = and_second (only t.set r) (lt_z i t.end.low.0) h in omega z

  -- a task that may stand elsewhere holds no day
  module _ (shared : only t.set r ≡ false) where
    pub unsure : sure r i t ≡ false
    unfolding sure
    unsure = rw shared

    pub unbegun : begun r i t ≡ false
    unfolding begun
    unbegun = rw shared

    pub no_end : unended r i t ≡ false
    unfolding unended
    no_end = rw shared

-- the two tasks between which a day counts, which may be one
pub record Counted (r : ℕ) (ts : List Task) (i : ℤ) : Type 0 where
  pub first : Task
  pub last : Task
  pub first_in : In first ts
  pub last_in : In last ts
  pub has_begun : begun r i first ≡ true
  pub goes_on_lem : unended r i last ≡ true

module _ (r : ℕ) (limit : Floor) (ts : List Task) (i : ℤ) where
  pub counted : counts r limit ts i ≡ true → Counted r ts i
  unfolding counts
  counted =
      if-case (λ b. b ≡ true → Counted r ts i) limit.held (and (any (begun r i) ts) (any (unended r i) ts)) (any (sure r i) ts)
      (λ e h.
      let s = any_in (begun r i) ts (and_first (any (begun r i) ts) (any (unended r i) ts) h) in
      let t = any_in (unended r i) ts (and_second (any (begun r i) ts) (any (unended r i) ts) h) in
      record { first = s.0; last = t.0; first_in = s.1; last_in = t.1; has_begun = s.2; goes_on_lem = t.2 })
      (λ e h.
      let s = any_in (sure r i) ts h in
      let t = s.0 in
      let o = sure_only r i t s.2 in
      let w = running_is r i t (sure_running r i t s.2) in
      record { first = t; last = t; first_in = s.1; last_in = s.1; has_begun = begun_in r i t o w.late; goes_on_lem = unended_in r i t o w.early })

  -- a task that is sure makes the day count
  pub sure_counts : {t : Task} → In t ts → sure r i t ≡ true → counts r limit ts i ≡ true
  unfolding counts
  sure_counts {t} k s =
      let o = sure_only r i t s in
      let w = running_is r i t (sure_running r i t s) in
      if-case (λ b. b ≡ true) limit.held (and (any (begun r i) ts) (any (unended r i) ts)) (any (sure r i) ts)
      (λ e.
      and_in (any (begun r i) ts) (any (unended r i) ts) (in_any (begun r i) k (begun_in r i t o w.late))
      (in_any (unended r i) k (unended_in r i t o w.early)))
      (λ e. in_any (sure r i) k s)

  -- what holds on the listed days holds on a day that counts
  pub counted_listed : (q : ℤ → Bool) → Lives ts → all q (listed_days ts) ≡ true → counts r limit ts i ≡ true → q i ≡ true
  counted_listed q l h c =
      let d = counted c in
      let s = d.first in
      let t = d.last in
      let a = begun_by_lem r i s d.has_begun in
      let b = ends_after_lem r i t d.goes_on_lem in
      let o = (each_in l d.first_in).origin in
      let e = (each_in l d.last_in).end in
      between r q s t ts d.first_in d.last_in h i (omega z) (omega z)

  -- where no task is only on r, none counts
  pub none_counts : ((t : Task) → In t ts → only t.set r ≡ false) → counts r limit ts i ≡ false
  none_counts f =
      false_in (counts r limit ts i) λ h.
      let d = counted h in
      clash (only d.first.set r) (begun_only r i d.first d.has_begun) (f d.first d.first_in)

-- two lists in which as many days count: each of the three tests is passed in the one where it is in the other
pub counts_same : (r : ℕ) (limit : Floor) (ts us : List Task) (i : ℤ)
    → any (sure r i) ts ≡ any (sure r i) us → any (begun r i) ts ≡ any (begun r i) us → any (unended r i) ts ≡ any (unended r i) us
    → counts r limit ts i ≡ counts r limit us i
unfolding counts
counts_same r limit ts us i a b c = rw (a, b, c)

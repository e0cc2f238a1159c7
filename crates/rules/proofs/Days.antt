-- The listed days are all that count: on any other day no task is possible, so listing only those is no choice of ours.
use mathlib.Core.Path.{◌≡◌, ◌∙◌}
use Prim.Native.Nat.{ℕ}
use mathlib.Core.List.{List, [], ◌∷◌}
use mathlib.Core.Bool.{Bool, true, false}
use lib.IntN.{ℤ}
use lib.Signed.{le_z, lt_z, ◌≤ℤ◌, ◌<ℤ◌}
use Rattle.integers.specs.Least.{least_of, greatest_of}
use Rattle.integers.specs.Tests.{all}
use Rattle.integers.specs.Lists.{In}
use Rattle.integers.specs.Lists.In.{head, tail}
use Rattle.integers.specs.Hull.{range}
use Rattle.integers.proofs.Z.{z, le_z_in, lt_z_in}
use Rattle.integers.proofs.Tests.{by_cases, or_first, or_second}
use Rattle.integers.proofs.Lists.{in_any}
use Rattle.integers.proofs.Least.{least_at, greatest_at}
use Rattle.integers.proofs.Hull.{values_out}
use Rattle.plan.specs.declared.Task.{Task}
use Rattle.rules.specs.Step.{possible, first_day, last_end, listed_days}
use Rattle.rules.proofs.TaskDay.{possible_is}

-- the first listed day is not after that of any task, and the last not before its end
from_least : (i : ℤ) (s u : Task) (ts : List Task) → In s (u ∷ ts) → first_day s ≤ℤ i → le_z (least_of first_day (first_day u) ts) i ≡ true
from_least i s u ts head h = least_at first_day i (first_day u) ts ∙ or_first (le_z (first_day s) i) _ (le_z_in (first_day s) i h)
from_least i s u ts (tail k) h =
    least_at first_day i (first_day u) ts ∙ or_second (le_z (first_day u) i) _ (in_any (λ t. le_z (first_day t) i) k (le_z_in (first_day s) i h))

to_greatest : (i : ℤ) (t u : Task) (ts : List Task) → In t (u ∷ ts) → i <ℤ last_end t → lt_z i (greatest_of last_end (last_end u) ts) ≡ true
to_greatest i t u ts head h = greatest_at last_end i (last_end u) ts ∙ or_first (lt_z i (last_end t)) _ (lt_z_in i (last_end t) h)
to_greatest i t u ts (tail k) h =
    greatest_at last_end i (last_end u) ts ∙ or_second (lt_z i (last_end u)) _ (in_any (λ t. lt_z i (last_end t)) k (lt_z_in i (last_end t) h))

module _ (r : ℕ) (q : ℤ → Bool) where
  -- what holds on the listed days holds on each day from the first day of one task to the end of another
  pub between : (s t : Task) (ts : List Task) → In s ts → In t ts → all q (listed_days ts) ≡ true → (i : ℤ) → first_day s ≤ℤ i → i <ℤ last_end t → q i ≡ true
  unfolding listed_days
  between s t [] k l h i a b = elim k [ ]
  between s t (u ∷ ts) k l h i a b =
      let x = from_least i s u ts k a in
      let y = to_greatest i t u ts l b in
      values_out q (range (least_of first_day (first_day u) ts) (greatest_of last_end (last_end u) ts)) i h (omega z)

  -- so from a task's first possible day to its last
  pub listed : (t : Task) (ts : List Task) → In t ts → all q (listed_days ts) ≡ true → (i : ℤ) → first_day t ≤ℤ i → i <ℤ last_end t → q i ≡ true
  listed t ts k h i a b = between t t ts k k h i a b

  -- a rule that speaks only of days on which t is possible, kept on the listed days, is kept on every day
  pub every_day : (t : Task) (ts : List Task) → In t ts → ((i : ℤ) → possible r i t ≡ false → q i ≡ true) → all q (listed_days ts) ≡ true → (i : ℤ) → q i ≡ true
  every_day t ts k f h i =
      by_cases (possible r i t) (λ e. let p = possible_is r i t e in listed t ts k h i p.late p.early) (f i)

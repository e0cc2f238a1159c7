-- Identifiers that rise repeat none.
use mathlib.Core.Path.{◌≡◌, refl, sym}
use mathlib.Core.Bool.{true, false}
use mathlib.Core.List.{List, [], ◌∷◌}
use Prim.Native.Nat.{ℕ, suc}
use native.Mathlib.Numerals.{add-one, unary_clauses}
use lib.IntN.{ℤ}
use lib.ListN.{length}
use lib.Signed.{◌≤ℤ◌}
use Rattle.integers.specs.Whole.{eq_z}
use Rattle.integers.specs.Tests.{any}
use Rattle.integers.proofs.Tests.{false_in}
use Rattle.integers.proofs.Z.{z, eq_z_true}
use Rattle.plan.specs.declared.Resource.{Resource}
use Rattle.rules.specs.Calls.{repeats}
use Rattle.plan.specs.Refusals.{accepted}
use Rattle.std.specs.List.{AllAdjacentBelow}
use Rattle.entry.specs.Checks.{below_id}
use native.Mathlib.Omega.{arith}

-- the numbers from x upwards are none of those seen
abbrev NoneFrom : ℤ → List ℤ → Type 0
NoneFrom x seen = (y : ℤ) → x ≤ℤ y → any (eq_z y) seen ≡ false

none_more : (q r : Resource) (seen : List ℤ) → below_id q r ≡ true → NoneFrom q.id seen → NoneFrom r.id (q.id ∷ seen)
unfolding any
none_more q r seen l n y h =
    let b : q.id ≤ℤ y = omega z in
    let e : eq_z y q.id ≡ false = false_in (eq_z y q.id) (λ e. let s = eq_z_true y q.id e in omega z) in
    rw (e, n y b)

-- each is below the next
abbrev Rising : List Resource → Type 0
Rising qs = AllAdjacentBelow (λ q r. true ≡ below_id q r) qs (length qs)

new_repeats : (q : Resource) (qs : List Resource) (k : ℕ) (seen : List ℤ) → Rising (q ∷ qs) → NoneFrom q.id seen → repeats k seen (q ∷ qs) ≡ accepted
unfolding repeats
new_repeats q [] k seen h n = rw (n q.id (omega z))
new_repeats q (r ∷ qs) k seen h n =
    let l : below_id q r ≡ true = sym (h 0 q (omega arith)) in
    let m : Rising (r ∷ qs) = λ i d b. rw add-one (simp unary_clauses at (h (suc i) d (omega arith))) in
    rw (n q.id (omega z)) (new_repeats r qs (suc k) (q.id ∷ seen) m (none_more q r seen l n))

pub rising_repeats : (qs : List Resource) → Rising qs → repeats 0 [] qs ≡ accepted
unfolding any repeats
rising_repeats [] h = refl
rising_repeats (q ∷ qs) h = new_repeats q qs 0 [] h (λ y l. refl)

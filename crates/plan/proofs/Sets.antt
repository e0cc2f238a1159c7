-- Laws of sets of resources, over numbers of any width: what a set has, alone and without a place, and how many places it has.
use mathlib.Core.Path.{◌≡◌, refl, sym, ap, ◌∙◌, subst}
use mathlib.Core.Bool.{true, false}
use mathlib.Core.Logic.{◌≢◌}
use Prim.Native.Nat.{ℕ, zero, suc, ◌-◌, ◌*◌, ◌/◌, ◌%◌, ◌^◌, ◌≤◌, ◌<◌, max}
use native.Mathlib.Nat.{pow-succ', two-pow-succ, div-one, div-div-eq-div-mul, pow-le-pow_right}
use native.Mathlib.Omega.{arith}
use lib.Bits.{bit_and, bit_or, bit_xor, and_step, differ, or_step, or_comm, xor_step}
use lib.Dec.{T, eqb, eqb→eq, eqb_refl}
use Rattle.integers.specs.Tests.{or}
use Rattle.integers.proofs.Tests.{clash, by_cases, true_of, false_in, if-case, or_first, or_assoc}
use Rattle.plan.specs.Sets.{has, only, at_most_one, without, SubSet, size, union, differing}

pub eqb_true : (a b : ℕ) → eqb a b ≡ true → a ≡ b
eqb_true a b e = eqb→eq a b (subst T (sym e) tt)

pub eqb_in : (a b : ℕ) → a ≡ b → eqb a b ≡ true
eqb_in a b e = true_of (eqb a b) (subst (λ x. T (eqb a x)) e (eqb_refl a))

pub only_is : (s k : ℕ) → only s k ≡ true → s ≡ 2 ^ k
unfolding only
only_is s k = eqb_true s (2 ^ k)

pub only_in : (s k : ℕ) → s ≡ 2 ^ k → only s k ≡ true
unfolding only
only_in s k = eqb_in s (2 ^ k)

-- one bit has nothing in common with the bits below it
bit_below : (r : ℕ) → bit_and (2 ^ r) (2 ^ r - 1) ≡ 0
bit_below zero = refl
bit_below (suc r) =
    let e = bit_below r in
    let l = two-pow-succ r in
    let a : 2 ^ suc r / 2 ≡ 2 ^ r = omega arith in
    let b : (2 ^ suc r - 1) / 2 ≡ 2 ^ r - 1 = omega arith in
    let c : 2 ^ suc r % 2 ≡ 0 = omega arith in
    and_step (2 ^ suc r) (2 ^ suc r - 1) ∙ rw (a, b, c, e) (omega arith)

pub at_most_one_only : (s r : ℕ) → only s r ≡ true → at_most_one s ≡ true
unfolding at_most_one
at_most_one_only s r h = eqb_in (bit_and s (s - 1)) 0 (subst (λ (x : ℕ). bit_and x (x - 1) ≡ 0) (sym (only_is s r h)) (bit_below r))

-- the set of one of 64 places, as the code makes it
pub bit_small : (k : ℕ) → k < 64 → 1 * 2 ^ k % 18446744073709551616 ≡ 2 ^ k
bit_small k h =
    let l : 2 ^ k ≤ 2 ^ 63 = pow-le-pow_right {n = 2} (omega arith) {i = k} {j = 63} (omega arith) in
    omega arith

pub has_none_lem : (k : ℕ) → has 0 k ≡ false
unfolding has
has_none_lem zero = refl
has_none_lem (suc k) = has_none_lem k

pub has_not_zero : (s k : ℕ) → has s k ≡ true → eqb s 0 ≡ false
has_not_zero s k h = by_cases (eqb s 0) (λ e. clash (has s k) h (subst (λ x. has x k ≡ false) (sym (eqb_true s 0 e)) (has_none_lem k))) (λ e. e)

half_pow : (r : ℕ) → 2 ^ suc r / 2 ≡ 2 ^ r
half_pow r = omega (arith, two-pow-succ r)

-- the set of r alone has r
pub has_alone : (r : ℕ) → has (2 ^ r) r ≡ true
unfolding has
has_alone zero = refl
has_alone (suc r) = rw (half_pow r) (has_alone r)

pub only_has : (s r : ℕ) → only s r ≡ true → has s r ≡ true
only_has s r h = rw (only_is s r h) (has_alone r)

-- and nothing else
pub alone_only : (r k : ℕ) → has (2 ^ r) k ≡ true → k ≡ r
unfolding has
alone_only zero zero h = refl
alone_only zero (suc k) h = clash (has 0 k) h (has_none_lem k)
alone_only (suc r) zero h =
    let e : 2 ^ suc r % 2 ≡ 1 = eqb_true (2 ^ suc r % 2) 1 h in
    let l = two-pow-succ r in
    absurd (omega arith)
alone_only (suc r) (suc k) h = ap suc (alone_only r k (rw (half_pow r) at h))

-- a set that has r is not below the set of r alone
pub has_le : (s r : ℕ) → has s r ≡ true → 2 ^ r ≤ s
unfolding has
has_le s zero h = let e : s % 2 ≡ 1 = eqb_true (s % 2) 1 h in omega arith
has_le s (suc r) h = let e : 2 ^ r ≤ s / 2 = has_le (s / 2) r h in omega (arith, two-pow-succ r)

-- another place stays when r is taken out
pub has_less : (s r k : ℕ) → has s r ≡ true → has s k ≡ true → k ≢ r → has (s - 2 ^ r) k ≡ true
unfolding has
has_less s zero zero h g n = absurd (n refl)
has_less s zero (suc k) h g n =
    let e : s % 2 ≡ 1 = eqb_true (s % 2) 1 h in
    let d : (s - 1) / 2 ≡ s / 2 = omega arith in
    rw d g
has_less s (suc r) zero h g n =
    let l : 2 ^ r ≤ s / 2 = has_le (s / 2) r h in
    let d : (s - 2 ^ suc r) % 2 ≡ s % 2 = omega (arith, two-pow-succ r) in
    rw d g
has_less s (suc r) (suc k) h g n =
    let l : 2 ^ r ≤ s / 2 = has_le (s / 2) r h in
    let d : (s - 2 ^ suc r) / 2 ≡ s / 2 - 2 ^ r = omega (arith, two-pow-succ r) in
    rw d (has_less (s / 2) r k h g (λ e. n (ap suc e)))

-- and nothing new comes in
pub less_has : (s r k : ℕ) → has s r ≡ true → has (s - 2 ^ r) k ≡ true → has s k ≡ true
unfolding has
less_has s zero zero h g = h
less_has s zero (suc k) h g =
    let e : s % 2 ≡ 1 = eqb_true (s % 2) 1 h in
    let d : (s - 1) / 2 ≡ s / 2 = omega arith in
    rw d at g
less_has s (suc r) zero h g =
    let l : 2 ^ r ≤ s / 2 = has_le (s / 2) r h in
    let d : (s - 2 ^ suc r) % 2 ≡ s % 2 = omega (arith, two-pow-succ r) in
    rw d at g
less_has s (suc r) (suc k) h g =
    let l : 2 ^ r ≤ s / 2 = has_le (s / 2) r h in
    let d : (s - 2 ^ suc r) / 2 ≡ s / 2 - 2 ^ r = omega (arith, two-pow-succ r) in
    less_has (s / 2) r k h (rw d at g)

-- bit k, as the code reads it
pub has_bit : (s k : ℕ) → has s k ≡ eqb (s / 2 ^ k % 2) 1
unfolding has
has_bit s zero = rw (div-one s)
has_bit s (suc k) = has_bit (s / 2) k ∙ ap (λ (x : ℕ). eqb (x % 2) 1) (div-div-eq-div-mul s 2 (2 ^ k) ∙ ap (λ (x : ℕ). s / x) (sym (pow-succ' 2 k)))

pub off : (x : ℕ) → x < 2 → eqb x 1 ≡ false → x ≡ 0
off zero h e = refl
off (suc zero) h e = clash true refl e
off (suc (suc x)) h e = absurd (omega arith)

nothing : (n s : ℕ) → s ≤ n → ((k : ℕ) → has s k ≡ false) → s ≡ 0
unfolding has
nothing zero s h f = omega arith
nothing (suc n) s h f =
    let b : s % 2 ≡ 0 = off (s % 2) (omega arith) (f 0) in
    by_cases (eqb s 0) (eqb_true s 0)
    (λ e.
    let a : s / 2 ≡ 0 = nothing n (s / 2) (omega arith) (λ k. f (suc k)) in
    omega arith)

-- a set with r and nothing else is that of r alone
pub alone_is : (r s : ℕ) → has s r ≡ true → ((k : ℕ) → has s k ≡ true → k ≡ r) → s ≡ 2 ^ r
unfolding has
alone_is zero s h f =
    let a : s % 2 ≡ 1 = eqb_true (s % 2) 1 h in
    let b : s / 2 ≡ 0 = nothing (s / 2) (s / 2) (omega arith) (λ k. false_in (has (s / 2) k) (λ e. let q = f (suc k) e in omega arith)) in
    omega arith
alone_is (suc r) s h f =
    let a : s % 2 ≡ 0 = off (s % 2) (omega arith) (false_in (eqb (s % 2) 1) (λ e. let q = f 0 e in omega arith)) in
    let b : s / 2 ≡ 2 ^ r = alone_is r (s / 2) h (λ k e. let q = f (suc k) e in omega arith) in
    omega (arith, two-pow-succ r)

-- ---- how many places a set has, among the first m
bit_le : (s' s : ℕ) → SubSet s' s → s' % 2 ≤ s % 2
unfolding has
bit_le s' s h =
    by_cases (eqb (s' % 2) 1)
    (λ e. let a = eqb_true (s' % 2) 1 e in let b = eqb_true (s % 2) 1 (h 0 e) in omega arith)
    (λ e. let a = off (s' % 2) (omega arith) e in omega arith)

half_sub : (s' s : ℕ) → SubSet s' s → SubSet (s' / 2) (s / 2)
unfolding has
half_sub s' s h k = h (suc k)

sub_le_from : (n s' s : ℕ) → s' ≤ n → SubSet s' s → s' ≤ s
sub_le_from zero s' s l h = omega arith
sub_le_from (suc n) s' s l h =
    by_cases (eqb s' 0) (λ e. let a = eqb_true s' 0 e in omega arith)
    (λ e. let a = sub_le_from n (s' / 2) (s / 2) (omega arith) (half_sub s' s h) in let b = bit_le s' s h in omega arith)

pub sub_le : (s' s : ℕ) → SubSet s' s → s' ≤ s
sub_le s' s h = sub_le_from s' s' s (omega arith) h

pub size_le : (m s' s : ℕ) → SubSet s' s → size m s' ≤ size m s
unfolding size
size_le zero s' s h = omega arith
size_le (suc m) s' s h = let a = bit_le s' s h in let b = size_le m (s' / 2) (s / 2) (half_sub s' s h) in omega arith

-- a part with as many places is the whole
pub size_same : (m s' s : ℕ) → SubSet s' s → s < 2 ^ m → size m s ≤ size m s' → s' ≡ s
unfolding size
size_same zero s' s h l g = let a = sub_le s' s h in omega arith
size_same (suc m) s' s h l g =
    let a = bit_le s' s h in
    let b = size_le m (s' / 2) (s / 2) (half_sub s' s h) in
    let c = size_same m (s' / 2) (s / 2) (half_sub s' s h) (omega (arith, two-pow-succ m)) (omega arith) in
    omega arith

pub size_some : (m s k : ℕ) → s < 2 ^ m → has s k ≡ true → 1 ≤ size m s
unfolding size has
size_some zero s k l h = let a : s ≡ 0 = omega arith in clash (has 0 k) (rw a at h) (has_none_lem k)
size_some (suc m) s zero l h = let a = eqb_true (s % 2) 1 h in omega arith
size_some (suc m) s (suc k) l h = let a = size_some m (s / 2) k (omega (arith, two-pow-succ m)) h in omega arith

some_from : (n s : ℕ) → s ≤ n → eqb s 0 ≡ false → (k : ℕ) × (has s k ≡ true)
unfolding has
some_from zero s l e = let a : s ≡ 0 = omega arith in clash (eqb s 0) (eqb_in s 0 a) e
some_from (suc n) s l e =
    by_cases (eqb (s % 2) 1) (λ b. (0, b))
    (λ b.
    let a = off (s % 2) (omega arith) b in
    let h = some_from n (s / 2) (omega arith) (false_in (eqb (s / 2) 0) (λ q. let d = eqb_true (s / 2) 0 q in let f : s ≡ 0 = omega arith in clash (eqb s 0) (eqb_in s 0 f) e)) in
    (suc h.0, h.1))

pub some_place : (s : ℕ) → eqb s 0 ≡ false → (k : ℕ) × (has s k ≡ true)
some_place s e = some_from s s (omega arith) e

-- what is taken out is gone
pub less_out : (s r : ℕ) → has s r ≡ true → has (s - 2 ^ r) r ≡ true → ⊥
unfolding has
less_out s zero h g =
    let a = eqb_true (s % 2) 1 h in
    let b = eqb_true ((s - 1) % 2) 1 g in
    omega arith
less_out s (suc r) h g =
    let l : 2 ^ r ≤ s / 2 = has_le (s / 2) r h in
    let d : (s - 2 ^ suc r) / 2 ≡ s / 2 - 2 ^ r = omega (arith, two-pow-succ r) in
    less_out (s / 2) r h (rw d at g)

-- ---- the set without a place
pub without_has : (s r k : ℕ) → has (without s r) k ≡ true → has s k ≡ true
unfolding without
without_has s r k =
    if-case (λ u. has u k ≡ true → has s k ≡ true) (has s r) (s - 2 ^ r) s (λ e h. less_has s r k e h) (λ e h. h)

pub without_out : (s r : ℕ) → has (without s r) r ≡ true → ⊥
unfolding without
without_out s r =
    if-case (λ u. has u r ≡ true → ⊥) (has s r) (s - 2 ^ r) s (λ e h. less_out s r e h) (λ e h. clash (has s r) h e)

pub without_keeps : (s r k : ℕ) → has s k ≡ true → k ≢ r → has (without s r) k ≡ true
unfolding without
without_keeps s r k h n =
    if-case (λ u. has u k ≡ true) (has s r) (s - 2 ^ r) s (λ e. has_less s r k e h n) (λ e. h)

-- ---- the union of two sets
bit_or_lem : (x y : ℕ) → x < 2 → y < 2 → eqb (max x y) 1 ≡ or (eqb x 1) (eqb y 1)
bit_or_lem zero zero h k = refl
bit_or_lem zero (suc zero) h k = refl
bit_or_lem (suc zero) zero h k = refl
bit_or_lem (suc zero) (suc zero) h k = refl
bit_or_lem zero (suc (suc y)) h k = absurd (omega arith)
bit_or_lem (suc zero) (suc (suc y)) h k = absurd (omega arith)
bit_or_lem (suc (suc x)) y h k = absurd (omega arith)

pub union_has : (a b k : ℕ) → has (union a b) k ≡ or (has a k) (has b k)
unfolding union has
union_has a b zero =
    let l : bit_or a b % 2 ≡ max (a % 2) (b % 2) = omega (arith, or_step a b) in
    rw l (bit_or_lem (a % 2) (b % 2) (omega arith) (omega arith))
union_has a b (suc k) =
    let l : bit_or a b / 2 ≡ bit_or (a / 2) (b / 2) = omega (arith, or_step a b) in
    rw l (union_has (a / 2) (b / 2) k)

-- sets of the same places are the same
pub same_set : (a b : ℕ) → ((k : ℕ) → has a k ≡ has b k) → a ≡ b
same_set a b h =
    let l = sub_le a b (λ k e. sym (h k) ∙ e) in
    let m = sub_le b a (λ k e. h k ∙ e) in
    omega arith

pub union_assoc : (a b c : ℕ) → union (union a b) c ≡ union a (union b c)
union_assoc a b c =
    same_set (union (union a b) c) (union a (union b c))
    (λ k. rw (union_has (union a b) c k, union_has a b k, union_has a (union b c) k, union_has b c k) (or_assoc (has a k) (has b k) (has c k)))

pub union_swap : (a b : ℕ) → union a b ≡ union b a
unfolding union
union_swap = or_comm

pub union_le : (a b : ℕ) → a ≤ union a b
union_le a b = sub_le a (union a b) (λ k h. union_has a b k ∙ or_first (has a k) (has b k) h)

-- ---- where two sets differ
differ_bit : (x y : ℕ) → x < 2 → y < 2 → differ x y < 2
differ_bit zero y h k = k
differ_bit (suc zero) zero h k = h
differ_bit (suc zero) (suc y) h k = omega arith
differ_bit (suc (suc x)) y h k = absurd (omega arith)

same_bit : (x y : ℕ) → x < 2 → y < 2 → eqb (differ x y) 1 ≡ false → eqb x 1 ≡ eqb y 1
same_bit zero zero h k e = refl
same_bit zero (suc zero) h k e = clash true refl e
same_bit (suc zero) zero h k e = clash true refl e
same_bit (suc zero) (suc zero) h k e = refl
same_bit zero (suc (suc y)) h k e = absurd (omega arith)
same_bit (suc zero) (suc (suc y)) h k e = absurd (omega arith)
same_bit (suc (suc x)) y h k e = absurd (omega arith)

-- a place where they do not is in both or in neither
pub differing_has : (a b k : ℕ) → has (differing a b) k ≡ false → has a k ≡ has b k
unfolding differing has
differing_has a b zero e =
    let s = differ_bit (a % 2) (b % 2) (omega arith) (omega arith) in
    let l : bit_xor a b % 2 ≡ differ (a % 2) (b % 2) = omega (arith, xor_step a b) in
    same_bit (a % 2) (b % 2) (omega arith) (omega arith) (rw l at e)
differing_has a b (suc k) e =
    let s = differ_bit (a % 2) (b % 2) (omega arith) (omega arith) in
    let l : bit_xor a b / 2 ≡ bit_xor (a / 2) (b / 2) = omega (arith, xor_step a b) in
    differing_has (a / 2) (b / 2) k (rw l at e)

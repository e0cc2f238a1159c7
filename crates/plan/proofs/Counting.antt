-- Laws of the language's counts of ones and of trailing zeros, over sets of any width: how many places a set has, and which is the lowest.
use mathlib.Core.Path.{◌≡◌, refl, sym, ap, ◌∙◌, subst}
use mathlib.Core.Bool.{true, false, not}
use Prim.Native.Nat.{ℕ, zero, suc, ◌+◌, ◌-◌, ◌*◌, ◌/◌, ◌%◌, ◌^◌, ◌≤◌, ◌<◌}
use native.Mathlib.Nat.{two-pow-succ, pow-suc, pow-succ', mul_assoc, mul-le-mul_left, mul-div_cancel, div-mul-le_self, div-div-eq-div-mul, mod-eq_of_lt}
use native.Mathlib.Omega.{arith}
use lib.Bits.{bit_and, and_step, and_self, shifted_half, shifted_even}
use lib.Count.{ones, ones_step, ones-ones, count_trailing_zeros, under}
use lib.Dec.{T, eqb, ltb, ltb→lt, lt→ltb, nltb→le}
use lib.Pow.{pow-add, pow_pos}
use Rattle.integers.specs.Tests.{if, and}
use Rattle.integers.proofs.Tests.{clash, by_cases, if-case, same_test, true_of, and_first, and_second, and_in}
use Rattle.plan.specs.Sets.{has, only, at_most_one, size, lowest, after, next}
use Rattle.plan.proofs.Sets.{eqb_true, eqb_in, off, only_in, only_is, only_has, has_alone, alone_only, at_most_one_only, has_bit, size_some, some_place}

-- ---- ones: how many places a set has

pub ones_size : (m s : ℕ) → s < 2 ^ m → ones s ≡ size m s
unfolding size
ones_size zero s l = let e : s ≡ 0 = omega arith in rw e (ones-ones 0)
ones_size (suc m) s l = ones_step s ∙ ap (λ (n : ℕ). s % 2 + n) (ones_size m (s / 2) (omega (arith, two-pow-succ m)))

pub size_none : (m : ℕ) → size m 0 ≡ 0
unfolding size
size_none zero = refl
size_none (suc m) = omega (arith, size_none m)

-- what is left of a set without its lowest place, by the set's lowest bit
left_odd : (s : ℕ) → s % 2 ≡ 1 → bit_and s (s - 1) ≡ s / 2 * 2
left_odd s e =
    let a : (s - 1) / 2 ≡ s / 2 = omega arith in
    let b : (s - 1) % 2 ≡ 0 = omega arith in
    and_step s (s - 1) ∙ rw (a, b, e, and_self (s / 2)) (omega arith)

left_even : (s : ℕ) → s % 2 ≡ 0 → bit_and s (s - 1) ≡ bit_and (s / 2) (s / 2 - 1) * 2
left_even s e =
    let a : (s - 1) / 2 ≡ s / 2 - 1 = omega arith in
    and_step s (s - 1) ∙ rw (a, e) (omega arith)

-- nothing is left of it just where it has one place at most
few_left : (m s : ℕ) → s < 2 ^ m → size m s < 2 → bit_and s (s - 1) ≡ 0
unfolding size
few_left zero s l h = let e : s ≡ 0 = omega arith in rw e refl
few_left (suc m) s l h =
    let half : s / 2 < 2 ^ m = omega (arith, two-pow-succ m) in
    by_cases (eqb (s % 2) 1)
    (λ o.
    let b = eqb_true (s % 2) 1 o in
    by_cases (eqb (s / 2) 0) (λ e. let z = eqb_true (s / 2) 0 e in omega (arith, left_odd s b))
    (λ e. let p = some_place (s / 2) e in let n = size_some m (s / 2) p.0 half p.1 in omega arith))
    (λ o. let b = off (s % 2) (omega arith) o in let r = few_left m (s / 2) half (omega arith) in omega (arith, left_even s b))

left_few : (m s : ℕ) → s < 2 ^ m → bit_and s (s - 1) ≡ 0 → size m s < 2
unfolding size
left_few zero s l h = omega arith
left_few (suc m) s l h =
    let half : s / 2 < 2 ^ m = omega (arith, two-pow-succ m) in
    by_cases (eqb (s % 2) 1)
    (λ o.
    let b = eqb_true (s % 2) 1 o in
    let z : s / 2 ≡ 0 = omega (arith, left_odd s b) in
    let n : size m (s / 2) ≡ 0 = ap (size m) z ∙ size_none m in
    omega arith)
    (λ o. let b = off (s % 2) (omega arith) o in let r = left_few m (s / 2) half (omega (arith, left_even s b)) in omega arith)

pub size_at_most_one : (m s : ℕ) → s < 2 ^ m → ltb (size m s) 2 ≡ at_most_one s
unfolding at_most_one
size_at_most_one m s l =
    same_test (ltb (size m s) 2) (eqb (bit_and s (s - 1)) 0)
    (λ e. eqb_in (bit_and s (s - 1)) 0 (few_left m s l (ltb→lt (size m s) 2 (subst T (sym e) tt))))
    (λ e. true_of (ltb (size m s) 2) (lt→ltb (size m s) 2 (left_few m s l (eqb_true (bit_and s (s - 1)) 0 e))))

-- ---- trailing zeros: which place is the lowest

under_is : (x t u : ℕ) → x < 2 → t ≡ u → under x t ≡ if (eqb x 1) 0 (suc u)
under_is zero t u h e = ap suc e
under_is (suc zero) t u h e = refl
under_is (suc (suc x)) t u h e = absurd (omega arith)

pub trailing_lowest : (m s : ℕ) → count_trailing_zeros m s ≡ lowest m s
unfolding count_trailing_zeros lowest has
trailing_lowest zero s = refl
trailing_lowest (suc m) s = under_is (s % 2) (count_trailing_zeros m (s / 2)) (lowest m (s / 2)) (omega arith) (trailing_lowest m (s / 2))

-- no place of the set is below its lowest
pub below_lowest : (m s k : ℕ) → k < lowest m s → has s k ≡ false
unfolding lowest has
below_lowest zero s k h = absurd (omega arith)
below_lowest (suc m) s zero h =
    if-case (λ (n : ℕ). 0 < n → eqb (s % 2) 1 ≡ false) (eqb (s % 2) 1) 0 (suc (lowest m (s / 2))) (λ e l. absurd (omega arith)) (λ e l. e) h
below_lowest (suc m) s (suc k) h =
    if-case (λ (n : ℕ). suc k < n → has (s / 2) k ≡ false) (eqb (s % 2) 1) 0 (suc (lowest m (s / 2))) (λ e l. absurd (omega arith))
    (λ e l. below_lowest m (s / 2) k (omega arith)) h

-- and where it is below m, it is one of them
pub lowest_in : (m s : ℕ) → lowest m s < m → has s (lowest m s) ≡ true
unfolding lowest has
lowest_in zero s h = absurd (omega arith)
lowest_in (suc m) s h =
    if-case (λ (n : ℕ). n < suc m → has s n ≡ true) (eqb (s % 2) 1) 0 (suc (lowest m (s / 2))) (λ e l. e)
    (λ e l. lowest_in m (s / 2) (omega arith)) h

-- a set of one place has its lowest alone
one_power : (m s : ℕ) → s < 2 ^ m → size m s ≡ 1 → s ≡ 2 ^ lowest m s
unfolding size lowest has
one_power zero s l e = absurd (omega arith)
one_power (suc m) s l e =
    let half : s / 2 < 2 ^ m = omega (arith, two-pow-succ m) in
    if-case (λ (n : ℕ). s ≡ 2 ^ n) (eqb (s % 2) 1) 0 (suc (lowest m (s / 2)))
    (λ o.
    let b = eqb_true (s % 2) 1 o in
    by_cases (eqb (s / 2) 0) (λ z. let h = eqb_true (s / 2) 0 z in omega arith)
    (λ z. let p = some_place (s / 2) z in let n = size_some m (s / 2) p.0 half p.1 in omega arith))
    (λ o.
    let b = off (s % 2) (omega arith) o in
    let h = one_power m (s / 2) half (omega arith) in
    omega (arith, two-pow-succ (lowest m (s / 2))))

-- the lowest place of the set of k alone
power_lowest : (m k : ℕ) → k < m → lowest m (2 ^ k) ≡ k
power_lowest m k l =
    by_cases (ltb k (lowest m (2 ^ k)))
    (λ e. clash (has (2 ^ k) k) (has_alone k) (below_lowest m (2 ^ k) k (ltb→lt k (lowest m (2 ^ k)) (subst T (sym e) tt))))
    (λ e.
    let h = nltb→le k (lowest m (2 ^ k)) (subst (λ b. T (not b)) (sym e) tt) in
    alone_only k (lowest m (2 ^ k)) (lowest_in m (2 ^ k) (omega arith)))

-- a set is that of k alone where its ones are one, and its trailing zeros k, and nowhere else
pub only_counted : (m s k : ℕ) → s < 2 ^ m → k < m → and (eqb (ones s) 1) (eqb (count_trailing_zeros m s) k) ≡ only s k
only_counted m s k l h =
    rw (ones_size m s l, trailing_lowest m s)
    (same_test (and (eqb (size m s) 1) (eqb (lowest m s) k)) (only s k)
    (λ e.
    let n = eqb_true (size m s) 1 (and_first (eqb (size m s) 1) (eqb (lowest m s) k) e) in
    let j = eqb_true (lowest m s) k (and_second (eqb (size m s) 1) (eqb (lowest m s) k) e) in
    only_in s k (one_power m s l n ∙ ap (λ (x : ℕ). 2 ^ x) j))
    (λ e.
    let p = only_is s k e in
    let few = ltb→lt (size m s) 2 (subst T (sym (size_at_most_one m s l ∙ at_most_one_only s k e)) tt) in
    let some = size_some m s k l (only_has s k e) in
    and_in (eqb (size m s) 1) (eqb (lowest m s) k) (eqb_in (size m s) 1 (omega arith)) (eqb_in (lowest m s) k (ap (lowest m) p ∙ power_lowest m k h))))

-- ---- from one place to the next

-- the places from k on, counted from there
has_from : (s k j : ℕ) → has (s / 2 ^ k) j ≡ has s (k + j)
has_from s k j =
    has_bit (s / 2 ^ k) j
    ∙ ap (λ (x : ℕ). eqb (x % 2) 1) (div-div-eq-div-mul s (2 ^ k) (2 ^ j) ∙ ap (λ (x : ℕ). s / x) (sym (pow-add 2 k j)))
    ∙ sym (has_bit s (k + j))

-- a set moved up by k: nothing below k, and from k on what it had
moved_low : (k s j : ℕ) → j < k → has (s * 2 ^ k) j ≡ false
unfolding has
moved_low zero s j l = absurd (omega arith)
moved_low (suc k) s zero l = rw (shifted_even s k) refl
moved_low (suc k) s (suc j) l = rw (shifted_half s k) (moved_low k s j (omega arith))

moved_high : (k s j : ℕ) → has (s * 2 ^ k) (k + j) ≡ has s j
moved_high k s j = sym (has_from (s * 2 ^ k) k j) ∙ ap (λ (x : ℕ). has x j) (mul-div_cancel s (pow_pos k))

-- none up to k
pub after_out : (s k j : ℕ) → j ≤ k → has (after s k) j ≡ false
unfolding after
after_out s k j l = moved_low (suc k) (s / 2 ^ suc k) j (omega arith)

-- and from there on those of the set
pub after_has : (s k j : ℕ) → k < j → has (after s k) j ≡ has s j
unfolding after
after_has s k j l =
    let e : suc k + (j - suc k) ≡ j = omega arith in
    subst (λ x. has (s / 2 ^ suc k * 2 ^ suc k) x ≡ has s x) e (moved_high (suc k) (s / 2 ^ suc k) (j - suc k) ∙ has_from s (suc k) (j - suc k))

-- as the code makes it, in words that hold the set: what is up to k shifted out, and the rest shifted back
pub after_shifted : (w s k : ℕ) → s < w → s / 2 ^ k / 2 * 2 % w * 2 ^ k % w ≡ after s k
unfolding after
after_shifted w s k l =
    let q = s / 2 ^ suc k in
    let e : s / 2 ^ k / 2 ≡ q = div-div-eq-div-mul s (2 ^ k) 2 ∙ ap (λ (x : ℕ). s / x) (sym (pow-suc 2 k)) in
    let back : q * 2 * 2 ^ k ≡ q * 2 ^ suc k = mul_assoc q 2 (2 ^ k) ∙ ap (λ (x : ℕ). q * x) (sym (pow-succ' 2 k)) in
    let all : q * 2 ^ suc k ≤ s = div-mul-le_self s (2 ^ suc k) in
    let some : q * 2 ≤ q * 2 ^ suc k = mul-le-mul_left q (omega (arith, pow-suc 2 k, pow_pos k)) in
    let low : q * 2 % w ≡ q * 2 = mod-eq_of_lt (omega arith) in
    rw (e, low, back) (mod-eq_of_lt (omega arith))

pub next_above : (m s k : ℕ) → k < m → k < next m s k
unfolding next
next_above m s k l =
    by_cases (ltb k (lowest m (after s k))) (λ e. ltb→lt k (lowest m (after s k)) (subst T (sym e) tt))
    (λ e.
    let h = nltb→le k (lowest m (after s k)) (subst (λ b. T (not b)) (sym e) tt) in
    clash (has (after s k) (lowest m (after s k))) (lowest_in m (after s k) (omega arith)) (after_out s k (lowest m (after s k)) h))

-- no place of the set stands between k and the next
pub before_next : (m s k j : ℕ) → k < j → j < next m s k → has s j ≡ false
unfolding next
before_next m s k j h l = sym (after_has s k j h) ∙ below_lowest m (after s k) j l

-- and where it is below m, it is one of them
pub next_in : (m s k : ℕ) → k < m → next m s k < m → has s (next m s k) ≡ true
unfolding next
next_in m s k l h = sym (after_has s k (next m s k) (next_above m s k l)) ∙ in_after h
  where
    in_after : next m s k < m → has (after s k) (next m s k) ≡ true
    in_after = lowest_in m (after s k)

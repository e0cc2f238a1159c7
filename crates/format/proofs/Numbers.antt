-- Laws of numbers in bytes: so many bytes to a number and back, a number's low and high bytes apart, and the numbers of one, two and four bytes that
-- stand at a place.
use mathlib.Core.Path.{◌≡◌, refl, ap, subst, sym}
use mathlib.Core.List.{List, [], ◌∷◌, ◌++◌}
use Prim.Native.Nat.{ℕ, zero, suc, ◌+◌, ◌*◌, ◌/◌, ◌%◌, ◌≤◌, ◌<◌}
use native.Mathlib.Omega.{arith}
use native.Mathlib.Nat.{zero-add, suc-add, mul_assoc, div-one, div-div-eq-div-mul, not-suc-le-zero, le_of_suc-le-suc}
use lib.IntN.{ℤ}
use lib.ListN.{length, get_or, take, drop, length-drop, take-append-drop}
use lib.Seq.{drop-drop}
use mir.Syntax.{w32, w64}
use mir.Val.{SFits, to_z, of_z}
use mir.Facts.{to_z-of_z, sfits_widen}
use Rattle.integers.specs.Lists.{Each}
use Rattle.integers.specs.Lists.Each.{nothing, also}
use Rattle.integers.proofs.Lists.{each_first, each_last}
use Rattle.format.specs.Numbers.{Byte, bytes_of, number_of, number_at}

-- ---- bytes
both : (k : ℕ) {bs : List ℕ} → Each Byte bs → Each Byte (take k bs ++ drop k bs)
both k {bs} h = subst (Each Byte) (sym (take-append-drop k bs)) h

pub bytes_take : (k : ℕ) {bs : List ℕ} → Each Byte bs → Each Byte (take k bs)
bytes_take k {bs} h = each_first (take k bs) (drop k bs) (both k h)

pub bytes_drop : (k : ℕ) {bs : List ℕ} → Each Byte bs → Each Byte (drop k bs)
bytes_drop k {bs} h = each_last (take k bs) (drop k bs) (both k h)

-- ---- THE LAW: so many bytes to a number and back
-- the first number that so many bytes do not hold
unfoldable pub beyond : ℕ → ℕ
beyond zero = 1
beyond (suc w) = 256 * beyond w

pub length_bytes : (w n : ℕ) → length (bytes_of w n) ≡ w
unfolding bytes_of
length_bytes zero n = refl
length_bytes (suc w) n = ap suc (length_bytes w (n / 256))

pub number_bytes : (w n : ℕ) → n < beyond w → number_of (bytes_of w n) ≡ n
unfolding bytes_of number_of beyond
number_bytes zero n h = omega arith
number_bytes (suc w) n h = omega (arith, number_bytes w (n / 256) (omega arith))

pub bytes_number : {bs : List ℕ} → Each Byte bs → bytes_of (length bs) (number_of bs) ≡ bs
unfolding bytes_of number_of
bytes_number nothing = refl
bytes_number (also {x = b} {xs = bs} l h) =
    let low : (b + 256 * number_of bs) % 256 ≡ b = omega arith in
    let high : (b + 256 * number_of bs) / 256 ≡ number_of bs = omega arith in
    rw (low, high) (ap (λ (l : List ℕ). b ∷ l) (bytes_number h))

pub number_small : {bs : List ℕ} → Each Byte bs → number_of bs < beyond (length bs)
unfolding number_of beyond
number_small nothing = omega arith
number_small (also l h) = omega (arith, number_small h)

-- ---- a number's low bytes and its high bytes
number_parts : (m n : ℕ) (l : List ℕ) → m ≤ length l → number_of (take (m + n) l) ≡ number_of (take m l) + beyond m * number_of (take n (drop m l))
unfolding number_of beyond
number_parts zero n l h = rw (zero-add n) (omega arith)
number_parts (suc m) n [] h = absurd (not-suc-le-zero h)
number_parts (suc m) n (a ∷ l) h =
    rw (suc-add m n, number_parts m n l (le_of_suc-le-suc h), mul_assoc 256 (beyond m) (number_of (take n (drop m l)))) (omega arith)

pub number_split : (m n at : ℕ) (b : List ℕ) → at + m ≤ length b → number_at b (m + n) at ≡ number_at b m at + beyond m * number_at b n (at + m)
number_split m n at b h = rw (← drop-drop m at b) (number_parts m n (drop at b) (omega (arith, length-drop at b)))

pub bytes_split : (m n x : ℕ) → bytes_of (m + n) x ≡ bytes_of m x ++ bytes_of n (x / beyond m)
unfolding bytes_of beyond
bytes_split zero n x = rw (zero-add n, div-one x)
bytes_split (suc m) n x =
    rw (suc-add m n, bytes_split m n (x / 256), div-div-eq-div-mul x 256 (beyond m))

-- ---- a signed number of four bytes as one of eight
pub widened : (x : ℤ) → SFits w32 x → to_z w64 (of_z w64 (to_z w32 (of_z w32 x))) ≡ x
widened x f = rw (to_z-of_z f) (to_z-of_z {w = w64} (sfits_widen {w = w32} {w' = w64} tt f))

-- ---- the bytes of one, two and four, each where it stands
-- past the end there stands 0
pub number_one : (at : ℕ) (b : List ℕ) → get_or b at 0 ≡ number_at b 1 at
unfolding number_of
number_one zero [] = refl
number_one (suc at) [] = refl
number_one zero (x ∷ b) = omega arith
number_one (suc at) (x ∷ b) = number_one at b

module _ (at : ℕ) (b : List ℕ) where
  pub number_two : at + 2 ≤ length b → get_or b at 0 + get_or b (at + 1) 0 * 256 ≡ number_at b 2 at
  unfolding beyond
  number_two h = omega (arith, number_split 1 1 at b (omega arith), number_one at b, number_one (at + 1) b)

  pub number_four : at + 4 ≤ length b → get_or b at 0 + get_or b (at + 1) 0 * 256 + get_or b (at + 2) 0 * 65536 + get_or b (at + 3) 0 * 16777216 ≡ number_at b 4 at
  unfolding beyond
  number_four h =
      let e : at + 2 + 1 ≡ at + 3 = omega arith in
      let high = rw e at (number_split 1 1 (at + 2) b (omega arith)) in
      omega (
        arith,
        number_split 2 2 at b (omega arith),
        number_split 1 1 at b (omega arith),
        high,
        number_one at b,
        number_one (at + 1) b,
        number_one (at + 2) b,
        number_one (at + 3) b,
      )

-- the low two bytes of a number
pub bytes_two : (n : ℕ) → n % 65536 % 256 ∷ n % 65536 / 256 % 256 ∷ [] ≡ bytes_of 2 n
unfolding bytes_of
bytes_two n =
    let low : n % 65536 % 256 ≡ n % 256 = omega arith in
    let high : n % 65536 / 256 % 256 ≡ n / 256 % 256 = omega arith in
    rw (low, high)

pub bytes_four : (n : ℕ) → n % 256 ∷ n / 256 % 256 ∷ n / 65536 % 256 ∷ n / 16777216 % 256 ∷ [] ≡ bytes_of 4 n
unfolding bytes_of
bytes_four n = rw (div-div-eq-div-mul n 256 256, div-div-eq-div-mul n 65536 256)

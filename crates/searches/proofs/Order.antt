-- Stretches in order: each has a day, and an earlier one ends before a later one begins; how many begin before a day, by halves.
use mathlib.Core.Path.{◌≡◌, subst}
use mathlib.Core.List.{List, [], ◌∷◌, ◌++◌}
use Prim.Native.Nat.{ℕ, zero, suc, ◌+◌, ◌-◌, ◌≤◌, ◌<◌}
use native.Mathlib.Nat.{not-suc-le-zero, le_of_suc-le-suc}
use native.Mathlib.Omega.{arith}
use borrow.Author.Tests.{ltb-true, ltb-false}
use lib.Dec.{ltb}
use lib.ListN.{length, get_or}
use lib.IntN.{ℤ}
use lib.Signed.{◌≤ℤ◌, ◌<ℤ◌}
use Rattle.integers.proofs.Z.{z}
use Rattle.integers.proofs.Tests.{by_cases}
use Rattle.stretches.specs.declared.Stretch.{Stretch}
use Rattle.stretches.specs.View.{no_stretch}
use Rattle.stretches.specs.Tells.{Ordered}
use Rattle.searches.specs.Searches.{Begun}

pub below_cases : {P : Type 0} (j k : ℕ) → (j < k → P) → (k ≤ j → P) → P
below_cases j k f g = by_cases (ltb j k) (λ e. f (ltb-true j k e)) (λ e. g (ltb-false j k e))

-- ---- each has a day, and ends before the next begins
pub ordered_rest : (s : Stretch) (ss : List Stretch) → Ordered (s ∷ ss) → Ordered ss
unfolding Ordered
ordered_rest s [] h = tt
ordered_rest s (u ∷ ss) h = h.2

pub ordered_first : (s : Stretch) (ss : List Stretch) → Ordered (s ∷ ss) → s.from.0 <ℤ s.to.0
unfolding Ordered
ordered_first s [] h = h
ordered_first s (u ∷ ss) h = h.0

pub ordered_full : (ss : List Stretch) → Ordered ss → (k : ℕ) → k < length ss → (get_or ss k no_stretch).from.0 <ℤ (get_or ss k no_stretch).to.0
ordered_full [] h k l = absurd (not-suc-le-zero l)
ordered_full (s ∷ ss) h zero l = ordered_first s ss h
ordered_full (s ∷ ss) h (suc k) l = ordered_full ss (ordered_rest s ss h) k (le_of_suc-le-suc l)

-- from the first on
ordered_after : (s : Stretch) (ss : List Stretch) → Ordered (s ∷ ss) → (k : ℕ) → k < length ss → s.to.0 ≤ℤ (get_or ss k no_stretch).from.0
unfolding Ordered
ordered_after s [] h k l = absurd (not-suc-le-zero l)
ordered_after s (u ∷ ss) h zero l = h.1
ordered_after s (u ∷ ss) h (suc k) l =
    let a = ordered_after u ss h.2 k (le_of_suc-le-suc l) in
    let b = ordered_first u ss h.2 in
    let c = h.1 in
    omega z

pub ordered_apart : (ss : List Stretch) → Ordered ss → (j k : ℕ) → j < k → k < length ss → (get_or ss j no_stretch).to.0 ≤ℤ (get_or ss k no_stretch).from.0
ordered_apart [] h j k m l = absurd (not-suc-le-zero l)
ordered_apart (s ∷ ss) h j zero m l = absurd (not-suc-le-zero m)
ordered_apart (s ∷ ss) h zero (suc k) m l = ordered_after s ss h k (le_of_suc-le-suc l)
ordered_apart (s ∷ ss) h (suc j) (suc k) m l = ordered_apart ss (ordered_rest s ss h) j k (le_of_suc-le-suc m) (le_of_suc-le-suc l)

-- of a list and one more at its end
pub ordered_front : (ss : List Stretch) (s : Stretch) → Ordered (ss ++ s ∷ []) → Ordered ss
unfolding Ordered
ordered_front [] s o = tt
ordered_front (u ∷ []) s o = o.0
ordered_front (u ∷ w ∷ ss) s o = (o.0, o.1, ordered_front (w ∷ ss) s o.2)

pub ordered_last : (u : Stretch) (ss : List Stretch) (s : Stretch) → Ordered (u ∷ ss ++ s ∷ []) → (u.to.0 ≤ℤ s.from.0) × (s.from.0 <ℤ s.to.0)
unfolding Ordered
ordered_last u [] s o = (o.1, o.2)
ordered_last u (w ∷ ss) s o = let f = ordered_last w ss s o.2 in let a = ordered_first w (ss ++ s ∷ []) o.2 in (omega (z, o.1), f.1)

-- ---- how many begin before day d
module _ (ss : List Stretch) (d : ℤ) where
  pub begun_start : (n : ℕ) → length ss ≤ n → Begun ss d 0 n
  begun_start n h = record { before = λ k l. absurd (omega arith); after = λ k l m. absurd (omega arith) }

  module _ (o : Ordered ss) (low high mid : ℕ) (b : Begun ss d low high) (l : mid < length ss) where
    pub begun_low : (get_or ss mid no_stretch).from.0 <ℤ d → Begun ss d (mid + 1) high
    begun_low h = record { before = before; after = b.after }
      where
        before : (k : ℕ) → k < mid + 1 → k < length ss → (get_or ss k no_stretch).from.0 <ℤ d
        before k m n =
            below_cases k mid
            (λ c. let x = ordered_apart ss o k mid c l in let y = ordered_full ss o k n in omega z)
            (λ c. let e : mid ≡ k = omega arith in subst (λ (j : ℕ). (get_or ss j no_stretch).from.0 <ℤ d) e h)

    pub begun_high : d ≤ℤ (get_or ss mid no_stretch).from.0 → Begun ss d low mid
    begun_high h = record { before = b.before; after = after }
      where
        after : (k : ℕ) → mid ≤ k → k < length ss → d ≤ℤ (get_or ss k no_stretch).from.0
        after k m n =
            below_cases mid k
            (λ c. let x = ordered_apart ss o mid k c n in let y = ordered_full ss o mid l in omega z)
            (λ c. let e : mid ≡ k = omega arith in subst (λ (j : ℕ). d ≤ℤ (get_or ss j no_stretch).from.0) e h)

  -- of the stretches that begin before d, all but the last end by then
  pub begun_past : Ordered ss → (n : ℕ) → n ≤ length ss → Begun ss d n n → (k : ℕ) → k < n - 1 → k < length ss → (get_or ss k no_stretch).to.0 ≤ℤ d
  begun_past o n m b k l h =
      let x = ordered_apart ss o k (n - 1) l (omega arith) in
      let y = b.before (n - 1) (omega arith) (omega arith) in
      omega z

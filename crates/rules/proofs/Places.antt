-- Places of a frame: what a test of every place says of each.
use mathlib.Core.Path.{◌≡◌, subst}
use Prim.Native.Nat.{ℕ, zero, suc, ◌+◌, ◌≤◌, ◌<◌}
use native.Mathlib.Omega.{arith}
use mathlib.Core.Bool.{Bool, true}
use lib.Dec.{ltb}
use borrow.Author.Tests.{ltb-true, ltb-false}
use Rattle.integers.specs.Tests.{all}
use Rattle.integers.proofs.Tests.{by_cases, and_first, and_second}
use Rattle.rules.specs.Frame.{Frame, resource_count, places_from, places}

module _ (p : ℕ → Bool) where
  from_out : (n k r : ℕ) → all p (places_from k n) ≡ true → k ≤ r → r < k + n → p r ≡ true
  unfolding all places_from
  from_out zero k r h a b = absurd (omega arith)
  from_out (suc n) k r h a b =
      by_cases (ltb k r)
      (λ e. from_out n (suc k) r (and_second (p k) (all p (places_from (suc k) n)) h) (ltb-true k r e) (omega arith))
      (λ e.
      let same : k ≡ r = omega (arith, ltb-false k r e) in
      subst (λ j. p j ≡ true) same (and_first (p k) (all p (places_from (suc k) n)) h))

  pub all_places : (f : Frame) (r : ℕ) → all p (places f) ≡ true → r < resource_count f → p r ≡ true
  unfolding places
  all_places f r h l = from_out (resource_count f) 0 r h (omega arith) (omega arith)

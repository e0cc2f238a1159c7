-- What one turn of the loop over the bands keeps: the keys written, joined to those of the bands left, are the answer; and the start likewise.
use mathlib.Core.Path.{◌≡◌, ap, ◌∙◌}
use mathlib.Core.List.{List, [], ◌++◌}
use Prim.Native.Nat.{ℕ, ◌+◌, ◌≤◌, ◌<◌}
use native.Mathlib.Numerals.{add-one}
use native.Mathlib.Omega.{arith}
use lib.Dec.{eqb}
use lib.IntN.{ℤ}
use lib.ListN.{length, take, drop, get_or, drop_of_length-le, length-append}
use lib.Seq.{drop-cons, length-take-le}
use lib.Signed.{le_z, lt_z}
use Rattle.integers.proofs.Tests.{if-case}
use Rattle.plan.specs.declared.Band.{Band}
use Rattle.rules.specs.Frame.{limit_from}
use Rattle.events.specs.Laid.{Laid}
use Rattle.events.proofs.Laid.{laid_more}
use Rattle.levels.specs.Levels.{band_key, band_events, limit_after, start_after, band_keys}

abbrev few : List ℕ → Type 0
few l = length l ≤ 1

pub events_few : (r : ℕ) (low high x : ℤ) (b : Band) → few (band_events r low high x b)
unfolding band_events band_key
events_few r low high x b =
    if-case few (eqb b.place r) _ _
    (λ _.
    if-case few (le_z b.from.0 low) _ _ (λ _. omega arith) (λ _. if-case few (lt_z b.from.0 high) _ _ (λ _. omega arith) (λ _. omega arith)))
    (λ _. omega arith)

module _ (r : ℕ) (low high : ℤ) (d : Band) (bs : List Band) (j : ℕ) (h : j < length bs) where
  -- the keys of band j behind those before it
  pub keys_more : (x : ℤ) (k l : List ℕ) (n m : ℕ) → Laid k l n m (band_events r low high x (get_or bs j d)) →
      take m l ++ band_keys r low high (limit_after r x (get_or bs j d)) (drop (j + 1) bs) ≡ take n k ++ band_keys r low high x (drop j bs)
  unfolding band_keys
  keys_more x k l n m p =
      laid_more k l n m (band_events r low high x (get_or bs j d)) (band_keys r low high (limit_after r x (get_or bs j d)) (drop (j + 1) bs)) p
      ∙ rw (add-one, drop-cons bs j d h)

  pub start_more : (x : ℤ) → limit_from r (start_after r low x (get_or bs j d)) (drop (j + 1) bs) low ≡ limit_from r x (drop j bs) low
  unfolding limit_from start_after
  start_more x = rw (add-one, drop-cons bs j d h)

module _ (r : ℕ) (low : ℤ) (bs : List Band) (j : ℕ) (h : length bs ≤ j) where
  pub keys_end : (high x : ℤ) → band_keys r low high x (drop j bs) ≡ []
  unfolding band_keys
  keys_end high x = rw (drop_of_length-le bs h)

  pub start_end : (x : ℤ) → limit_from r x (drop j bs) low ≡ x
  unfolding limit_from
  start_end x = rw (drop_of_length-le bs h)

-- what is laid, from the front alone
pub laid_front : {A : Type 0} (k l : List A) (n m : ℕ) (xs : List A) → n ≤ length k → m ≤ length l → take m l ≡ take n k ++ xs → Laid k l n m xs
laid_front k l n m xs g h e =
    record {
      many = omega (arith, length-take-le m l h, length-take-le n k g, ap length e, length-append (take n k) xs);
      front = e;
    }

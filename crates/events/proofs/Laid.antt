-- Laws of lists laid behind the first elements: nothing, one more, two in a row.
use mathlib.Core.Path.{◌≡◌, sym, ap, ◌∙◌}
use mathlib.Core.List.{List, [], ◌∷◌, ◌++◌, append_assoc, append-nil}
use Prim.Native.Nat.{ℕ, ◌+◌, ◌≤◌, ◌<◌}
use native.Mathlib.Numerals.{add-one}
use native.Mathlib.Omega.{arith}
use lib.ListN.{length, take, drop, set, length-set, length-append}
use lib.Seq.{take-suc-set, take_at, length-take-le}
use Rattle.events.specs.Laid.{Laid}

module _ {A : Type 0} where
  pub laid_none : (l : List A) (n : ℕ) → Laid l l n n []
  laid_none l n = record { many = omega arith; front = sym (append-nil (take n l)) }

  pub laid_one : (l : List A) (n : ℕ) (x : A) → n < length l → Laid l (set l n x) n (n + 1) (x ∷ [])
  laid_one l n x h = record { many = omega arith; front = rw add-one (take-suc-set l n x h) }

  pub laid_then : (k l m : List A) (a b c : ℕ) (xs ys : List A) → Laid k l a b xs → Laid l m b c ys → Laid k m a c (xs ++ ys)
  laid_then k l m a b c xs ys p q =
      record {
        many = omega (arith, p.many, q.many, length-append xs ys);
        front = q.front ∙ ap (λ (v : List A). v ++ ys) p.front ∙ append_assoc (take a k) xs ys;
      }

  pub laid_two : (l : List A) (n : ℕ) (x y : A) → n + 2 ≤ length l → Laid l (set (set l n x) (n + 1) y) n (n + 2) (x ∷ y ∷ [])
  laid_two l n x y h =
      let p = laid_one l n x (omega arith) in
      let q = laid_one (set l n x) (n + 1) y (simp length-set (omega arith)) in
      let e : (n + 1) + 1 ≡ n + 2 = omega arith in
      laid_then l (set l n x) (set (set l n x) (n + 1) y) n (n + 1) (n + 2) (x ∷ []) (y ∷ []) p (rw e at q)

  -- all that is there
  pub laid_all : (k l : List A) (m : ℕ) (xs : List A) → m ≤ length l → take m l ≡ xs → Laid k l 0 m xs
  laid_all k l m xs h e = record { many = omega (arith, length-take-le m l h, ap length e); front = e }

  -- in a loop: what is laid, joined to what is left
  pub laid_more : (k l : List A) (n m : ℕ) (xs ys : List A) → Laid k l n m xs → take m l ++ ys ≡ take n k ++ (xs ++ ys)
  laid_more k l n m xs ys p = ap (λ (v : List A). v ++ ys) p.front ∙ append_assoc (take n k) xs ys

  -- the front of a list that was lent and came back
  pub front : (k l : List A) (n : ℕ) → n ≤ length k → length l ≡ length (take n k) → take n (l ++ drop n k) ≡ l
  front k l n h e = take_at l (drop n k) n (e ∙ length-take-le n k h)

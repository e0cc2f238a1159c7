-- The least lies at or below a day where one of the numbers does, the greatest above it where one of them does.
use mathlib.Core.Path.{◌≡◌, ap, ◌∙◌}
use mathlib.Core.Bool.{Bool, false}
use mathlib.Core.List.{List, [], ◌∷◌}
use lib.IntN.{ℤ}
use lib.Signed.{le_z, lt_z}
use Rattle.integers.specs.Whole.{larger, smaller}
use Rattle.integers.specs.Tests.{or, any}
use Rattle.integers.specs.Least.{least_of, greatest_of}
use Rattle.integers.proofs.Tests.{by_cases, or_assoc}
use Rattle.integers.proofs.Z.{z, maxz, minz, le_z_in, le_z_out, lt_z_in, lt_z_out}

or_off : (a : Bool) → a ≡ or a false
or_off a = by_cases a (λ e. rw e) (λ e. rw e)

pub smaller_at : (a b i : ℤ) → le_z (smaller a b) i ≡ or (le_z a i) (le_z b i)
smaller_at a b i =
    by_cases (le_z a i) (λ e. rw (e, le_z_in (smaller a b) i (omega (z, minz a b))))
    (λ e.
    by_cases (le_z b i) (λ f. rw (e, f, le_z_in (smaller a b) i (omega (z, minz a b))))
    (λ f. rw (e, f, le_z_out (smaller a b) i (omega (z, minz a b)))))

pub larger_at : (a b i : ℤ) → lt_z i (larger a b) ≡ or (lt_z i a) (lt_z i b)
larger_at a b i =
    by_cases (lt_z i a) (λ e. rw (e, lt_z_in i (larger a b) (omega (z, maxz a b))))
    (λ e.
    by_cases (lt_z i b) (λ f. rw (e, f, lt_z_in i (larger a b) (omega (z, maxz a b))))
    (λ f. rw (e, f, lt_z_out i (larger a b) (omega (z, maxz a b)))))

module _ {A : Type 0} (g : A → ℤ) (i : ℤ) where
  pub least_at : (a : ℤ) (xs : List A) → le_z (least_of g a xs) i ≡ or (le_z a i) (any (λ x. le_z (g x) i) xs)
  unfolding least_of any
  least_at a [] = or_off (le_z a i)
  least_at a (x ∷ xs) =
      least_at (smaller a (g x)) xs
      ∙ ap (λ b. or b (any (λ x. le_z (g x) i) xs)) (smaller_at a (g x) i)
      ∙ or_assoc (le_z a i) (le_z (g x) i) (any (λ x. le_z (g x) i) xs)

  pub greatest_at : (a : ℤ) (xs : List A) → lt_z i (greatest_of g a xs) ≡ or (lt_z i a) (any (λ x. lt_z i (g x)) xs)
  unfolding greatest_of any
  greatest_at a [] = or_off (lt_z i a)
  greatest_at a (x ∷ xs) =
      greatest_at (larger a (g x)) xs
      ∙ ap (λ b. or b (any (λ x. lt_z i (g x)) xs)) (larger_at a (g x) i)
      ∙ or_assoc (lt_z i a) (lt_z i (g x)) (any (λ x. lt_z i (g x)) xs)

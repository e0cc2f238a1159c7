-- Laws of the tests: each test's cases, and what a test over a list says of its members.
use mathlib.Core.Path.{◌≡◌, refl, sym, ap, ◌∙◌}
use mathlib.Core.List.{List, [], ◌∷◌, ◌++◌, map}
use mathlib.Core.Bool.{Bool, true, false, not, true≢false}
use lib.Dec.{T}
use Rattle.integers.specs.Tests.{if, and, or, implies, filter, all, any}

-- ---- one test
pub clash {ℓ} : {P : Type ℓ} (b : Bool) → b ≡ true → b ≡ false → P
clash b p q = absurd (true≢false (sym p ∙ q))

pub by_cases {ℓ} : {P : Type ℓ} (b : Bool) → (b ≡ true → P) → (b ≡ false → P) → P
by_cases true f g = f refl
by_cases false f g = g refl

pub if-case {ℓ κ} : {A : Type ℓ} (P : A → Type κ) (b : Bool) (x y : A) → (b ≡ true → P x) → (b ≡ false → P y) → P (if b x y)
if-case P true x y f g = f refl
if-case P false x y f g = g refl

pub true_of : (b : Bool) → T b → b ≡ true
true_of true t = refl
true_of false t = absurd t

pub false_in : (b : Bool) → (b ≡ true → ⊥) → b ≡ false
false_in true f = absurd (f refl)
false_in false f = refl

pub same_test : (a b : Bool) → (a ≡ true → b ≡ true) → (b ≡ true → a ≡ true) → a ≡ b
same_test true b f g = sym (f refl)
same_test false true f g = g refl
same_test false false f g = refl

-- ---- not, and, or, implies
pub not_in : (b : Bool) → (b ≡ true → ⊥) → not b ≡ true
not_in true f = absurd (f refl)
not_in false f = refl

pub not_out : (b : Bool) → not b ≡ true → b ≡ false
not_out true h = sym h
not_out false h = refl

pub and_first : (a b : Bool) → and a b ≡ true → a ≡ true
and_first true b h = refl
and_first false b h = h

pub and_second : (a b : Bool) → and a b ≡ true → b ≡ true
and_second true b h = h
and_second false b h = clash false h refl

pub and_in : (a b : Bool) → a ≡ true → b ≡ true → and a b ≡ true
and_in a b p q = rw (p, q)

pub and_off : (a : Bool) → and a false ≡ false
and_off true = refl
and_off false = refl

pub and_on : (a : Bool) → and a true ≡ a
and_on true = refl
and_on false = refl

-- beside a test that holds, another may stand for one that is the same there
pub and_same : (a b c : Bool) → (a ≡ true → b ≡ c) → and a b ≡ and a c
and_same true b c f = f refl
and_same false b c f = refl

-- four tests joined, as of a task's four ranges
pub record Four (a b c d : Bool) : Type 0 where
  pub first : a ≡ true
  pub second : b ≡ true
  pub third : c ≡ true
  pub fourth : d ≡ true

pub four_is : (a b c d : Bool) → and a (and b (and c d)) ≡ true → Four a b c d
four_is a b c d h =
    let k = and_second a (and b (and c d)) h in
    let l = and_second b (and c d) k in
    record { first = and_first a (and b (and c d)) h; second = and_first b (and c d) k; third = and_first c d l; fourth = and_second c d l }

pub or_first : (a b : Bool) → a ≡ true → or a b ≡ true
or_first a b h = rw h

pub or_second : (a b : Bool) → b ≡ true → or a b ≡ true
or_second true b h = refl
or_second false b h = h

-- where the first of two fails, the second is the answer
pub or_left : (a b : Bool) → a ≡ false → or a b ≡ b
or_left a b h = rw h

-- where neither holds
pub or_none : (a b : Bool) → or a b ≡ false → (a ≡ false) × (b ≡ false)
or_none true b h = clash true refl h
or_none false b h = (refl, h)

pub or_assoc : (a b c : Bool) → or (or a b) c ≡ or a (or b c)
or_assoc true b c = refl
or_assoc false b c = refl

pub implies_in : (a b : Bool) → (a ≡ true → b ≡ true) → implies a b ≡ true
implies_in true b f = f refl
implies_in false b f = refl

pub implies_out : (a b : Bool) → implies a b ≡ true → a ≡ true → b ≡ true
implies_out true b h e = h
implies_out false b h e = clash false e refl

-- a test that follows from another adds nothing beside it
pub and_skip : (a b c : Bool) → (a ≡ true → c ≡ true → b ≡ true) → and a (and b c) ≡ and a c
and_skip true true c h = refl
and_skip true false true h = clash false (h refl refl) refl
and_skip true false false h = refl
and_skip false b c h = refl

pub and_follows : (a b : Bool) → (a ≡ true → b ≡ true) → a ≡ and b a
and_follows true b h = rw (h refl)
and_follows false true h = refl
and_follows false false h = refl

-- ---- all and any
module _ {A : Type 0} (p : A → Bool) where
  pub all_in : (xs : List A) → ((x : A) → p x ≡ true) → all p xs ≡ true
  unfolding all
  all_in [] f = refl
  all_in (x ∷ xs) f = and_in (p x) (all p xs) (f x) (all_in xs f)

  -- all pass where none fails
  pub all_fails : (xs : List A) → all p xs ≡ not (any (λ x. not (p x)) xs)
  unfolding all any
  all_fails [] = refl
  all_fails (x ∷ xs) = by_cases (p x) (λ e. rw e (all_fails xs)) (λ e. rw e)

  pub all_append : (xs ys : List A) → all p (xs ++ ys) ≡ and (all p xs) (all p ys)
  unfolding all
  all_append [] ys = refl
  all_append (x ∷ xs) ys = by_cases (p x) (λ e. rw e (all_append xs ys)) (λ e. rw e)

  pub any_out : (xs : List A) → any p xs ≡ true → (x : A) × (p x ≡ true)
  unfolding any
  any_out [] h = clash false h refl
  any_out (x ∷ xs) h = by_cases (p x) (λ e. (x, e)) (λ e. any_out xs (sym (or_left (p x) (any p xs) e) ∙ h))

  pub any_first : (x : A) (xs : List A) → p x ≡ true → any p (x ∷ xs) ≡ true
  unfolding any
  any_first x xs e = or_first (p x) (any p xs) e

  pub any_later : (x : A) (xs : List A) → any p xs ≡ true → any p (x ∷ xs) ≡ true
  unfolding any
  any_later x xs e = or_second (p x) (any p xs) e

  pub any_none : (xs : List A) → ((x : A) → p x ≡ true → ⊥) → any p xs ≡ false
  any_none xs f = false_in (any p xs) (λ h. let e = any_out xs h in f e.0 e.1)

module _ {A : Type 0} (p : A → Bool) where
  -- what all pass and one of them passes too
  pub all_any : (q : A → Bool) (xs : List A) → all p xs ≡ true → any q xs ≡ true → (x : A) × (p x ≡ true) × (q x ≡ true)
  unfolding all any
  all_any q [] h g = clash false g refl
  all_any q (x ∷ xs) h g =
      by_cases (q x) (λ e. (x, and_first (p x) (all p xs) h, e))
      (λ e. all_any q xs (and_second (p x) (all p xs) h) (sym (or_left (q x) (any q xs) e) ∙ g))

  pub not_any : (xs : List A) → any p xs ≡ false → all (λ x. not (p x)) xs ≡ true
  unfolding any all
  not_any [] h = refl
  not_any (x ∷ xs) h =
      by_cases (p x) (λ e. clash (or (p x) (any p xs)) (or_first (p x) (any p xs) e) h)
      (λ e. rw e (not_any xs (sym (or_left (p x) (any p xs) e) ∙ h)))

-- ---- filter
module _ {A : Type 0} where
  pub filter_append : (p : A → Bool) (xs ys : List A) → filter p (xs ++ ys) ≡ filter p xs ++ filter p ys
  unfolding filter
  filter_append p [] ys = refl
  filter_append p (x ∷ xs) ys =
      by_cases (p x) (λ e. rw e (ap (λ (l : List A). x ∷ l) (filter_append p xs ys))) (λ e. rw e (filter_append p xs ys))

  pub filter_same : (p q : A → Bool) → ((x : A) → p x ≡ q x) → (xs : List A) → filter p xs ≡ filter q xs
  unfolding filter
  filter_same p q h [] = refl
  filter_same p q h (x ∷ xs) = rw (h x, filter_same p q h xs)

  pub any_filter : (p q : A → Bool) (xs : List A) → any p (filter q xs) ≡ any (λ x. and (q x) (p x)) xs
  unfolding any filter
  any_filter p q [] = refl
  any_filter p q (x ∷ xs) = by_cases (q x) (λ e. rw e (ap (or (p x)) (any_filter p q xs))) (λ e. rw e (any_filter p q xs))

  pub filter_none : (p : A → Bool) → ((x : A) → p x ≡ false) → (xs : List A) → filter p xs ≡ []
  unfolding filter
  filter_none p h [] = refl
  filter_none p h (x ∷ xs) = rw (h x) (filter_none p h xs)

  pub filter_filter : (p q : A → Bool) (xs : List A) → filter p (filter q xs) ≡ filter (λ x. and (q x) (p x)) xs
  unfolding filter
  filter_filter p q [] = refl
  filter_filter p q (x ∷ xs) =
      by_cases (q x)
      (λ e. by_cases (p x) (λ f. rw (e, f) (ap (λ (l : List A). x ∷ l) (filter_filter p q xs))) (λ f. rw (e, f) (filter_filter p q xs)))
      (λ e. rw e (filter_filter p q xs))

pub filter_map : {A B : Type 0} (p : B → Bool) (g : A → B) (xs : List A) → filter p (map g xs) ≡ map g (filter (λ x. p (g x)) xs)
unfolding filter
filter_map p g [] = refl
filter_map {B} p g (x ∷ xs) =
    by_cases (p (g x)) (λ e. rw e (ap (λ (l : List B). g x ∷ l) (filter_map p g xs))) (λ e. rw e (filter_map p g xs))

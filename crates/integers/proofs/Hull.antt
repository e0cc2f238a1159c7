-- Laws of ranges: within its ends, equal to another, how wide; what the range left by a test is, for code (`left_is`, `left_none`) and for
-- soundness (`left_in`), that it lies inside the range that entered, and a test of every value.
use mathlib.Core.Path.{◌≡◌, refl, ap₂, subst}
use mathlib.Core.List.{◌∷◌}
use mathlib.Core.Bool.{Bool, true, false}
use Prim.Native.Nat.{ℕ, zero, suc, ◌≤◌}
use native.Mathlib.Omega.{arith}
use lib.IntN.{ℤ, pos, negsuc, suc_ℤ, ◌+ℤ◌, ◌-ℤ◌, nat_abs}
use lib.Signed.{le_z, lt_z, ◌≤ℤ◌, ◌<ℤ◌}
use Rattle.integers.specs.Whole.{eq_z}
use Rattle.integers.specs.Tests.{and, all, filter}
use Rattle.integers.specs.Hull.{Range, range, within, same_range, fits, Sub, width, up_from, count_of, values, last, Left, hull, left}
use Rattle.integers.specs.Hull.Left.{Nothing, Some}
use Rattle.integers.specs.Ends.{Within, InEnds}
use Rattle.integers.proofs.Z.{z, up, dn, +z, -z, sucz, le_z_in, eq_z_in, eq_z_is}
use Rattle.integers.proofs.Tests.{clash, by_cases, if-case, and_first, and_second, and_in}

-- ---- a value inside
pub within_is : (s : Range) (v : ℤ) → within s v ≡ true → Within s v
unfolding within
within_is s v h =
    let a : le_z s.low v ≡ true = and_first (le_z s.low v) (le_z v s.high) h in
    let b : le_z v s.high ≡ true = and_second (le_z s.low v) (le_z v s.high) h in
    omega z

pub within_in : (s : Range) (v : ℤ) → Within s v → within s v ≡ true
unfolding within
within_in s v h = and_in (le_z s.low v) (le_z v s.high) (le_z_in s.low v h.least) (le_z_in v s.high h.most)

-- ---- two ranges
pub same_range_self : (s : Range) → same_range s s ≡ true
unfolding same_range
same_range_self s = rw (eq_z_in s.low s.low refl, eq_z_in s.high s.high refl)

pub same_range_is : (a b : Range) → same_range a b ≡ true → a ≡ b
unfolding same_range
same_range_is a b h =
    ap₂ range (eq_z_is a.low b.low (and_first (eq_z a.low b.low) (eq_z a.high b.high) h))
    (eq_z_is a.high b.high (and_second (eq_z a.low b.low) (eq_z a.high b.high) h))

pub fits_is : (e s : Range) → fits e s ≡ true → InEnds e s
unfolding fits
fits_is e s h =
    let x = le_z e.low s.low in
    let y = le_z s.low s.high in
    let w = le_z s.high e.high in
    let p : x ≡ true = and_first x (and y w) h in
    let q : y ≡ true = and_first y w (and_second x (and y w) h) in
    let r : w ≡ true = and_second y w (and_second x (and y w) h) in
    omega z

pub fits_in : (e s : Range) → InEnds e s → fits e s ≡ true
unfolding fits
fits_in e s h = rw (le_z_in e.low s.low h.least, le_z_in s.low s.high h.rises, le_z_in s.high e.high h.most)

count_go : (s : Range) (v : ℤ) → Within s v → (d : ℤ) → s.high -ℤ s.low ≡ d → v <ℤ (s.low +ℤ pos (count_of d))
unfolding count_of
count_go s v h (pos n) e = omega (z, -z s.high s.low, +z s.low (pos (suc n)))
count_go s v h (negsuc n) e = absurd (omega (z, -z s.high s.low))

pub count_out : (s : Range) (v : ℤ) → Within s v → v <ℤ (s.low +ℤ pos (count_of (s.high -ℤ s.low)))
count_out s v h = count_go s v h (s.high -ℤ s.low) refl

back_go : (s : Range) (v d : ℤ) → s.high -ℤ s.low ≡ d → v <ℤ (s.low +ℤ pos (count_of d)) → s.low ≤ℤ v → v ≤ℤ s.high
unfolding count_of
back_go s v (pos n) e h g = omega (z, -z s.high s.low, +z s.low (pos (suc n)))
back_go s v (negsuc n) e h g = absurd (omega (z, +z s.low (pos 0)))

pub count_in : (s : Range) (v : ℤ) → v <ℤ (s.low +ℤ pos (count_of (s.high -ℤ s.low))) → s.low ≤ℤ v → v ≤ℤ s.high
count_in s v h g = back_go s v (s.high -ℤ s.low) refl h g

-- what is left is a range, and v lies in it
pub record Kept (v : ℤ) (l : Left) : Type 0 where
  pub range : Range
  pub is : l ≡ Some range
  pub within : Within range v

module _ (p : ℤ → Bool) where
  last_self : (n : ℕ) (x a : ℤ) → x ≤ℤ a → x ≤ℤ last x (filter p (up_from a n))
  unfolding last filter up_from
  last_self zero x a h = omega z
  last_self (suc n) x a h =
      if-case (λ l. x ≤ℤ last x l) (p a) (a ∷ filter p (up_from (suc_ℤ a) n)) (filter p (up_from (suc_ℤ a) n))
      (λ e. let k = last_self n a (suc_ℤ a) (omega (z, sucz a)) in omega z)
      (λ e. last_self n x (suc_ℤ a) (omega (z, sucz a)))

  last_in : (n : ℕ) (x a v : ℤ) → a ≤ℤ v → v <ℤ (a +ℤ pos n) → p v ≡ true → v ≤ℤ last x (filter p (up_from a n))
  unfolding last filter up_from
  last_in zero x a v h g k = absurd (omega (z, +z a (pos 0)))
  last_in (suc n) x a v h g k =
      by_cases (lt_z a v)
      (λ l.
      let f : (y : ℤ) → v ≤ℤ last y (filter p (up_from (suc_ℤ a) n)) =
      λ y. last_in n y (suc_ℤ a) v (omega (z, sucz a)) (omega (z, sucz a, +z a (pos (suc n)), +z (suc_ℤ a) (pos n))) k in
      if-case (λ l. v ≤ℤ last x l) (p a) (a ∷ filter p (up_from (suc_ℤ a) n)) (filter p (up_from (suc_ℤ a) n)) (λ e. f a) (λ e. f x))
      (λ l.
      let same : v ≡ a = omega z in
      if-case (λ l. v ≤ℤ last x l) (p a) (a ∷ filter p (up_from (suc_ℤ a) n)) (filter p (up_from (suc_ℤ a) n))
      (λ e. let k = last_self n a (suc_ℤ a) (omega (z, sucz a)) in omega z)
      (λ e. clash (p a) (subst (λ y. p y ≡ true) same k) e))

  hull_from : (n : ℕ) (a v : ℤ) → a ≤ℤ v → v <ℤ (a +ℤ pos n) → p v ≡ true → Kept v (hull (filter p (up_from a n)))
  unfolding hull filter up_from
  hull_from zero a v h g k = absurd (omega (z, +z a (pos 0)))
  hull_from (suc n) a v h g k =
      let rest = filter p (up_from (suc_ℤ a) n) in
      if-case (λ l. Kept v (hull l)) (p a) (a ∷ rest) rest
      (λ e. record { range = record { low = a; high = last a rest }; is = refl; within = record { least = h; most = in_rest e } })
      (λ e.
      let more : a <ℤ v = by_cases (lt_z a v) (λ l. omega z) (λ l. let same : v ≡ a = omega z in clash (p a) (subst (λ y. p y ≡ true) same k) e) in
      hull_from n (suc_ℤ a) v (omega (z, sucz a)) (omega (z, sucz a, +z a (pos (suc n)), +z (suc_ℤ a) (pos n))) k)
    where
      in_rest : p a ≡ true → v ≤ℤ last a (filter p (up_from (suc_ℤ a) n))
      in_rest e =
          by_cases (lt_z a v)
          (λ l. last_in n a (suc_ℤ a) v (omega (z, sucz a)) (omega (z, sucz a, +z a (pos (suc n)), +z (suc_ℤ a) (pos n))) k)
          (λ l. let q = last_self n a (suc_ℤ a) (omega (z, sucz a)) in omega z)

  -- a value of the range that the test keeps stands in the range left
  pub left_in : (s : Range) (v : ℤ) → Within s v → p v ≡ true → Kept v (left p s)
  unfolding left values
  left_in s v h k = hull_from (count_of (s.high -ℤ s.low)) s.low v h.least (count_out s v h) k

-- ---- a test of every value of a range
module _ (p : ℤ → Bool) where
  all_out : (n : ℕ) (a v : ℤ) → all p (up_from a n) ≡ true → a ≤ℤ v → v <ℤ (a +ℤ pos n) → p v ≡ true
  unfolding all up_from
  all_out zero a v k h g = absurd (omega (z, +z a (pos 0)))
  all_out (suc n) a v k h g =
      by_cases (lt_z a v)
      (λ l.
      all_out n (suc_ℤ a) v (and_second (p a) (all p (up_from (suc_ℤ a) n)) k) (omega (z, sucz a))
      (omega (z, sucz a, +z a (pos (suc n)), +z (suc_ℤ a) (pos n))))
      (λ l. let same : a ≡ v = omega z in subst (λ y. p y ≡ true) same (and_first (p a) (all p (up_from (suc_ℤ a) n)) k))

  pub values_out : (s : Range) (v : ℤ) → all p (values s) ≡ true → Within s v → p v ≡ true
  unfolding values
  values_out s v k h = all_out (count_of (s.high -ℤ s.low)) s.low v k h.least (count_out s v h)

  all_into : (n : ℕ) (a : ℤ) → ((v : ℤ) → a ≤ℤ v → v <ℤ (a +ℤ pos n) → p v ≡ true) → all p (up_from a n) ≡ true
  unfolding all up_from
  all_into zero a f = refl
  all_into (suc n) a f =
      and_in (p a) (all p (up_from (suc_ℤ a) n)) (f a (omega z) (omega (z, +z a (pos (suc n)))))
      (all_into n (suc_ℤ a) λ v h g. f v (omega (z, sucz a)) (omega (z, sucz a, +z a (pos (suc n)), +z (suc_ℤ a) (pos n))))

  pub values_in : (s : Range) → ((v : ℤ) → Within s v → p v ≡ true) → all p (values s) ≡ true
  unfolding values
  values_in s f = all_into (count_of (s.high -ℤ s.low)) s.low λ v h g. f v (record { least = h; most = count_in s v g h })

-- ---- what is left lies in the range
abbrev pub LeftSub : Range → Left → Type 0
LeftSub s Nothing = Unit {0}
LeftSub s (Some s') = Sub s' s

abbrev Bounds : ℤ → ℤ → Left → Type 0
Bounds a b Nothing = Unit {0}
Bounds a b (Some s) = (a ≤ℤ s.low) × (s.low ≤ℤ s.high) × (s.high <ℤ b)

wider : (a a' b : ℤ) → a ≤ℤ a' → (l : Left) → Bounds a' b l → Bounds a b l
wider a a' b h Nothing g = tt
wider a a' b h (Some s) g = (omega z, g.1, g.2)

module _ (p : ℤ → Bool) where
  last_below : (n : ℕ) (x a b : ℤ) → x <ℤ b → (a +ℤ pos n) ≤ℤ b → last x (filter p (up_from a n)) <ℤ b
  unfolding last filter up_from
  last_below zero x a b h g = h
  last_below (suc n) x a b h g =
      let m : (suc_ℤ a +ℤ pos n) ≤ℤ b = omega (z, sucz a, +z a (pos (suc n)), +z (suc_ℤ a) (pos n)) in
      if-case (λ l. last x l <ℤ b) (p a) (a ∷ filter p (up_from (suc_ℤ a) n)) (filter p (up_from (suc_ℤ a) n))
      (λ e. last_below n a (suc_ℤ a) b (omega (z, +z a (pos (suc n)))) m)
      (λ e. last_below n x (suc_ℤ a) b h m)

  hull_bounds : (n : ℕ) (a b : ℤ) → (a +ℤ pos n) ≤ℤ b → Bounds a b (hull (filter p (up_from a n)))
  unfolding hull filter up_from
  hull_bounds zero a b g = tt
  hull_bounds (suc n) a b g =
      let m : (suc_ℤ a +ℤ pos n) ≤ℤ b = omega (z, sucz a, +z a (pos (suc n)), +z (suc_ℤ a) (pos n)) in
      if-case (λ l. Bounds a b (hull l)) (p a) (a ∷ filter p (up_from (suc_ℤ a) n)) (filter p (up_from (suc_ℤ a) n))
      (λ e. (omega z, last_self p n a (suc_ℤ a) (omega (z, sucz a)), last_below n a (suc_ℤ a) b (omega (z, +z a (pos (suc n)))) m))
      (λ e. wider a (suc_ℤ a) b (omega (z, sucz a)) (hull (filter p (up_from (suc_ℤ a) n))) (hull_bounds n (suc_ℤ a) b m))

  bounds_sub : (s : Range) (l : Left) → Bounds s.low (s.low +ℤ pos (count_of (s.high -ℤ s.low))) l → LeftSub s l
  bounds_sub s Nothing g = tt
  bounds_sub s (Some s') g = record { above = g.0; below = count_in s s'.high g.2 (omega z) }

  pub left_sub : (s : Range) → LeftSub s (left p s)
  unfolding left values
  left_sub s =
      bounds_sub s (hull (filter p (up_from s.low (count_of (s.high -ℤ s.low)))))
      (hull_bounds (count_of (s.high -ℤ s.low)) s.low (s.low +ℤ pos (count_of (s.high -ℤ s.low))) (omega z))

-- ---- what is left, settled: for the proofs of code
abbrev Ends : (ℤ → Bool) → Left → Type 0
Ends p Nothing = Unit {0}
Ends p (Some s) = (p s.low ≡ true) × (p s.high ≡ true)

module _ (p : ℤ → Bool) where
  last_kept : (n : ℕ) (x a : ℤ) → p x ≡ true → p (last x (filter p (up_from a n))) ≡ true
  unfolding last filter up_from
  last_kept zero x a h = h
  last_kept (suc n) x a h =
      if-case (λ l. p (last x l) ≡ true) (p a) (a ∷ filter p (up_from (suc_ℤ a) n)) (filter p (up_from (suc_ℤ a) n))
      (λ e. last_kept n a (suc_ℤ a) e) (λ e. last_kept n x (suc_ℤ a) h)

  hull_ends : (n : ℕ) (a : ℤ) → Ends p (hull (filter p (up_from a n)))
  unfolding hull filter up_from
  hull_ends zero a = tt
  hull_ends (suc n) a =
      if-case (λ l. Ends p (hull l)) (p a) (a ∷ filter p (up_from (suc_ℤ a) n)) (filter p (up_from (suc_ℤ a) n))
      (λ e. (e, last_kept n a (suc_ℤ a) e)) (λ e. hull_ends n (suc_ℤ a))

  left_ends : (s : Range) → Ends p (left p s)
  unfolding left values
  left_ends s = hull_ends (count_of (s.high -ℤ s.low)) s.low

  is_some : (s : Range) (v w : ℤ) → Within s v → Within s w → p v ≡ true → p w ≡ true → ((u : ℤ) → Within s u → p u ≡ true → (v ≤ℤ u) × (u ≤ℤ w)) → (l : Left) → LeftSub s l → Ends p l → Kept v l → Kept w l → l ≡ Some (record { low = v; high = w })
  is_some s v w iv iw pv pw all_between Nothing sub ends kv kw = let q : ◌≡◌ {A = ℕ} 0 1 = cc kv.is in absurd (omega arith)
  is_some s v w iv iw pv pw all_between (Some s') sub ends kv kw =
      let e : kv.range ≡ s' = cc kv.is in
      let f : kw.range ≡ s' = cc kw.is in
      let a : Within s' v = subst (λ x. Within x v) e kv.within in
      let b : Within s' w = subst (λ x. Within x w) f kw.within in
      let c = all_between s'.low (omega z) ends.0 in
      let d = all_between s'.high (omega z) ends.1 in
      let g : s'.low ≡ v = omega z in
      let h : s'.high ≡ w = omega z in
      ap₂ (λ (x y : ℤ). Some (record { low = x; high = y })) g h

  -- v and w are kept, and every value kept lies between them
  pub left_is : (s : Range) (v w : ℤ) → Within s v → Within s w → p v ≡ true → p w ≡ true → ((u : ℤ) → Within s u → p u ≡ true → (v ≤ℤ u) × (u ≤ℤ w)) → left p s ≡ Some (record { low = v; high = w })
  left_is s v w iv iw pv pw f = is_some s v w iv iw pv pw f (left p s) (left_sub p s) (left_ends s) (left_in p s v iv pv) (left_in p s w iw pw)

  none_from : (n : ℕ) (a : ℤ) → ((v : ℤ) → a ≤ℤ v → v <ℤ (a +ℤ pos n) → p v ≡ false) → hull (filter p (up_from a n)) ≡ Nothing
  unfolding hull filter up_from
  none_from zero a f = refl
  none_from (suc n) a f =
      rw (f a (omega z) (omega (z, +z a (pos (suc n)))))
      (none_from n (suc_ℤ a) (λ v h g. f v (omega (z, sucz a)) (omega (z, sucz a, +z a (pos (suc n)), +z (suc_ℤ a) (pos n)))))

  -- no value is kept
  pub left_none : (s : Range) → ((v : ℤ) → Within s v → p v ≡ false) → left p s ≡ Nothing
  unfolding left values
  left_none s f =
      none_from (count_of (s.high -ℤ s.low)) s.low (λ v h g. f v (record { least = h; most = count_in s v g h }))

-- ---- what is left is not empty
abbrev pub LeftFull : Left → Type 0
LeftFull Nothing = Unit {0}
LeftFull (Some s) = s.low ≤ℤ s.high

full_of : (a b : ℤ) (l : Left) → Bounds a b l → LeftFull l
full_of a b Nothing g = tt
full_of a b (Some s) g = g.1

pub left_full : (p : ℤ → Bool) (s : Range) → LeftFull (left p s)
unfolding left values
left_full p s =
    let n = count_of (s.high -ℤ s.low) in
    full_of s.low (s.low +ℤ pos n) (hull (filter p (up_from s.low n))) (hull_bounds p n s.low (s.low +ℤ pos n) (omega z))

-- ---- how far apart the ends of a range are
pub abs_up : (d : ℤ) → pos 0 ≤ℤ d → (nat_abs d ≡ up d) × (dn d ≡ 0)
abs_up (pos n) h = (refl, refl)
abs_up (negsuc n) h = absurd (omega z)

width_up : (s : Range) → s.low ≤ℤ s.high → (width s ≡ up (s.high -ℤ s.low)) × (dn (s.high -ℤ s.low) ≡ 0)
unfolding width
width_up s h = abs_up (s.high -ℤ s.low) (omega (z, -z s.high s.low))

pub width_le : (s' s : Range) → Sub s' s → s'.low ≤ℤ s'.high → width s' ≤ width s
width_le s' s h f =
    let a = width_up s' f in
    let b = width_up s (omega z) in
    omega (z, -z s'.high s'.low, -z s.high s.low)

pub width_same : (s' s : Range) → Sub s' s → s'.low ≤ℤ s'.high → width s ≤ width s' → s' ≡ s
width_same s' s h f g =
    let a = width_up s' f in
    let b = width_up s (omega z) in
    let c : s'.low ≡ s.low = omega (z, -z s'.high s'.low, -z s.high s.low) in
    let d : s'.high ≡ s.high = omega (z, -z s'.high s'.low, -z s.high s.low) in
    ap₂ range c d

-- a range within its ends is at most as wide as they are apart
pub width_most : (e s : Range) (most : ℕ) → (e.high -ℤ e.low) ≤ℤ pos most → InEnds e s → width s ≤ most
width_most e s most l h =
    let a = width_up s h.rises in
    omega (z, -z s.high s.low, -z e.high e.low)

-- ---- a smaller range with a stricter test leaves less
abbrev pub LeftBelow : Left → Left → Type 0
LeftBelow Nothing l = Unit {0}
LeftBelow (Some a) Nothing = ⊥
LeftBelow (Some a) (Some b) = Sub a b

below_some : (a : Range) (l : Left) → Kept a.low l → Kept a.high l → LeftBelow (Some a) l
below_some a Nothing h g = let q : ◌≡◌ {A = ℕ} 0 1 = cc h.is in omega arith
below_some a (Some b) h g =
    let e : h.range ≡ b = cc h.is in
    let f : g.range ≡ b = cc g.is in
    let x : Within b a.low = subst (λ s. Within s a.low) e h.within in
    let y : Within b a.high = subst (λ s. Within s a.high) f g.within in
    omega z

pub left_below : (p' p : ℤ → Bool) (s' s : Range) → Sub s' s → ((v : ℤ) → Within s' v → p' v ≡ true → p v ≡ true) → LeftBelow (left p' s') (left p s)
left_below p' p s' s h f = go (left p' s') (left_sub p' s') (left_ends p' s') (left_full p' s')
  where
    go : (l : Left) → LeftSub s' l → Ends p' l → LeftFull l → LeftBelow l (left p s)
    go Nothing a b c = tt
    go (Some x) a b c =
        below_some x (left p s)
        (left_in p s x.low (omega z) (f x.low (omega z) b.0))
        (left_in p s x.high (omega z) (f x.high (omega z) b.1))

-- Linear arithmetic on whole numbers for `omega`, which reads naturals only: a is `up a` less `dn a`, one of the two 0.
-- A goal of sums, differences, orders and bounds is `omega (z, ..)` with one law listed for each sum (`+z`), difference (`-z`),
-- negation (`~z`), larger (`maxz`) and smaller (`minz`) in it.
use mathlib.Core.Path.{◌≡◌, refl, sym, ap, subst}
use mathlib.Core.Bool.{Bool, true, false, not, cond}
use Prim.Native.Nat.{ℕ, zero, suc, ◌+◌, ◌-◌, ◌^◌, ◌≤◌, ◌<◌, max, min}
use native.Mathlib.Omega.{arith}
use lib.Dec.{T, ltb, ltb→lt, nltb→le, leb→le, nleb→lt, lt→ltb, le→leb, eqb→eq, eqb_refl}
use lib.IntN.{ℤ, pos, negsuc, neg_ℤ, ◌+ℤ◌, ◌-ℤ◌, sub_ℕ, suc_ℤ, pred_ℤ}
use lib.Signed.{mag, lt_z, le_z, ◌≤ℤ◌, ◌<ℤ◌}
use mir.Syntax.{Width}
use mir.Val.{SFits, hbits, to_z, of_z}
use mir.ValLaws.{to_z-of_z}
use Rattle.integers.specs.Whole.{larger, smaller, eq_z}
use Rattle.integers.proofs.Tests.{true_of, false_in}

-- the part above 0, and the part below
abbrev pub up : ℤ → ℕ
up (pos n) = n
up (negsuc n) = 0

abbrev pub dn : ℤ → ℕ
dn (pos n) = 0
dn (negsuc n) = suc n

cond_ind : (c : Bool) (x y : ℤ) (P : ℤ → Type 0) → (T c → P x) → (T (not c) → P y) → P (cond c x y)
cond_ind true x y P f g = f tt
cond_ind false x y P f g = g tt

sub_law : (a b : ℕ) → up (sub_ℕ a b) + b ≡ a + dn (sub_ℕ a b)
sub_law a b =
    cond_ind (ltb a b) (negsuc (b - suc a)) (pos (a - b)) (λ z. up z + b ≡ a + dn z)
    (λ t. let h : a < b = ltb→lt a b t in omega arith)
    (λ t. let h : b ≤ a = nltb→le a b t in omega arith)

pub +z : (a b : ℤ) → up (a +ℤ b) + dn a + dn b ≡ up a + up b + dn (a +ℤ b)
+z (pos a) (pos b) = omega arith
+z (pos a) (negsuc b) = omega (arith, sub_law a (suc b))
+z (negsuc a) (pos b) = omega (arith, sub_law b (suc a))
+z (negsuc a) (negsuc b) = omega arith

neg_up : (a : ℤ) → up (neg_ℤ a) ≡ dn a
neg_up (pos zero) = refl
neg_up (pos (suc n)) = refl
neg_up (negsuc n) = refl

neg_dn : (a : ℤ) → dn (neg_ℤ a) ≡ up a
neg_dn (pos zero) = refl
neg_dn (pos (suc n)) = refl
neg_dn (negsuc n) = refl

pub ~z : (a : ℤ) → up (neg_ℤ a) + up a ≡ dn a + dn (neg_ℤ a)
~z a = omega (arith, neg_up a, neg_dn a)

pub -z : (a b : ℤ) → up (a -ℤ b) + dn a + up b ≡ up a + dn b + dn (a -ℤ b)
-z a b = omega (arith, +z a (neg_ℤ b), neg_up b, neg_dn b)

-- ---- what an order, an equation or a range says of the parts, and back
le_o : (a b : ℤ) → T (le_z a b) → up a + dn b ≤ up b + dn a
le_o (pos a) (pos b) t = omega (arith, leb→le a b t)
le_o (pos a) (negsuc b) t = absurd t
le_o (negsuc a) (pos b) t = omega arith
le_o (negsuc a) (negsuc b) t = omega (arith, leb→le b a t)

lt_o : (a b : ℤ) → T (lt_z a b) → up a + dn b < up b + dn a
lt_o (pos a) (pos b) t = omega (arith, ltb→lt a b t)
lt_o (pos a) (negsuc b) t = absurd t
lt_o (negsuc a) (pos b) t = omega arith
lt_o (negsuc a) (negsuc b) t = omega (arith, ltb→lt b a t)

le_i : (a b : ℤ) → up a + dn b ≤ up b + dn a → T (le_z a b)
le_i (pos a) (pos b) h = le→leb a b (omega arith)
le_i (pos a) (negsuc b) h = absurd (no a b h)
  where
    no : (a b : ℕ) → a + suc b ≤ 0 + 0 → ⊥
    no a b h = omega arith
le_i (negsuc a) (pos b) h = tt
le_i (negsuc a) (negsuc b) h = le→leb b a (omega arith)

lt_i : (a b : ℤ) → up a + dn b < up b + dn a → T (lt_z a b)
lt_i (pos a) (pos b) h = lt→ltb a b (omega arith)
lt_i (pos a) (negsuc b) h = absurd (no a b h)
  where
    no : (a b : ℕ) → a + suc b < 0 + 0 → ⊥
    no a b h = omega arith
lt_i (negsuc a) (pos b) h = tt
lt_i (negsuc a) (negsuc b) h = lt→ltb b a (omega arith)

eq_i : (a b : ℤ) → up a + dn b ≡ up b + dn a → a ≡ b
eq_i (pos a) (pos b) h = ap pos (omega arith)
eq_i (pos a) (negsuc b) h = absurd (no a b h)
  where
    no : (a b : ℕ) → a + suc b ≡ 0 + 0 → ⊥
    no a b h = omega arith
eq_i (negsuc a) (pos b) h = absurd (no a b h)
  where
    no : (a b : ℕ) → 0 + 0 ≡ b + suc a → ⊥
    no a b h = omega arith
eq_i (negsuc a) (negsuc b) h = ap negsuc (omega arith)

pub le_out : (a b : ℤ) → a ≤ℤ b → up a + dn b ≤ up b + dn a
le_out a b h = le_o a b h.le

pub le_in : (a b : ℤ) → up a + dn b ≤ up b + dn a → a ≤ℤ b
le_in a b h = record { le = le_i a b h }

pub lt_out : (a b : ℤ) → a <ℤ b → up a + dn b < up b + dn a
lt_out a b h = lt_o a b h.lt

pub lt_in : (a b : ℤ) → up a + dn b < up b + dn a → a <ℤ b
lt_in a b h = record { lt = lt_i a b h }

pub eq_out : (a b : ℤ) → a ≡ b → up a + dn b ≡ up b + dn a
eq_out a b h = subst (λ z. up a + dn z ≡ up z + dn a) h refl

pub eq_in : (a b : ℤ) → up a + dn b ≡ up b + dn a → a ≡ b
eq_in = eq_i

T_true : (b : Bool) → b ≡ true → T b
T_true b e = subst T (sym e) tt

T_false : (b : Bool) → b ≡ false → T (not b)
T_false b e = subst (λ x. T (not x)) (sym e) tt

nlt_o : (a b : ℤ) → T (not (lt_z a b)) → up b + dn a ≤ up a + dn b
nlt_o (pos a) (pos b) t = omega (arith, nltb→le a b t)
nlt_o (pos a) (negsuc b) t = omega arith
nlt_o (negsuc a) (pos b) t = absurd t
nlt_o (negsuc a) (negsuc b) t = omega (arith, nltb→le b a t)

nle_o : (a b : ℤ) → T (not (le_z a b)) → up b + dn a < up a + dn b
nle_o (pos a) (pos b) t = omega (arith, nleb→lt a b t)
nle_o (pos a) (negsuc b) t = omega arith
nle_o (negsuc a) (pos b) t = absurd t
nle_o (negsuc a) (negsuc b) t = omega (arith, nleb→lt b a t)

pub lt_z_true : (a b : ℤ) → lt_z a b ≡ true → up a + dn b < up b + dn a
lt_z_true a b e = lt_o a b (T_true (lt_z a b) e)

pub lt_z_false : (a b : ℤ) → lt_z a b ≡ false → up b + dn a ≤ up a + dn b
lt_z_false a b e = nlt_o a b (T_false (lt_z a b) e)

pub le_z_true : (a b : ℤ) → le_z a b ≡ true → up a + dn b ≤ up b + dn a
le_z_true a b e = le_o a b (T_true (le_z a b) e)

pub le_z_false : (a b : ℤ) → le_z a b ≡ false → up b + dn a < up a + dn b
le_z_false a b e = nle_o a b (T_false (le_z a b) e)

pub sfits_in : (w : Width) (z : ℤ) → max (up z + up z + 1) (dn z + dn z) ≤ 2 ^ hbits w + up z + dn z → SFits w z
sfits_in w (pos n) h = record { sfits = omega arith }
sfits_in w (negsuc n) h = record { sfits = omega arith }

-- ---- the test of equality
eq_o : (a b : ℤ) → T (eq_z a b) → a ≡ b
eq_o (pos a) (pos b) t = ap pos (eqb→eq a b t)
eq_o (pos a) (negsuc b) t = absurd t
eq_o (negsuc a) (pos b) t = absurd t
eq_o (negsuc a) (negsuc b) t = ap negsuc (eqb→eq a b t)

eq_t : (a : ℤ) → T (eq_z a a)
eq_t (pos a) = eqb_refl a
eq_t (negsuc a) = eqb_refl a

pub eq_z_true : (a b : ℤ) → eq_z a b ≡ true → up a + dn b ≡ up b + dn a
eq_z_true a b e = subst (λ y. up a + dn y ≡ up y + dn a) (eq_o a b (subst T (sym e) tt)) refl

-- ---- the larger and the smaller of two
pub maxz : (a b : ℤ) → up (larger a b) + dn a + dn b ≡ max (up a + dn b) (up b + dn a) + dn (larger a b)
maxz a b =
    cond_ind (lt_z a b) b a (λ z. up z + dn a + dn b ≡ max (up a + dn b) (up b + dn a) + dn z)
    (λ t. omega (arith, lt_o a b t))
    (λ t. omega (arith, nlt_o a b t))

pub minz : (a b : ℤ) → up (smaller a b) + dn a + dn b ≡ min (up a + dn b) (up b + dn a) + dn (smaller a b)
minz a b =
    cond_ind (lt_z b a) b a (λ z. up z + dn a + dn b ≡ min (up a + dn b) (up b + dn a) + dn z)
    (λ t. omega (arith, lt_o b a t))
    (λ t. omega (arith, nlt_o b a t))

-- ---- a number that fits is read back from its bits
pub round : (w : Width) (z : ℤ) → SFits w z → up (to_z w (of_z w z)) + dn z ≡ up z + dn (to_z w (of_z w z))
round w z f = subst (λ y. up y + dn z ≡ up z + dn y) (sym (to_z-of_z w z f)) refl

pub back : (w : Width) (z : ℤ) → mag z < 2 ^ hbits w → to_z w (of_z w z) ≡ z
back w z h = to_z-of_z w z (record { sfits = h })

-- ---- one more, one less
pub sucz : (a : ℤ) → up (suc_ℤ a) + dn a ≡ up a + 1 + dn (suc_ℤ a)
sucz (pos n) = omega arith
sucz (negsuc zero) = omega arith
sucz (negsuc (suc n)) = omega arith

pub predz : (a : ℤ) → up (pred_ℤ a) + dn a + 1 ≡ up a + dn (pred_ℤ a)
predz (pos zero) = omega arith
predz (pos (suc n)) = omega arith
predz (negsuc n) = omega arith

-- ---- tests from orders
pub le_z_in : (a b : ℤ) → a ≤ℤ b → le_z a b ≡ true
le_z_in a b h = true_of (le_z a b) h.le

pub lt_z_in : (a b : ℤ) → a <ℤ b → lt_z a b ≡ true
lt_z_in a b h = true_of (lt_z a b) h.lt

pub le_z_out : (a b : ℤ) → b <ℤ a → le_z a b ≡ false
le_z_out a b h = false_in (le_z a b) (λ e. let l = le_z_true a b e in let m = lt_out b a h in omega arith)

pub lt_z_out : (a b : ℤ) → b ≤ℤ a → lt_z a b ≡ false
lt_z_out a b h = false_in (lt_z a b) (λ e. let l = lt_z_true a b e in let m = le_out b a h in omega arith)

pub eq_z_in : (a b : ℤ) → a ≡ b → eq_z a b ≡ true
eq_z_in a b e = subst (λ x. eq_z a x ≡ true) e (true_of (eq_z a a) (eq_t a))

pub eq_z_is : (a b : ℤ) → eq_z a b ≡ true → a ≡ b
eq_z_is a b e = eq_o a b (T_true (eq_z a b) e)

pub negneg : (a : ℤ) → neg_ℤ (neg_ℤ a) ≡ a
negneg (pos zero) = refl
negneg (pos (suc n)) = refl
negneg (negsuc n) = refl

-- ---- the rules that read each kind of fact, both ways
pub ruleset z = (arith, le_out, lt_out, eq_out, le_in, lt_in, eq_in, lt_z_true, lt_z_false, le_z_true, le_z_false, sfits_in, round)

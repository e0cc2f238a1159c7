-- What the entry checks say of an accepted list of bands: few, each within its ends, those of each place in rising days; and laws of the
-- limit of a day.
use Rattle.plan.specs.Refusals.{Checked, accepted}
use mathlib.Core.Path.{◌≡◌, refl, sym, ap, ◌∙◌}
use mathlib.Core.Bool.{Bool, true, false}
use mathlib.Core.List.{List, [], ◌∷◌, map}
use Prim.Native.Nat.{ℕ, suc, ◌+◌, ◌≤◌, ◌<◌}
use native.Mathlib.Omega.{arith}
use lib.Dec.{eqb, ltb}
use lib.IntN.{ℤ, neg_ℤ}
use lib.ListN.{length}
use lib.Signed.{lt_z, ◌≤ℤ◌, ◌<ℤ◌}
use borrow.Author.Tests.{ltb-true, ltb-false}
use Rattle.integers.specs.Tests.{if, and, all}
use Rattle.integers.specs.Hull.{within}
use Rattle.integers.specs.Ends.{Within}
use Rattle.integers.proofs.Z.{z, le_z_out}
use Rattle.integers.proofs.Tests.{clash, by_cases, if-case, and_first, and_second, and_in, or_left, false_in}
use Rattle.integers.proofs.Hull.{within_is}
use Rattle.plan.specs.declared.Band.{Band}
use Rattle.plan.specs.declared.Resource.{Resource}
use Rattle.plan.specs.declared.Sense.{Sense}
use Rattle.plan.specs.Days.{day_ends}
use Rattle.plan.specs.Powers.{power_ends}
use Rattle.plan.specs.Tasks.{most_bands}
use Rattle.plan.proofs.Sets.{eqb_true, eqb_in}
use Rattle.rules.specs.Frame.{unbanded, resource_at, stands, limit_from, limit_on}
use Rattle.rules.specs.Calls.{earlier, band_ends, band_fits, band_unless, bands_after, bands_fit}
use Rattle.rules.specs.Rises.{Rises, early, Banded}
use Rattle.rules.specs.Negation.{negated_band}

-- ---- one after the other
next_test : (t : Bool) (k : ℕ) (c : Checked) → band_unless t k c ≡ accepted → t ≡ true
next_test true k c h = refl
next_test false k c h = let q : ◌≡◌ {A = ℕ} 0 1 = cc (h) in absurd (omega arith)

next_rest : (t : Bool) (k : ℕ) (c : Checked) → band_unless t k c ≡ accepted → c ≡ accepted
next_rest true k c h = h
next_rest false k c h = let q : ◌≡◌ {A = ℕ} 0 1 = cc (h) in absurd (omega arith)

-- what the test of a band beside the one before it says
pub record After (n k : ℕ) (a b : Band) (bs : List Band) : Type 0 where
  pub few : k < most_bands
  pub order : earlier a b ≡ true
  pub fits : band_fits n b ≡ true
  pub rest : bands_after n (suc k) b bs ≡ accepted

pub after_is : (n k : ℕ) (a b : Band) (bs : List Band) → bands_after n k a (b ∷ bs) ≡ accepted → After n k a b bs
unfolding bands_after
after_is n k a b bs h =
    let x = ltb k most_bands in
    let y = and (earlier a b) (band_fits n b) in
    let t = next_test (and x y) k (bands_after n (suc k) b bs) h in
    record {
      few = ltb-true k most_bands (and_first x y t);
      order = and_first (earlier a b) (band_fits n b) (and_second x y t);
      fits = and_second (earlier a b) (band_fits n b) (and_second x y t);
      rest = next_rest (and x y) k (bands_after n (suc k) b bs) h;
    }

-- ---- the ends
pub record BandIn (b : Band) : Type 0 where
  pub day : Within day_ends b.from.0
  pub limit : Within power_ends b.limit.0

pub ends_in : (b : Band) → band_ends b ≡ true → BandIn b
unfolding band_ends
ends_in b h =
    let x = within day_ends b.from.0 in
    let y = within power_ends b.limit.0 in
    record { day = within_is day_ends b.from.0 (and_first x y h); limit = within_is power_ends b.limit.0 (and_second x y h) }

pub fits_ends : (n : ℕ) (b : Band) → band_fits n b ≡ true → band_ends b ≡ true
unfolding band_fits
fits_ends n b h = and_second (ltb b.place n) (band_ends b) h

pub fits_place : (n : ℕ) (b : Band) → band_fits n b ≡ true → b.place < n
unfolding band_fits
fits_place n b h = ltb-true b.place n (and_first (ltb b.place n) (band_ends b) h)

fits_in : (n : ℕ) (b : Band) → band_fits n b ≡ true → BandIn b
fits_in n b h = ends_in b (fits_ends n b h)

-- ---- order
order_place : (a b : Band) → earlier a b ≡ true → a.place ≤ b.place
order_place a b h =
    by_cases (ltb a.place b.place)
    (λ e. let l = ltb-true a.place b.place e in omega arith)
    (λ e.
    let g = sym (or_left (ltb a.place b.place) (and (eqb a.place b.place) (lt_z a.from.0 b.from.0)) e) ∙ h in
    let q = eqb_true a.place b.place (and_first (eqb a.place b.place) (lt_z a.from.0 b.from.0) g) in
    omega arith)

order_day : (a b : Band) → earlier a b ≡ true → a.place ≡ b.place → a.from.0 <ℤ b.from.0
order_day a b h q =
    by_cases (ltb a.place b.place)
    (λ e. let l = ltb-true a.place b.place e in absurd (omega arith))
    (λ e.
    let g = sym (or_left (ltb a.place b.place) (and (eqb a.place b.place) (lt_z a.from.0 b.from.0)) e) ∙ h in
    let w = and_second (eqb a.place b.place) (lt_z a.from.0 b.from.0) g in
    omega z)

unequal : (a r : ℕ) → r < a → eqb a r ≡ false
unequal a r h = false_in (eqb a r) (λ e. let q = eqb_true a r e in omega arith)

-- past place r there is no band of place r
passed : (r n k : ℕ) (a : Band) (bs : List Band) → r < a.place → bands_after n k a bs ≡ accepted → (d : ℤ) → Rises r d bs
unfolding Rises
passed r n k a [] l h d = tt
passed r n k a (b ∷ bs) l h d =
    let f = after_is n k a b bs h in
    let o = order_place a b f.order in
    let q : r < b.place = omega arith in
    let u = unequal b.place r q in
    rw u (λ e. clash false e refl, passed r n (suc k) b bs q f.rest d)

after_rises : (r n k : ℕ) (a : Band) (bs : List Band) → bands_after n k a bs ≡ accepted → Rises r (if (eqb a.place r) a.from.0 early) bs
unfolding Rises
after_rises r n k a [] h = tt
after_rises r n k a (b ∷ bs) h =
    let f = after_is n k a b bs h in
    let i = (fits_in n b f.fits).day in
    by_cases (eqb b.place r)
    (λ e.
    let p = eqb_true b.place r e in
    let w = rw e at (after_rises r n (suc k) b bs f.rest) in
    by_cases (eqb a.place r)
    (λ g.
    let s = order_day a b f.order (eqb_true a.place r g ∙ sym p) in
    rw (e, g) (λ _. s, w))
    (λ g. rw (e, g) (λ _. omega z, w)))
    (λ e.
    by_cases (eqb a.place r)
    (λ g.
    let p = eqb_true a.place r g in
    let o = order_place a b f.order in
    let q : r < b.place = differ b.place r (omega arith) e in
    rw (e, g) (λ t. clash false t refl, passed r n (suc k) b bs q f.rest a.from.0))
    (λ g. rw (e, g) (λ t. clash false t refl, rw e at (after_rises r n (suc k) b bs f.rest))))
  where
    differ : (b r : ℕ) → r ≤ b → eqb b r ≡ false → r < b
    differ b r l e = by_cases (ltb r b) (λ t. ltb-true r b t) (λ t. clash (eqb b r) (eqb_in b r (same b r l t)) e)
      where
        same : (b r : ℕ) → r ≤ b → ltb r b ≡ false → b ≡ r
        same b r l t = let m = ltb-false r b t in omega arith

after_all : (n k : ℕ) (a : Band) (bs : List Band) → bands_after n k a bs ≡ accepted → all (band_fits n) bs ≡ true
unfolding all
after_all n k a [] h = refl
after_all n k a (b ∷ bs) h =
    let f = after_is n k a b bs h in
    and_in (band_fits n b) (all (band_fits n) bs) f.fits (after_all n (suc k) b bs f.rest)

after_few : (n k : ℕ) (a : Band) (bs : List Band) → k ≤ most_bands → bands_after n k a bs ≡ accepted → k + length bs ≤ most_bands
after_few n k a [] l h = omega arith
after_few n k a (b ∷ bs) l h =
    let f = after_is n k a b bs h in
    let g = f.few in
    let w = after_few n (suc k) b bs (omega arith) f.rest in
    omega arith

-- ---- the whole list
pub check_rises : (n : ℕ) (bs : List Band) → bands_fit n bs ≡ accepted → (r : ℕ) → Rises r early bs
unfolding bands_fit Rises
check_rises n [] h r = tt
check_rises n (b ∷ bs) h r =
    let i = (fits_in n b (next_test (band_fits n b) 0 (bands_after n 1 b bs) h)).day in
    (λ _. omega z, after_rises r n 1 b bs (next_rest (band_fits n b) 0 (bands_after n 1 b bs) h))

pub check_all : (n : ℕ) (bs : List Band) → bands_fit n bs ≡ accepted → all (band_fits n) bs ≡ true
unfolding bands_fit all
check_all n [] h = refl
check_all n (b ∷ bs) h =
    and_in (band_fits n b) (all (band_fits n) bs) (next_test (band_fits n b) 0 (bands_after n 1 b bs) h)
    (after_all n 1 b bs (next_rest (band_fits n b) 0 (bands_after n 1 b bs) h))

pub check_few : (n : ℕ) (bs : List Band) → bands_fit n bs ≡ accepted → length bs ≤ most_bands
unfolding bands_fit
check_few n [] h = omega arith
check_few n (b ∷ bs) h =
    let w = after_few n 1 b bs (omega arith) (next_rest (band_fits n b) 0 (bands_after n 1 b bs) h) in
    omega arith

all_ends : (n : ℕ) (bs : List Band) → all (band_fits n) bs ≡ true → all band_ends bs ≡ true
unfolding all
all_ends n [] h = refl
all_ends n (b ∷ bs) h =
    and_in (band_ends b) (all band_ends bs) (fits_ends n b (and_first (band_fits n b) (all (band_fits n) bs) h)) (all_ends n bs (and_second (band_fits n b) (all (band_fits n) bs) h))

pub check_ends : (n : ℕ) (bs : List Band) → bands_fit n bs ≡ accepted → all band_ends bs ≡ true
check_ends n bs h = all_ends n bs (check_all n bs h)

-- ---- the limit of a day
-- without bands it is the resource's own
pub unbanded_limit : (sense : Sense) (qs : List Resource) (r : ℕ) (i : ℤ) → limit_on (unbanded sense qs) r i ≡ (resource_at (unbanded sense qs) r).limit.0
unfolding limit_on limit_from
unbanded_limit sense qs r i = refl

-- no band has come yet
pub none_yet : (r : ℕ) (d x i : ℤ) (bs : List Band) → Rises r d bs → i ≤ℤ d → limit_from r x bs i ≡ x
unfolding limit_from Rises
none_yet r d x i [] h l = refl
none_yet r d x i (b ∷ bs) h l =
    by_cases (eqb b.place r)
    (λ e.
    let g = h.0 e in
    let w = rw e at h.1 in
    rw (e, le_z_out b.from.0 i (omega z)) (none_yet r b.from.0 x i bs w (omega z)))
    (λ e. rw e (none_yet r d x i bs (rw e at h.1) l))

-- a limit of any day lies within its ends
pub limit_ends : (r : ℕ) (x : ℤ) (bs : List Band) → all band_ends bs ≡ true → Within power_ends x → (i : ℤ) → Within power_ends (limit_from r x bs i)
unfolding limit_from all
limit_ends r x [] h e i = e
limit_ends r x (b ∷ bs) h e i =
    let f = ends_in b (and_first (band_ends b) (all band_ends bs) h) in
    limit_ends r (if (stands r i b) b.limit.0 x) bs (and_second (band_ends b) (all band_ends bs) h)
    (if-case (Within power_ends) (stands r i b) b.limit.0 x (λ _. f.limit) (λ _. e)) i

-- ---- every limit negated
if_negated : (t : Bool) (x y : ℤ) → if t (neg_ℤ x) (neg_ℤ y) ≡ neg_ℤ (if t x y)
if_negated true x y = refl
if_negated false x y = refl

pub limit_bands_negated : (r : ℕ) (x : ℤ) (bs : List Band) (i : ℤ) → limit_from r (neg_ℤ x) (map negated_band bs) i ≡ neg_ℤ (limit_from r x bs i)
unfolding limit_from negated_band
limit_bands_negated r x [] i = refl
limit_bands_negated r x (b ∷ bs) i =
    ap (λ (y : ℤ). limit_from r y (map negated_band bs) i) (if_negated (stands r i b) b.limit.0 x)
    ∙ limit_bands_negated r (if (stands r i b) b.limit.0 x) bs i

-- ---- what a step asks
pub check_banded : (n : ℕ) (bs : List Band) → bands_fit n bs ≡ accepted → (r : ℕ) → Banded r bs
check_banded n bs h r = record { ends = check_ends n bs h; rises = check_rises n bs h r }

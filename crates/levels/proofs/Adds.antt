-- THE LAW: the start and the changes up to a day are, negated, the limit of that day. The changes make no task sure, and lie between the
-- first day and the last.
use mathlib.Core.Path.{◌≡◌, refl, ◌∙◌}
use mathlib.Core.Bool.{Bool, true, false}
use mathlib.Core.List.{List, [], ◌∷◌}
use Prim.Native.Nat.{ℕ}
use lib.Dec.{eqb}
use lib.IntN.{ℤ, pos, neg_ℤ, ◌+ℤ◌, ◌-ℤ◌}
use lib.Signed.{◌≤ℤ◌, ◌<ℤ◌, le_z, lt_z}
use Rattle.integers.specs.Tests.{if, all}
use Rattle.integers.specs.Hull.{range, within}
use Rattle.integers.specs.Ends.{Within}
use Rattle.integers.specs.Sums.{sum_of}
use Rattle.integers.proofs.Z.{z, +z, -z, ~z, le_z_in, le_z_out}
use Rattle.integers.proofs.Tests.{by_cases, if-case, and_first, and_second, all_append}
use Rattle.integers.proofs.Hull.{within_in}
use Rattle.integers.proofs.Sums.{sum_append}
use Rattle.plan.specs.declared.Band.{Band}
use Rattle.plan.specs.Powers.{power_ends}
use Rattle.rules.specs.Frame.{limit_from}
use Rattle.rules.specs.Calls.{band_ends}
use Rattle.rules.specs.Rises.{Rises}
use Rattle.rules.proofs.Bands.{BandIn, ends_in, none_yet}
use Rattle.events.specs.Keys.{day_of, power_of, sure_of, key_of, EventFits}
use Rattle.events.proofs.Keys.{key_day, key_power, key_sure}
use Rattle.events.proofs.Adds.{up_to}
use Rattle.events.proofs.Days.{on_days}
use Rattle.levels.specs.Levels.{band_key, band_events, limit_after, band_keys}

-- a change of the limit fits into a key
pub change_fits : (b : Band) (x : ℤ) → BandIn b → Within power_ends x → EventFits b.from.0 (x -ℤ b.limit.0) (pos 0)
change_fits b x f e = record { day = f.day; power = omega (z, -z x b.limit.0, f.limit, e); sure = omega z }

module _ (b : Band) (bs : List Band) (h : all band_ends (b ∷ bs) ≡ true) where
  first_in : BandIn b
  unfolding all
  first_in = ends_in b (and_first (band_ends b) (all band_ends bs) h)

  rest_in : all band_ends bs ≡ true
  unfolding all
  rest_in = and_second (band_ends b) (all band_ends bs) h

pub after_within : (r : ℕ) (x : ℤ) (b : Band) → BandIn b → Within power_ends x → Within power_ends (limit_after r x b)
unfolding limit_after
after_within r x b f e = if-case (Within power_ends) (eqb b.place r) b.limit.0 x (λ _. f.limit) (λ _. e)

-- ---- one key
one_sum : (f : ℕ → ℤ) (k : ℕ) (i d x : ℤ) → day_of k ≡ d → f k ≡ x → sum_of (up_to f i) (k ∷ []) ≡ if (le_z d i) x (pos 0)
unfolding sum_of
one_sum f k i d x p q =
    by_cases (le_z d i)
    (λ e. rw (p, e, q) (omega (z, +z x (pos 0))))
    (λ e. rw (p, e))

module _ (low high : ℤ) (b : Band) (x : ℤ) (f : BandIn b) (e : Within power_ends x) where
  abbrev key : ℕ
  key = key_of b.from.0 (x -ℤ b.limit.0) (pos 0)

  fits : EventFits b.from.0 (x -ℤ b.limit.0) (pos 0)
  fits = change_fits b x f e

  day_is : day_of key ≡ b.from.0
  day_is = key_day b.from.0 (x -ℤ b.limit.0) (pos 0) fits

  -- a band that comes after low: what its key adds on day i
  key_adds : (i : ℤ) → i <ℤ high → low <ℤ b.from.0 → sum_of (up_to power_of i) (band_key low high x b) ≡ if (le_z b.from.0 i) (x -ℤ b.limit.0) (pos 0)
  unfolding band_key sum_of
  key_adds i to late =
      by_cases (lt_z b.from.0 high)
      (λ g.
      rw (le_z_out b.from.0 low late, g)
      (one_sum power_of key i b.from.0 (x -ℤ b.limit.0) day_is (key_power b.from.0 (x -ℤ b.limit.0) (pos 0) fits)))
      (λ g. rw (le_z_out b.from.0 low late, g, le_z_out b.from.0 i (omega z)))

  key_sures : (i : ℤ) → sum_of (up_to sure_of i) (band_key low high x b) ≡ pos 0
  unfolding band_key sum_of
  key_sures i =
      by_cases (le_z b.from.0 low) (λ g. rw g)
      (λ g.
      by_cases (lt_z b.from.0 high)
      (λ k.
      rw (g, k)
      (one_sum sure_of key i b.from.0 (pos 0) day_is (key_sure b.from.0 (x -ℤ b.limit.0) (pos 0) fits) ∙ same (le_z b.from.0 i)))
      (λ k. rw (g, k)))
    where
      same : (t : Bool) → if t (pos 0) (pos 0) ≡ pos 0
      same true = refl
      same false = refl

  key_within : on_days (within (range low high)) (band_key low high x b) ≡ true
  unfolding band_key all
  key_within =
      by_cases (le_z b.from.0 low) (λ g. rw g)
      (λ g.
      by_cases (lt_z b.from.0 high)
      (λ k. rw (g, k, day_is, within_in (range low high) b.from.0 (omega z)))
      (λ k. rw (g, k)))

-- one that has come by the first day has none
key_early : (low high : ℤ) (b : Band) (x : ℤ) → le_z b.from.0 low ≡ true → band_key low high x b ≡ []
unfolding band_key
key_early low high b x e = rw e

-- ---- all of them
module _ (r : ℕ) (low high : ℤ) where
  module _ (i : ℤ) (from : low ≤ℤ i) (to : i <ℤ high) where
    abbrev added : ℤ → List Band → ℤ
    added x bs = sum_of (up_to power_of i) (band_keys r low high x bs)

    -- a band that comes after low: y is its limit, p what its key adds, s what the later ones add, l the limit that they leave on day i
    later : (b : Band) (x y p s l : ℤ) → y ≡ b.limit.0 → p ≡ (if (le_z b.from.0 i) (x -ℤ b.limit.0) (pos 0)) →
        neg_ℤ y +ℤ s ≡ neg_ℤ l → (le_z b.from.0 i ≡ false → l ≡ y) →
        neg_ℤ x +ℤ (p +ℤ s) ≡ neg_ℤ (if (le_z b.from.0 i) l x)
    later b x y p s l q w h n =
        by_cases (le_z b.from.0 i)
        (λ g.
        let v = rw g at w in
        rw g (omega (z, q, v, h, ~z x, ~z y, ~z l, +z (neg_ℤ y) s, -z x b.limit.0, +z p s, +z (neg_ℤ x) (p +ℤ s))))
        (λ g.
        let v = rw g at w in
        let m = n g in
        rw g (omega (z, v, m, h, ~z x, ~z y, ~z l, +z (neg_ℤ y) s, +z p s, +z (neg_ℤ x) (p +ℤ s))))

    pub bands_add : (d x : ℤ) (bs : List Band) → all band_ends bs ≡ true → Within power_ends x → Rises r d bs →
        neg_ℤ (limit_from r x bs low) +ℤ added x bs ≡ neg_ℤ (limit_from r x bs i)
    unfolding limit_from band_keys Rises band_events limit_after sum_of
    bands_add d x [] h e s = omega (z, ~z x, +z (neg_ℤ x) (pos 0))
    bands_add d x (b ∷ bs) h e s =
        let f = first_in b bs h in
        let t = rest_in b bs h in
        let y = b.limit.0 in
        by_cases (eqb b.place r)
        (λ g.
        let u = rw g at s.1 in
        let w = bands_add b.from.0 y bs t f.limit u in
        by_cases (le_z b.from.0 low)
        (λ k. rw (g, k, le_z_in b.from.0 i (omega z), key_early low high b x k) w)
        (λ k.
        let l0 = none_yet r b.from.0 y low bs u (omega z) in
        let l1 = none_yet r b.from.0 x low bs u (omega z) in
        let m = key_adds low high b x f e i to (omega z) in
        let c = later b x y (sum_of (up_to power_of i) (band_key low high x b)) (added y bs) (limit_from r y bs i) refl m (rw l0 at w)
        (λ n. none_yet r b.from.0 y i bs u (omega z)) in
        rw (g, k, l1, sum_append (up_to power_of i) (band_key low high x b) (band_keys r low high y bs))
        (by_cases (le_z b.from.0 i)
        (λ n. rw n (rw n at c))
        (λ n. let q = none_yet r b.from.0 x i bs u (omega z) in rw (n, q) (rw n at c)))))
        (λ g. rw g (bands_add d x bs t e (rw g at s.1)))

  pub bands_sure : (i x : ℤ) (bs : List Band) → all band_ends bs ≡ true → Within power_ends x → sum_of (up_to sure_of i) (band_keys r low high x bs) ≡ pos 0
  unfolding band_keys band_events sum_of
  bands_sure i x [] h e = refl
  bands_sure i x (b ∷ bs) h e =
      let f = first_in b bs h in
      let w = bands_sure i (limit_after r x b) bs (rest_in b bs h) (after_within r x b f e) in
      by_cases (eqb b.place r)
      (λ g. rw (g, sum_append (up_to sure_of i) (band_key low high x b) (band_keys r low high (limit_after r x b) bs), key_sures low high b x f e i, w))
      (λ g. rw g w)

  pub bands_within : (x : ℤ) (bs : List Band) → all band_ends bs ≡ true → Within power_ends x → on_days (within (range low high)) (band_keys r low high x bs) ≡ true
  unfolding band_keys band_events all
  bands_within x [] h e = refl
  bands_within x (b ∷ bs) h e =
      let f = first_in b bs h in
      let w = bands_within (limit_after r x b) bs (rest_in b bs h) (after_within r x b f e) in
      by_cases (eqb b.place r)
      (λ g.
      rw (g, all_append (λ k. within (range low high) (day_of k)) (band_key low high x b) (band_keys r low high (limit_after r x b) bs), key_within low high b x f e, w))
      (λ g. rw g w)

-- The listing of a narrower list is the listing of the wider one, filtered: so the allowed plans of both are the same list, where no
-- allowed plan is lost.
use mathlib.Core.Path.{◌≡◌, refl, sym, ap, ◌∙◌, subst}
use Prim.Native.Nat.{ℕ, zero, suc, ◌+◌}
use mathlib.Core.List.{List, [], ◌∷◌, map}
use mathlib.Core.Bool.{Bool, true, false}
use lib.IntN.{ℤ, pos, negsuc, suc_ℤ, ◌+ℤ◌, ◌-ℤ◌}
use lib.Signed.{le_z, lt_z, ◌≤ℤ◌, ◌<ℤ◌}
use Rattle.integers.specs.Tests.{and, filter}
use Rattle.integers.specs.Hull.{Range, within, up_from, count_of, values, Sub}
use Rattle.integers.proofs.Z.{z, up, dn, +z, -z, sucz}
use Rattle.integers.proofs.Tests.{by_cases, false_in, and_first, and_second, and_skip, and_follows, filter_append, filter_same, filter_none, filter_filter, filter_map}
use Rattle.integers.proofs.Hull.{within_is, within_in, count_out}
use Rattle.plan.specs.declared.Task.{Task}
use Rattle.plan.specs.Days.{days_of}
use Rattle.plan.specs.Powers.{powers_of}
use Rattle.plan.specs.Sets.{has, SubSet}
use Rattle.rules.specs.Frame.{Frame, resource_count, places_from}
use Rattle.rules.specs.Allowed.{Choice, inside, inside_all, allowed}
use Rattle.rules.specs.Listing.{cross, FromEnd, FromDuration, FromOrigin, from_end, from_duration, from_origin, choice, choices, listing, plans}
use Rattle.rules.proofs.Subs.{subs_self}
use Rattle.rules.specs.Keeps.{SubTask, Subs}
use Rattle.rules.specs.Keeps.Subs.{no_subs, more_subs}

-- ---- a test of pairs that is a test of each
module _ {A B C : Type 0} (f : A → B → C) (p : C → Bool) (a : A → Bool) (b : B → Bool) (h : (x : A) (y : B) → p (f x y) ≡ and (a x) (b y)) where
  row : (x : A) (ys : List B) → a x ≡ true → filter p (map (f x) ys) ≡ map (f x) (filter b ys)
  row x ys e =
      filter_map p (f x) ys
      ∙ ap (map (f x)) (filter_same (λ y. p (f x y)) b (λ y. h x y ∙ ap (λ c. and c (b y)) e) ys)

  no_row : (x : A) (ys : List B) → a x ≡ false → filter p (map (f x) ys) ≡ []
  no_row x ys e =
      filter_map p (f x) ys
      ∙ ap (map (f x)) (filter_none (λ y. p (f x y)) (λ y. h x y ∙ ap (λ c. and c (b y)) e) ys)

  cross_filter : (xs : List A) (ys : List B) → filter p (cross f xs ys) ≡ cross f (filter a xs) (filter b ys)
  unfolding cross filter
  cross_filter [] ys = refl
  cross_filter (x ∷ xs) ys =
      filter_append p (map (f x) ys) (cross f xs ys)
      ∙ by_cases (a x) (λ e. rw (e, row x ys e, cross_filter xs ys)) (λ e. rw (e, no_row x ys e, cross_filter xs ys))

-- ---- a range inside another lists what the other lists, filtered
count_none : (d : ℤ) → d <ℤ pos 0 → count_of d ≡ 0
unfolding count_of
count_none (pos n) h = absurd (omega z)
count_none (negsuc n) h = refl

count_is : (d : ℤ) → negsuc 0 ≤ℤ d → count_of d + dn d ≡ up d + 1
unfolding count_of
count_is (pos n) h = omega z
count_is (negsuc zero) h = omega z
count_is (negsuc (suc n)) h = absurd (omega z)

module _ (s : Range) where
  below_out : (v : ℤ) → v <ℤ s.low → within s v ≡ false
  below_out v h = false_in (within s v) (λ e. let w = within_is s v e in omega z)

  above_out : (v : ℤ) → s.high <ℤ v → within s v ≡ false
  above_out v h = false_in (within s v) (λ e. let w = within_is s v e in omega z)

  past : (n : ℕ) (a : ℤ) → s.high <ℤ a → filter (within s) (up_from a n) ≡ []
  unfolding filter up_from
  past zero a h = refl
  past (suc n) a h = rw (above_out a h) (past n (suc_ℤ a) (omega (z, sucz a)))

  from_there : (n : ℕ) (a : ℤ) → s.low ≤ℤ a → s.high <ℤ (a +ℤ pos n) → filter (within s) (up_from a n) ≡ up_from a (count_of (s.high -ℤ a))
  unfolding filter up_from
  from_there zero a h g = rw (count_none (s.high -ℤ a) (omega (z, -z s.high a, +z a (pos 0))))
  from_there (suc n) a h g =
      by_cases (le_z a s.high)
      (λ l.
      let x : negsuc 0 ≤ℤ (s.high -ℤ a) = omega (z, -z s.high a) in
      let y : negsuc 0 ≤ℤ (s.high -ℤ suc_ℤ a) = omega (z, -z s.high (suc_ℤ a), sucz a) in
      let e : count_of (s.high -ℤ a) ≡ suc (count_of (s.high -ℤ suc_ℤ a)) =
      omega (z, count_is (s.high -ℤ a) x, count_is (s.high -ℤ suc_ℤ a) y, -z s.high a, -z s.high (suc_ℤ a), sucz a) in
      rw (e, within_in s a (omega z))
      (ap (λ (l : List ℤ). a ∷ l) (from_there n (suc_ℤ a) (omega (z, sucz a)) (omega (z, sucz a, +z a (pos (suc n)), +z (suc_ℤ a) (pos n))))))
      (λ l. rw (count_none (s.high -ℤ a) (omega (z, -z s.high a)), above_out a (omega z)) (past n (suc_ℤ a) (omega (z, sucz a))))

  from_below : (n : ℕ) (a : ℤ) → a ≤ℤ s.low → s.high <ℤ (a +ℤ pos n) → filter (within s) (up_from a n) ≡ values s
  unfolding filter up_from values
  from_below zero a h g = rw (count_none (s.high -ℤ s.low) (omega (z, -z s.high s.low, +z a (pos 0))))
  from_below (suc n) a h g =
      by_cases (lt_z a s.low)
      (λ l. rw (below_out a (omega z)) (from_below n (suc_ℤ a) (omega (z, sucz a)) (omega (z, sucz a, +z a (pos (suc n)), +z (suc_ℤ a) (pos n)))))
      (λ l.
      let same : a ≡ s.low = omega z in
      subst (λ y. filter (within s) (up_from a (suc n)) ≡ up_from y (count_of (s.high -ℤ y))) same (from_there (suc n) a (omega z) g))

values_sub : (s' s : Range) → Sub s' s → values s' ≡ filter (within s') (values s)
unfolding values
values_sub s' s h =
    sym
    (from_below s' (count_of (s.high -ℤ s.low)) s.low h.above
    (by_cases (le_z s.low s.high)
    (λ l. let q = count_out s s.high (record { least = omega z; most = omega z }) in omega z)
    (λ l. omega (z, +z s.low (pos (count_of (s.high -ℤ s.low)))))))

-- ---- tasks
set_sub : (s' s n : ℕ) → SubSet s' s → filter (has s') (places_from 0 n) ≡ filter (has s') (filter (has s) (places_from 0 n))
set_sub s' s n h =
    sym
    (filter_filter (has s') (has s) (places_from 0 n)
    ∙ filter_same (λ k. and (has s k) (has s' k)) (has s') (λ k. sym (and_follows (has s' k) (has s k) (h k))) (places_from 0 n))

choices_sub : (n : ℕ) (u t : Task) → SubTask u t → choices n u ≡ filter (inside u) (choices n t)
unfolding choices inside
choices_sub n u t h =
    let in_end : FromEnd → Bool = λ q. and (within (days_of u.end) q.end) (within (powers_of u.height) q.height) in
    let in_duration : FromDuration → Bool = λ q. and (within (days_of u.duration) q.duration) (in_end q.rest) in
    let in_origin : FromOrigin → Bool = λ q. and (within (days_of u.origin) q.origin) (in_duration q.rest) in
    let ends = cross from_end (values (days_of t.end)) (values (powers_of t.height)) in
    let durations = cross from_duration (values (days_of t.duration)) ends in
    let origins = cross from_origin (values (days_of t.origin)) durations in
    rw (
      set_sub u.set t.set n h.set,
      values_sub (days_of u.origin) (days_of t.origin) h.origin,
      values_sub (days_of u.duration) (days_of t.duration) h.duration,
      values_sub (days_of u.end) (days_of t.end) h.end,
      values_sub (powers_of u.height) (powers_of t.height) h.height,
    )
    (sym
    (cross_filter choice (inside u) (has u.set) in_origin (λ r q. refl) (filter (has t.set) (places_from 0 n)) origins
    ∙ ap (cross choice (filter (has u.set) (filter (has t.set) (places_from 0 n))))
    (cross_filter from_origin in_origin (within (days_of u.origin)) in_duration (λ o q. refl) (values (days_of t.origin)) durations
    ∙ ap (cross from_origin (filter (within (days_of u.origin)) (values (days_of t.origin))))
    (cross_filter from_duration in_duration (within (days_of u.duration)) in_end (λ d q. refl) (values (days_of t.duration)) ends
    ∙ ap (cross from_duration (filter (within (days_of u.duration)) (values (days_of t.duration))))
    (cross_filter from_end in_end (within (days_of u.end)) (within (powers_of u.height)) (λ e h. refl) (values (days_of t.end)) (values (powers_of t.height)))))))

pub listing_sub : (n : ℕ) {us ts : List Task} → Subs us ts → listing n us ≡ filter (inside_all us) (listing n ts)
unfolding listing inside_all filter
listing_sub n no_subs = refl
listing_sub n (more_subs {u} {t} {us} {ts} h f) =
    rw (choices_sub n u t h, listing_sub n f)
    (sym (cross_filter (λ c cs. c ∷ cs) (inside_all (u ∷ us)) (inside u) (inside_all us) (λ c cs. refl) (choices n t) (listing n ts)))

-- ---- the allowed plans
-- an allowed plan inside the old ranges is inside the new ones: the allowed plans stay, in the same order
pub plans_kept : (f : Frame) (us ts : List Task) → Subs us ts → ((cs : List Choice) → allowed f cs ≡ true → inside_all ts cs ≡ true → inside_all us cs ≡ true) → plans f us ≡ plans f ts
unfolding plans
plans_kept f us ts h k =
    let n = resource_count f in
    let p = allowed f in
    let l = listing n ts in
    let self : l ≡ filter (inside_all ts) l = listing_sub n (subs_self ts) in
    let old : filter p l ≡ filter (λ cs. and (inside_all ts cs) (p cs)) l = ap (filter p) self ∙ filter_filter p (inside_all ts) l in
    let new : filter p (listing n us) ≡ filter (λ cs. and (inside_all ts cs) (and (inside_all us cs) (p cs))) l =
    ap (filter p) (listing_sub n h) ∙ filter_filter p (inside_all us) l
    ∙ ap (filter (λ cs. and (inside_all us cs) (p cs))) self
    ∙ filter_filter (λ cs. and (inside_all us cs) (p cs)) (inside_all ts) l in
    new ∙ filter_same _ _ (λ cs. and_skip (inside_all ts cs) (inside_all us cs) (p cs) (λ a b. k cs b a)) l ∙ sym old

-- where no allowed plan is inside, there is none
pub plans_none : (f : Frame) (ts : List Task) → ((cs : List Choice) → allowed f cs ≡ true → inside_all ts cs ≡ true → ⊥) → plans f ts ≡ []
unfolding plans
plans_none f ts k =
    let p = allowed f in
    let l = listing (resource_count f) ts in
    ap (filter p) (listing_sub (resource_count f) (subs_self ts)) ∙ filter_filter p (inside_all ts) l
    ∙ filter_none (λ cs. and (inside_all ts cs) (p cs))
    (λ cs. false_in (and (inside_all ts cs) (p cs)) (λ e. k cs (and_second (inside_all ts cs) (p cs) e) (and_first (inside_all ts cs) (p cs) e))) l

-- The listing has each choice inside the sets and ranges exactly once, and nothing else: so the count is a count of plans.
use Rattle.plan.specs.Refusals.{accepted}
use mathlib.Core.Path.{◌≡◌, refl, sym, ap, ap₂, ◌∙◌, subst}
use Prim.Native.Nat.{ℕ, zero, suc, ◌+◌, ◌^◌, ◌≤◌, ◌<◌}
use native.Mathlib.Omega.{arith}
use native.Mathlib.Nat.{pow-le-pow_right}
use mathlib.Core.List.{List, [], ◌∷◌, map}
use mathlib.Core.Bool.{true, false, not}
use lib.IntN.{ℤ, pos, ◌-ℤ◌}
use lib.Dec.{T, eqb, ltb, ltb→lt, nltb→le}
use borrow.Author.Tests.{ltb-true, ltb-false}
use Rattle.integers.specs.Whole.{eq_z}
use Rattle.integers.specs.Tests.{if, and, filter}
use Rattle.integers.specs.Hull.{range, within, up_from, count_of, values}
use Rattle.integers.specs.Lists.{Each}
use Rattle.integers.specs.Lists.Each.{nothing, also}
use Rattle.integers.proofs.Z.{z, -z, eq_z_in, eq_z_is}
use Rattle.integers.proofs.Hull.{within_is, within_in}
use Rattle.integers.proofs.Tests.{clash, by_cases, false_in, same_test, and_first, and_second, and_on, and_off, four_is, filter_same, filter_none, filter_filter}
use Rattle.plan.specs.declared.Task.{Task}
use Rattle.plan.specs.Sets.{has}
use Rattle.plan.specs.Tasks.{TaskFits}
use Rattle.plan.proofs.Sets.{eqb_true, eqb_in, has_alone, alone_only, has_le}
use Rattle.rules.specs.Frame.{Frame, resource_count, places_from}
use Rattle.rules.specs.Allowed.{Choice, inside, inside_all, allowed}
use Rattle.rules.specs.Listing.{cross, choices, listing, same_choice, same_plan, plans}
use Rattle.rules.specs.Fixed.{fixed}
use Rattle.rules.specs.Calls.{check}
use Rattle.rules.proofs.Inside.{Inside, inside_is}
use Rattle.rules.specs.Keeps.{SubTask, Subs}
use Rattle.rules.specs.Keeps.Subs.{no_subs, more_subs}
use Rattle.rules.proofs.Subs.{subs_self}
use Rattle.rules.proofs.Checks.{accepts}
use Rattle.rules.proofs.Listings.{listing_sub}

-- every choice stands on one of the first n resources
data Placed (n : ℕ) : List Choice → Type 0 where
  no_placed : Placed n []
  more_placed : {c : Choice} {cs : List Choice} → c.resource < n → Placed n cs → Placed n (c ∷ cs)

-- ---- a fixed choice is all that its task lists
values_one : (v : ℤ) → values (range v v) ≡ v ∷ []
unfolding values up_from count_of
values_one v = let e : v -ℤ v ≡ pos 0 = omega (z, -z v v) in rw e

places_from_past : (r n k : ℕ) → r < k → filter (has (2 ^ r)) (places_from k n) ≡ []
unfolding filter places_from
places_from_past r zero k h = refl
places_from_past r (suc n) k h =
    rw (false_in (has (2 ^ r) k) (λ e. let q = alone_only r k e in omega arith)) (places_from_past r n (suc k) (omega arith))

places_from_one : (r n k : ℕ) → k ≤ r → r < k + n → filter (has (2 ^ r)) (places_from k n) ≡ r ∷ []
unfolding filter places_from
places_from_one r zero k h g = absurd (omega arith)
places_from_one r (suc n) k h g =
    by_cases (ltb k r)
    (λ e.
    let l = ltb→lt k r (subst T (sym e) tt) in
    rw (false_in (has (2 ^ r) k) (λ b. let q = alone_only r k b in omega arith)) (places_from_one r n (suc k) (omega arith) (omega arith)))
    (λ e.
    let l = nltb→le k r (subst (λ x. T (not x)) (sym e) tt) in
    let q : k ≡ r = omega arith in
    rw (subst (λ x. has (2 ^ r) x ≡ true) (sym q) (has_alone r), places_from_past r n (suc k) (omega arith)) (ap (λ (x : ℕ). x ∷ []) q))

choices_one : (n : ℕ) (c : Choice) → c.resource < n → choices n (fixed c) ≡ c ∷ []
unfolding choices cross
choices_one n c h =
    rw (
      places_from_one c.resource n 0 (omega arith) (omega arith),
      values_one c.origin,
      values_one c.duration,
      values_one c.end,
      values_one c.height,
    )

listing_one : (n : ℕ) {cs : List Choice} → Placed n cs → listing n (map fixed cs) ≡ cs ∷ []
unfolding listing cross
listing_one n no_placed = refl
listing_one n (more_placed {c} {cs} h f) = rw (choices_one n c h, listing_one n f)

-- ---- and lies inside every list that has it inside
sub_fixed : (t : Task) (c : Choice) → Inside t c → SubTask (fixed c) t
sub_fixed t c h =
    record {
      set = λ k e. subst (λ x. has t.set x ≡ true) (sym (alone_only c.resource k e)) h.set;
      origin = omega (z, h.origin);
      duration = omega (z, h.duration);
      end = omega (z, h.end);
      height = omega (z, h.height);
    }

subs_fixed : (ts : List Task) (cs : List Choice) → inside_all ts cs ≡ true → Subs (map fixed cs) ts
unfolding inside_all
subs_fixed [] [] h = no_subs
subs_fixed [] (c ∷ cs) h = clash false h refl
subs_fixed (t ∷ ts) [] h = clash false h refl
subs_fixed (t ∷ ts) (c ∷ cs) h =
    more_subs (sub_fixed t c (inside_is t c (and_first (inside t c) (inside_all ts cs) h)))
    (subs_fixed ts cs (and_second (inside t c) (inside_all ts cs) h))

-- of the choices listed, one and only one lies inside what leaves cs alone
once : (n : ℕ) (ts : List Task) (cs : List Choice) → inside_all ts cs ≡ true → Placed n cs → filter (inside_all (map fixed cs)) (listing n ts) ≡ cs ∷ []
once n ts cs h p = sym (listing_sub n (subs_fixed ts cs h)) ∙ listing_one n p

-- ---- which are those with the same values as cs
same_resource : (r k : ℕ) → eqb r k ≡ has (2 ^ r) k
same_resource r k =
    same_test (eqb r k) (has (2 ^ r) k) (λ e. subst (λ x. has (2 ^ r) x ≡ true) (eqb_true r k e) (has_alone r))
    (λ e. eqb_in r k (sym (alone_only r k e)))

same_value : (v w : ℤ) → eq_z v w ≡ within (range v v) w
same_value v w =
    same_test (eq_z v w) (within (range v v) w)
    (λ e. let q = eq_z_is v w e in within_in (range v v) w (record { least = omega z; most = omega z }))
    (λ e. let h = within_is (range v v) w e in eq_z_in v w (omega z))

same_inside : (c d : Choice) → same_choice c d ≡ inside (fixed c) d
unfolding inside same_choice
same_inside c d =
    rw (
      same_resource c.resource d.resource,
      same_value c.origin d.origin,
      same_value c.duration d.duration,
      same_value c.end d.end,
      same_value c.height d.height,
    )

same_all : (cs ds : List Choice) → same_plan cs ds ≡ inside_all (map fixed cs) ds
unfolding same_plan inside_all
same_all [] [] = refl
same_all [] (d ∷ ds) = refl
same_all (c ∷ cs) [] = refl
same_all (c ∷ cs) (d ∷ ds) = rw (same_inside c d, same_all cs ds)

-- and the same values are the same choice
choice_is : (c d : Choice) → same_choice c d ≡ true → c ≡ d
unfolding same_choice
choice_is c d h =
    let o = eq_z c.origin d.origin in
    let u = eq_z c.duration d.duration in
    let e = eq_z c.end d.end in
    let p = eq_z c.height d.height in
    let r = eqb_true c.resource d.resource (and_first (eqb c.resource d.resource) (and o (and u (and e p))) h) in
    let k = four_is o u e p (and_second (eqb c.resource d.resource) (and o (and u (and e p))) h) in
    let a = eq_z_is c.origin d.origin k.first in
    let b = eq_z_is c.duration d.duration k.second in
    let g = eq_z_is c.end d.end k.third in
    let q = eq_z_is c.height d.height k.fourth in
    λ j. record { resource = r j; origin = a j; duration = b j; end = g j; height = q j }

plan_is : (cs ds : List Choice) → same_plan cs ds ≡ true → cs ≡ ds
unfolding same_plan
plan_is [] [] h = refl
plan_is [] (d ∷ ds) h = clash false h refl
plan_is (c ∷ cs) [] h = clash false h refl
plan_is (c ∷ cs) (d ∷ ds) h =
    ap₂ (λ (x : Choice) (xs : List Choice). x ∷ xs) (choice_is c d (and_first (same_choice c d) (same_plan cs ds) h))
    (plan_is cs ds (and_second (same_choice c d) (same_plan cs ds) h))

-- ---- a choice inside an accepted plan stands on resources of the list
has_placed : (n s k : ℕ) → s < 2 ^ n → has s k ≡ true → k < n
has_placed n s k l h =
    by_cases (ltb k n) (λ e. ltb-true k n e)
    (λ e.
    let a : 2 ^ n ≤ 2 ^ k = pow-le-pow_right {n = 2} (omega arith) {i = n} {j = k} (ltb-false k n e) in
    let b = has_le s k h in
    absurd (omega arith))

choices_placed : (n : ℕ) {ts : List Task} → Each (TaskFits n) ts → (cs : List Choice) → inside_all ts cs ≡ true → Placed n cs
unfolding inside_all
choices_placed n nothing [] h = no_placed
choices_placed n nothing (c ∷ cs) h = clash false h refl
choices_placed n (also a f) [] h = clash false h refl
choices_placed n (also {x = t} {xs = ts} a f) (c ∷ cs) h =
    more_placed (has_placed n t.set c.resource a.places (inside_is t c (and_first (inside t c) (inside_all ts cs) h)).set)
    (choices_placed n f cs (and_second (inside t c) (inside_all ts cs) h))

-- ---- so the listing has every choice inside exactly once, and no other
module _ (f : Frame) (ts : List Task) (ok : check f ts ≡ accepted) (cs : List Choice) where
  abbrev all_listed : List (List Choice)
  all_listed = listing (resource_count f) ts

  same_filter : (ds : List (List Choice)) → filter (same_plan cs) ds ≡ filter (inside_all (map fixed cs)) ds
  same_filter ds = filter_same (same_plan cs) (inside_all (map fixed cs)) (same_all cs) ds

  not_listed : inside_all ts cs ≡ false → filter (same_plan cs) all_listed ≡ []
  not_listed h =
      ap (filter (same_plan cs)) (listing_sub (resource_count f) (subs_self ts))
      ∙ filter_filter (same_plan cs) (inside_all ts) all_listed
      ∙ filter_none (λ ds. and (inside_all ts ds) (same_plan cs ds))
      (λ ds.
      false_in (and (inside_all ts ds) (same_plan cs ds))
      (λ e.
      let same = plan_is cs ds (and_second (inside_all ts ds) (same_plan cs ds) e) in
      clash (inside_all ts cs) (subst (λ (x : List Choice). inside_all ts x ≡ true) (sym same) (and_first (inside_all ts ds) (same_plan cs ds) e)) h))
      all_listed

  pub listed : filter (same_plan cs) all_listed ≡ if (inside_all ts cs) (cs ∷ []) []
  listed =
      by_cases (inside_all ts cs)
      (λ h. rw h (same_filter all_listed ∙ once (resource_count f) ts cs h (choices_placed (resource_count f) (accepts f ts ok).tasks cs h)))
      (λ h. rw h (not_listed h))

  pub plans_listed : filter (same_plan cs) (plans f ts) ≡ if (and (inside_all ts cs) (allowed f cs)) (cs ∷ []) []
  unfolding plans
  plans_listed =
      filter_filter (same_plan cs) (allowed f) all_listed
      ∙ filter_same (λ ds. and (allowed f ds) (same_plan cs ds)) (λ ds. and (same_plan cs ds) (allowed f cs)) alike all_listed
      ∙ by_cases (allowed f cs)
      (λ a. rw a (filter_same (λ ds. and (same_plan cs ds) true) (same_plan cs) (λ ds. and_on (same_plan cs ds)) all_listed ∙ listed ∙ rw (and_on (inside_all ts cs))))
      (λ a. rw a (filter_none (λ ds. and (same_plan cs ds) false) (λ ds. and_off (same_plan cs ds)) all_listed ∙ rw (and_off (inside_all ts cs))))
    where
      alike : (ds : List Choice) → and (allowed f ds) (same_plan cs ds) ≡ and (same_plan cs ds) (allowed f cs)
      alike ds =
          by_cases (same_plan cs ds)
          (λ e. rw (e, and_on (allowed f ds)) (ap (allowed f) (sym (plan_is cs ds e))))
          (λ e. rw (e, and_off (allowed f ds)))

-- The days of a stretch, of a span of days and of a stretch's part; the days of all parts.
use mathlib.Core.Path.{◌≡◌, refl, sym, ap, subst, fun_ext, ◌∙◌}
use mathlib.Core.Bool.{Bool, true, false}
use mathlib.Core.List.{List, [], ◌∷◌, foldl}
use Rattle.std.specs.Prelude.{Option, None, Some}
use Rattle.std.specs.Ordering.{ord_max, ord_min}
use Rattle.std.proofs.Common.{rules}
use Rattle.std.proofs.lemmas.List.{at_drop_more}
use Prim.Native.Nat.{ℕ, ◌+◌, ◌<◌}
use lib.ListN.{length, drop, get_or}
use lib.IntN.{ℤ}
use lib.Signed.{le_z, lt_z, ◌≤ℤ◌, ◌<ℤ◌}
use Rattle.integers.specs.Tests.{and, any}
use Rattle.integers.specs.Whole.{larger, smaller}
use Rattle.integers.proofs.Z.{z, maxz, minz, le_z_in, lt_z_in}
use Rattle.integers.proofs.Tests.{clash, by_cases, if-case, same_test, and_first, and_second, and_in, or_left, any_first, any_later}
use Rattle.plan.specs.declared.Day.{Day}
use Rattle.plan.specs.contracts.DayOrd.TheImpl
use Rattle.stretches.specs.declared.Stretch.{Stretch}
use Rattle.stretches.specs.View.{no_stretch, on_day}
use Rattle.stretches.proofs.View.{on_out, on_in}
use Rattle.searches.specs.declared.Days.{Days}
use Rattle.searches.specs.Searches.{holds, shared, meets, part_of, on_part, hit_days, ForTests, Hit, TooLong}

-- ---- two cases of an order
pub lt_cases : {P : Type 0} (a b : ℤ) → (a <ℤ b → P) → (b ≤ℤ a → P) → P
lt_cases a b f g = by_cases (lt_z a b) (λ e. f (omega z)) (λ e. g (omega z))

-- ---- the later and the earlier of two days, as the code finds them
pub max_is : (a b : Day) {c : Day} → c ≡ ord_max (TheImpl.cmp-value).it a b → c.0 ≡ larger a.0 b.0
max_is a b is = search rules

pub min_is : (a b : Day) {c : Day} → c ≡ ord_min (TheImpl.cmp-value).it a b → c.0 ≡ smaller a.0 b.0
min_is a b is = search rules

-- ---- day i is one of a .. b - 1
pub record Held (a b i : ℤ) : Type 0 where
  pub late : a ≤ℤ i
  pub early : i <ℤ b

held_is : (a b i : ℤ) → and (le_z a i) (lt_z i b) ≡ true → Held a b i
held_is a b i h =
    let x : le_z a i ≡ true = and_first _ _ h in
    let y : lt_z i b ≡ true = and_second (le_z a i) _ h in
    omega z

held_in_lem : (a b i : ℤ) → a ≤ℤ i → i <ℤ b → and (le_z a i) (lt_z i b) ≡ true
held_in_lem a b i h k = and_in _ _ (le_z_in a i h) (lt_z_in i b k)

pub holds_is : (w : Days) (i : ℤ) → holds w i ≡ true → Held w.from.0 w.to.0 i
unfolding holds
holds_is w i = held_is w.from.0 w.to.0 i

pub holds_in : (w : Days) (i : ℤ) → w.from.0 ≤ℤ i → i <ℤ w.to.0 → holds w i ≡ true
unfolding holds
holds_in w i = held_in_lem w.from.0 w.to.0 i

-- ---- one of a part's days
pub some_is : (p : Days) (i : ℤ) → on_part i (Some p) ≡ true → Held p.from.0 p.to.0 i
unfolding on_part
some_is p i = holds_is p i

pub some_in : (p : Days) (i : ℤ) → p.from.0 ≤ℤ i → i <ℤ p.to.0 → on_part i (Some p) ≡ true
unfolding on_part
some_in p i = holds_in p i

pub none_is : (i : ℤ) → on_part i None ≡ true → ⊥
unfolding on_part
none_is i h = clash false h refl

-- a stretch's days among w's, where there is one and the rule hits them
pub part_cases {ℓ} : (P : Option Days → Type ℓ) (w : Days) (s : Stretch) (b : Bool) → (b ≡ true → (shared w s).from.0 <ℤ (shared w s).to.0 → P (Some (shared w s)))
    → (and b (meets w s) ≡ false → P None) → P (part_of w s b)
part_cases P w s b f g =
    if-case P (and b (meets w s)) (Some (shared w s)) None
    (λ e. let m : meets w s ≡ true = and_second b _ e in f (and_first b _ e) (omega z))
    g

pub part_on : (w : Days) (s : Stretch) (b : Bool) (i : ℤ) → on_part i (part_of w s b) ≡ and (on_day i s) (and (holds w i) b)
part_on w s b i =
    let f = maxz s.from.0 w.from.0 in
    let g = minz s.to.0 w.to.0 in
    part_cases (λ (p : Option Days). on_part i p ≡ and (on_day i s) (and (holds w i) b)) w s b
    (λ e l.
    same_test _ _
    (λ h.
    let o = some_is (shared w s) i h in
    and_in _ _ (on_in s i (omega z) (omega z)) (and_in _ _ (holds_in w i (omega z) (omega z)) e))
    (λ h.
    let o = on_out s i (and_first _ _ h) in
    let m = holds_is w i (and_first _ _ (and_second (on_day i s) _ h)) in
    some_in (shared w s) i (omega z) (omega z)))
    (λ e.
    same_test _ _ (λ h. absurd (none_is i h))
    (λ h.
    let k = and_second (on_day i s) _ h in
    let o = on_out s i (and_first _ _ h) in
    let m = holds_is w i (and_first _ _ k) in
    clash _ (and_in b (meets w s) (and_second (holds w i) _ k) (lt_z_in (shared w s).from.0 (shared w s).to.0 (omega z))) e))

-- ---- the days of all parts
pub hit_none : (part : Stretch → Option Days) (i : ℤ) → hit_days part [] i ≡ true → ⊥
unfolding hit_days any
hit_none part i h = clash false h refl

module _ (part : Stretch → Option Days) (i : ℤ) (s : Stretch) (ss : List Stretch) where
  pub hit_first : on_part i (part s) ≡ true → hit_days part (s ∷ ss) i ≡ true
  unfolding hit_days
  hit_first = any_first (λ u. on_part i (part u)) s ss

  pub hit_later : hit_days part ss i ≡ true → hit_days part (s ∷ ss) i ≡ true
  unfolding hit_days
  hit_later = any_later (λ u. on_part i (part u)) s ss

  pub hit_cases : {C : Type 0} → hit_days part (s ∷ ss) i ≡ true → (on_part i (part s) ≡ true → C) → (hit_days part ss i ≡ true → C) → C
  unfolding hit_days any
  hit_cases h f g = by_cases (on_part i (part s)) f (λ e. g (sym (or_left _ _ e) ∙ h))

-- ---- a wider test of days hits as much
module _ {p q : ℤ → Bool} (f : (i : ℤ) → p i ≡ true → q i ≡ true) where
  pub hit_so : {d v : ℤ} → Hit p d v → Hit q d v
  hit_so h = record { day = h.day; late = h.late; early = h.early; bad = f h.day h.bad }

  pub long_so : {w : Days} {v : ℤ} → TooLong p w v → TooLong q w v
  long_so h = record { day = h.day; bad = f h.day h.bad; over = h.over }

-- ---- any test that the stretches tell
pub for_tests : (part : Stretch → Option Days) (ss : List Stretch) (P : (ℤ → Bool) → Type 0) → P (hit_days part ss) → ForTests part ss P
for_tests part ss P h q told = subst P (sym (fun_ext told)) h

-- ---- a walk that takes each part into account: one more
module _ {B : Type 0} (part : Stretch → Option Days) (g : Option Days → B → B) (b : B) (ss : List Stretch) (k : ℕ) where
  pub walk_more : k < length ss → {p : Option Days} → p ≡ part (get_or ss k no_stretch)
      → foldl (λ r s. g (part s) r) b (drop k ss) ≡ foldl (λ r s. g (part s) r) (g p b) (drop (k + 1) ss)
  walk_more l is =
      at_drop_more (λ us. foldl (λ r s. g (part s) r) b us) ss k no_stretch l ∙ ap (λ q. foldl (λ r s. g (part s) r) (g q b) (drop (k + 1) ss)) (sym is)

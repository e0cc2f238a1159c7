-- A choice inside a task's set and ranges, and one choice for each task of a list: what those tests say, fact by fact.
use mathlib.Core.Path.{◌≡◌, refl}
use Prim.Native.Nat.{ℕ}
use mathlib.Core.List.{List, [], ◌∷◌}
use mathlib.Core.Bool.{true, false}
use lib.IntN.{ℤ, ◌+ℤ◌}
use lib.Signed.{le_z, lt_z, ◌≤ℤ◌, ◌<ℤ◌}
use lib.Dec.{eqb}
use Rattle.integers.specs.Tests.{and, all}
use Rattle.integers.specs.Hull.{within}
use Rattle.integers.proofs.Z.{z, le_z_in, lt_z_in, eq_z_is}
use Rattle.integers.proofs.Tests.{four_is, clash, and_first, and_second, and_in}
use Rattle.integers.proofs.Hull.{within_is, within_in}
use Rattle.integers.specs.Ends.{Within}
use Rattle.plan.specs.declared.Task.{Task}
use Rattle.plan.specs.Days.{days_of}
use Rattle.plan.specs.Powers.{powers_of}
use Rattle.plan.specs.Sets.{has}
use Rattle.plan.proofs.Sets.{eqb_true, eqb_in}
use Rattle.rules.specs.Allowed.{Choice, inside, inside_all, joined, covers}

-- ---- one task
pub record Inside (t : Task) (c : Choice) : Type 0 where
  pub set : has t.set c.resource ≡ true
  pub origin : Within (days_of t.origin) c.origin
  pub duration : Within (days_of t.duration) c.duration
  pub end : Within (days_of t.end) c.end
  pub height : Within (powers_of t.height) c.height

pub inside_is : (t : Task) (c : Choice) → inside t c ≡ true → Inside t c
unfolding inside
inside_is t c h =
    let s = has t.set c.resource in
    let o = within (days_of t.origin) c.origin in
    let d = within (days_of t.duration) c.duration in
    let e = within (days_of t.end) c.end in
    let p = within (powers_of t.height) c.height in
    let k = four_is o d e p (and_second s (and o (and d (and e p))) h) in
    record {
      set = and_first s (and o (and d (and e p))) h;
      origin = within_is (days_of t.origin) c.origin k.first;
      duration = within_is (days_of t.duration) c.duration k.second;
      end = within_is (days_of t.end) c.end k.third;
      height = within_is (powers_of t.height) c.height k.fourth;
    }

pub inside_in : (t : Task) (c : Choice) → Inside t c → inside t c ≡ true
unfolding inside
inside_in t c h =
    rw (
      h.set,
      within_in (days_of t.origin) c.origin h.origin,
      within_in (days_of t.duration) c.duration h.duration,
      within_in (days_of t.end) c.end h.end,
      within_in (powers_of t.height) c.height h.height,
    )

-- the task stands on r and is under way on day i
pub record Covers (r : ℕ) (i : ℤ) (c : Choice) : Type 0 where
  pub there : c.resource ≡ r
  pub from : c.origin ≤ℤ i
  pub to : i <ℤ c.end

pub covers_is : (r : ℕ) (i : ℤ) (c : Choice) → covers r i c ≡ true → Covers r i c
unfolding covers
covers_is r i c h =
    let a = le_z c.origin i in
    let b = lt_z i c.end in
    let g : and a b ≡ true = and_second (eqb c.resource r) (and a b) h in
    let p : a ≡ true = and_first a b g in
    let q : b ≡ true = and_second a b g in
    record { there = eqb_true c.resource r (and_first (eqb c.resource r) (and a b) h); from = omega z; to = omega z }

pub covers_in : (r : ℕ) (i : ℤ) (c : Choice) → Covers r i c → covers r i c ≡ true
unfolding covers
covers_in r i c h = rw (eqb_in c.resource r h.there, le_z_in c.origin i h.from, lt_z_in i c.end h.to)

pub joined_is : (c : Choice) → joined c ≡ true → c.origin +ℤ c.duration ≡ c.end
unfolding joined
joined_is c h = eq_z_is (c.origin +ℤ c.duration) c.end h

-- ---- every task
-- one choice inside each task, with origin + duration = end
pub data Fit : List Task → List Choice → Type 0 where
  none : Fit [] []
  more : {t : Task} {c : Choice} {ts : List Task} {cs : List Choice} → Inside t c → c.origin +ℤ c.duration ≡ c.end → Fit ts cs → Fit (t ∷ ts) (c ∷ cs)

-- c is the choice for the task t
pub data For (t : Task) (c : Choice) : List Task → List Choice → Type 0 where
  here : {ts : List Task} {cs : List Choice} → For t c (t ∷ ts) (c ∷ cs)
  later : {u : Task} {d : Choice} {ts : List Task} {cs : List Choice} → For t c ts cs → For t c (u ∷ ts) (d ∷ cs)

pub fit_is : (ts : List Task) (cs : List Choice) → inside_all ts cs ≡ true → all joined cs ≡ true → Fit ts cs
unfolding inside_all all
fit_is [] [] h j = none
fit_is [] (c ∷ cs) h j = clash false h refl
fit_is (t ∷ ts) [] h j = clash false h refl
fit_is (t ∷ ts) (c ∷ cs) h j =
    more (inside_is t c (and_first (inside t c) (inside_all ts cs) h)) (joined_is c (and_first (joined c) (all joined cs) j))
    (fit_is ts cs (and_second (inside t c) (inside_all ts cs) h) (and_second (joined c) (all joined cs) j))

pub fit_in : {ts : List Task} {cs : List Choice} → Fit ts cs → inside_all ts cs ≡ true
unfolding inside_all
fit_in none = refl
fit_in (more {t} {c} {ts} {cs} h j f) = and_in (inside t c) (inside_all ts cs) (inside_in t c h) (fit_in f)

pub for_inside : {t : Task} {c : Choice} {ts : List Task} {cs : List Choice} → Fit ts cs → For t c ts cs → Inside t c
for_inside {t = t} {c = c} none k = elim k [ ]
for_inside (more h j f) here = h
for_inside (more h j f) (later k) = for_inside f k

pub for_joined : {t : Task} {c : Choice} {ts : List Task} {cs : List Choice} → Fit ts cs → For t c ts cs → c.origin +ℤ c.duration ≡ c.end
for_joined {t = t} {c = c} none k = elim k [ ]
for_joined (more h j f) here = j
for_joined (more h j f) (later k) = for_joined f k

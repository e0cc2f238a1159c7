-- What the sweep's stretches say: one after the other, each exact on its days and cut by no key, and no rule can touch a day between them.
use mathlib.Core.Path.{◌≡◌, refl}
use mathlib.Core.Bool.{Bool, true, false}
use mathlib.Core.List.{List, [], ◌∷◌, ◌++◌, append-nil}
use Prim.Native.Nat.{ℕ, zero, suc, ◌≤◌, ◌<◌}
use native.Mathlib.Nat.{not-suc-le-zero, le_of_suc-le-suc}
use lib.ListN.{length, get_or}
use lib.IntN.{ℤ, pos, ◌+ℤ◌, +ℤ_assoc, +ℤ_idr}
use lib.Signed.{◌≤ℤ◌, ◌<ℤ◌, le_z, lt_z}
use Rattle.integers.specs.Tests.{or, all, any}
use Rattle.integers.specs.Lists.{Each}
use Rattle.integers.specs.Lists.Each.{nothing, also}
use Rattle.integers.specs.Sums.{sum_of}
use Rattle.integers.proofs.Z.{z, le_z_in, le_z_out, lt_z_in, lt_z_out}
use Rattle.integers.proofs.Tests.{clash, by_cases, and_first, and_in, or_first, or_second, or_none}
use Rattle.integers.proofs.Lists.{each_in, each_so, all_members}
use Rattle.sorting.specs.Order.{RisesFrom}
use Rattle.stretches.specs.declared.Stretch.{Stretch}
use Rattle.stretches.specs.View.{no_stretch, on_day}
use Rattle.stretches.specs.Tells.{Ordered}
use Rattle.stretches.proofs.View.{on_out, on_in}
use Rattle.events.specs.declared.Extremes.{Extremes}
use Rattle.events.specs.Keys.{day_of, power_of, sure_of}
use Rattle.events.proofs.Keys.{day_rises}
use Rattle.events.proofs.Adds.{up_to}
use Rattle.events.proofs.Days.{on_days}
use Rattle.profile.specs.declared.Level.{Level}
use Rattle.profile.specs.Sweep.{level, changed, tight_in, stretch_in, worth, worthy, swept}

-- what a level and the keys after it add up to on day i
unfoldable pub level_on : Level → List ℕ → ℤ → Level
level_on v ks i = level (v.slack.0 +ℤ sum_of (up_to power_of i) ks) (v.sure.0 +ℤ sum_of (up_to sure_of i) ks)

-- ---- one after the other, from day a on
unfoldable pub Chain : ℤ → List Stretch → Type 0
Chain a [] = Unit
Chain a (u ∷ us) = (a ≤ℤ u.from.0) × (u.from.0 <ℤ u.to.0) × Chain u.to.0 us

chain_down : (a b : ℤ) (us : List Stretch) → a ≤ℤ b → Chain b us → Chain a us
unfolding Chain
chain_down a b [] h c = tt
chain_down a b (u ∷ us) h c = (omega (z, c.0), c.1, c.2)

pub chain_ordered : (a : ℤ) (us : List Stretch) → Chain a us → Ordered us
unfolding Chain Ordered
chain_ordered a [] c = tt
chain_ordered a (u ∷ []) c = c.1
chain_ordered a (u ∷ w ∷ us) c = (c.1, c.2.0, chain_ordered u.to.0 (w ∷ us) c.2)

chain_at : (a : ℤ) (us : List Stretch) → Chain a us → (q : ℕ) → q < length us → a ≤ℤ (get_or us q no_stretch).from.0
unfolding Chain
chain_at a [] c q h = absurd (not-suc-le-zero h)
chain_at a (u ∷ us) c zero h = c.0
chain_at a (u ∷ us) c (suc q) h = let w = chain_at u.to.0 us c.2 q (le_of_suc-le-suc h) in omega (z, c.0, c.1)

pub chain_rises : (a : ℤ) (us : List Stretch) → Chain a us → (p q : ℕ) → p ≤ q → q < length us
    → (get_or us p no_stretch).from.0 ≤ℤ (get_or us q no_stretch).from.0
unfolding Chain
chain_rises a [] c p q l h = absurd (not-suc-le-zero h)
chain_rises a (u ∷ us) c zero zero l h = omega z
chain_rises a (u ∷ us) c zero (suc q) l h = let w = chain_at u.to.0 us c.2 q (le_of_suc-le-suc h) in omega (z, c.1)
chain_rises a (u ∷ us) c (suc p) zero l h = absurd (not-suc-le-zero l)
chain_rises a (u ∷ us) c (suc p) (suc q) l h = chain_rises u.to.0 us c.2 p q (le_of_suc-le-suc l) (le_of_suc-le-suc h)

-- ---- the stretch says what the levels are on its days, lies between a and b, and no key's day lies inside
-- the day does not lie inside the stretch: it is no later than its first, or behind it
abbrev pub apart : Stretch → ℤ → Bool
apart u d = or (le_z d u.from.0) (le_z u.to.0 d)

pub record Says (lv : ℤ → Level) (ks : List ℕ) (a b : ℤ) (u : Stretch) : Type 0 where
  pub slack : (i : ℤ) → on_day i u ≡ true → u.slack.0 ≡ (lv i).slack.0
  pub tight : (i : ℤ) → on_day i u ≡ true → u.tight.0 ≡ tight_in (lv i)
  pub first : a ≤ℤ u.from.0
  pub filled : u.from.0 <ℤ u.to.0
  pub last : u.to.0 ≤ℤ b
  pub whole : on_days (apart u) ks ≡ true

-- no rule can touch a task here on such a day
pub record Calm (e : Extremes) (v : Level) : Type 0 where
  pub bar : e.bar.0 ≤ℤ v.slack.0
  pub lift : e.lift.0 ≤ℤ tight_in v

pub record Spread (e : Extremes) (a : ℤ) (lv : ℤ → Level) (ks : List ℕ) (us : List Stretch) : Type 0 where
  pub chain : Chain a us
  pub told : Each (Says lv ks a e.high.0) us
  pub calm : (i : ℤ) → a ≤ℤ i → i <ℤ e.high.0 → any (on_day i) us ≡ false → Calm e (lv i)

-- ---- a stretch that is put, and one that is not
module _ (e : Extremes) (a d : ℤ) (v : Level) where
  worth_days : worth e (stretch_in a d v) ≡ true → a <ℤ d
  unfolding worth stretch_in
  worth_days w = let l = and_first (lt_z a d) _ w in omega z

  worth_calm : worth e (stretch_in a d v) ≡ false → a <ℤ d → Calm e v
  unfolding worth stretch_in
  worth_calm w h =
      let g = or_none (lt_z v.slack.0 e.bar.0) (lt_z (tight_in v) e.lift.0) (rw (lt_z_in a d h) at w) in
      omega (z, g.0, g.1)

  too_late : d ≤ℤ a → worth e (stretch_in a d v) ≡ false
  unfolding worth stretch_in
  too_late h = rw (lt_z_out a d h)

-- ---- the stretch from a to d in front of what follows from d on
module _ (e : Extremes) (a d : ℤ) (v : Level) (lv : ℤ → Level) (ks : List ℕ) (us : List Stretch)
    (low : a ≤ℤ d) (high : d ≤ℤ e.high.0)
    (here : (i : ℤ) → a ≤ℤ i → i <ℤ d → lv i ≡ v)
    (later : Each (λ k. d ≤ℤ day_of k) ks)
    (s : Spread e d lv ks us) where
  abbrev first : Stretch
  first = stretch_in a d v

  first_told : a <ℤ d → Says lv ks a e.high.0 first
  unfolding stretch_in
  first_told h =
      record {
        slack = λ i on. let o = on_out first i on in rw (here i o.late o.early);
        tight = λ i on. let o = on_out first i on in rw (here i o.late o.early);
        first = omega z;
        filled = h;
        last = high;
        whole = all_members (λ k. apart first (day_of k)) ks (λ k m. or_second (le_z (day_of k) a) (le_z d (day_of k)) (le_z_in d (day_of k) (each_in later m)));
      }

  rest_told : Each (Says lv ks a e.high.0) us
  rest_told =
      each_so
      (λ u t. record { slack = t.slack; tight = t.tight; first = omega (z, t.first); filled = t.filled; last = t.last; whole = t.whole })
      s.told

  front : Spread e a lv ks (worthy e first ++ us)
  unfolding stretch_in Chain any
  front =
      by_cases (worth e first)
      (λ w.
      let h = worth_days e a d v w in
      rw w
      (record {
        chain = (omega z, h, s.chain);
        told = also (first_told h) rest_told;
        calm = λ i l m off.
            let n = or_none (on_day i first) (any (on_day i) us) off in
            by_cases (lt_z i d) (λ b. clash (on_day i first) (on_in first i l (omega z)) n.0) (λ b. s.calm i (omega z) m n.1);
      }))
      (λ w.
      rw w
      (record {
        chain = chain_down a d us low s.chain;
        told = rest_told;
        calm = λ i l m off.
            by_cases (lt_z i d) (λ b. rw (here i l (omega z)) (worth_calm e a d v w (omega z))) (λ b. s.calm i (omega z) m off);
      }))

-- ---- levels
none_yet : (f : ℕ → ℤ) (i : ℤ) {ks : List ℕ} → Each (λ k. i <ℤ day_of k) ks → sum_of (up_to f i) ks ≡ pos 0
unfolding sum_of
none_yet f i nothing = refl
none_yet f i (also {x = k} h hs) = rw (le_z_out (day_of k) i h, none_yet f i hs)

-- no key's day has come
level_before : (v : Level) (i : ℤ) {ks : List ℕ} → Each (λ k. i <ℤ day_of k) ks → level_on v ks i ≡ v
unfolding level_on
level_before v i h = rw (none_yet power_of i h, none_yet sure_of i h, +ℤ_idr v.slack.0, +ℤ_idr v.sure.0)

-- the first key's day has come
level_after : (v : Level) (i : ℤ) (k : ℕ) (ks : List ℕ) → day_of k ≤ℤ i → level_on v (k ∷ ks) i ≡ level_on (changed v k) ks i
unfolding level_on changed sum_of
level_after v i k ks h =
    rw (
      le_z_in (day_of k) i h,
      ← (+ℤ_assoc v.slack.0 (power_of k) (sum_of (up_to power_of i) ks)),
      ← (+ℤ_assoc v.sure.0 (sure_of k) (sum_of (up_to sure_of i) ks)),
    )

-- ---- the whole sweep
-- what follows a key, with that key counted in
behind : (e : Extremes) (v : Level) (k : ℕ) (ks : List ℕ) (us : List Stretch) →
    Spread e (day_of k) (level_on (changed v k) ks) ks us →
    Spread e (day_of k) (level_on v (k ∷ ks)) (k ∷ ks) us
unfolding all
behind e v k ks us s =
    record {
      chain = s.chain;
      told =
          each_so
          (λ u t.
          record {
            slack = λ i on. rw (level_after v i k ks (let o = on_out u i on in omega (z, t.first))) (t.slack i on);
            tight = λ i on. rw (level_after v i k ks (let o = on_out u i on in omega (z, t.first))) (t.tight i on);
            first = t.first;
            filled = t.filled;
            last = t.last;
            whole =
                and_in (apart u (day_of k)) (on_days (apart u) ks)
                (or_first (le_z (day_of k) u.from.0) (le_z u.to.0 (day_of k)) (le_z_in (day_of k) u.from.0 t.first)) t.whole;
          })
          s.told;
      calm = λ i l m off. rw (level_after v i k ks l) (s.calm i l m off);
    }

rises_each : (b : ℕ) (ks : List ℕ) → RisesFrom b ks → Each (λ k. day_of b ≤ℤ day_of k) ks
unfolding RisesFrom
rises_each b [] r = nothing
rises_each b (k ∷ ks) r =
    let d = day_rises b k r.0 in
    also d (each_so (λ l h. omega z) (rises_each k ks r.1))

pub swept_spread : (e : Extremes) (a : ℤ) (v : Level) (b : ℕ) {ks : List ℕ} →
    RisesFrom b ks →
    Each (λ k. a ≤ℤ day_of k) ks →
    Each (λ k. day_of k ≤ℤ e.high.0) ks →
    Spread e a (level_on v ks) ks (swept e a v ks)
unfolding swept RisesFrom Chain any
swept_spread e a v b r nothing nothing =
    let none : Spread e e.high.0 (level_on v []) [] [] = record { chain = tt; told = nothing; calm = λ i x y off. absurd (omega z) } in
    by_cases (le_z a e.high.0)
    (λ h. rw append-nil at (front e a e.high.0 v (level_on v []) [] [] (omega z) (omega z) (λ i x y. level_before v i nothing) nothing none))
    (λ h. rw (too_late e a e.high.0 v (omega z)) (record { chain = tt; told = nothing; calm = λ i x y off. absurd (omega z) }))
swept_spread e a v b r (also {x = k} {xs = ks} l ls) (also m ms) =
    let later = rises_each k ks r.1 in
    front e a (day_of k) v (level_on v (k ∷ ks)) (k ∷ ks) (swept e (day_of k) (changed v k) ks) l m
    (λ i x y. level_before v i (also y (each_so (λ q h. omega z) later)))
    (also (omega z) later)
    (behind e v k ks (swept e (day_of k) (changed v k) ks) (swept_spread e (day_of k) (changed v k) k r.1 later ms))

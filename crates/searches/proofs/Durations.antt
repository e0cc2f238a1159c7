-- The longest duration that misses a day of every part, part by part.
-- Day by day, a part of days a .. b - 1 leaves the least room of its days: that of a or of b - 1, or half the reach if the middle lies
-- between them.
use mathlib.Core.Path.{◌≡◌}
use mathlib.Core.Bool.{Bool, true, not}
use mathlib.Core.List.{List, [], ◌∷◌, foldl}
use Rattle.std.specs.Prelude.{Option, None, Some}
use lib.IntN.{ℤ, pos, ◌+ℤ◌, ◌-ℤ◌, pred_ℤ}
use lib.Signed.{lt_z, ◌≤ℤ◌, ◌<ℤ◌}
use Rattle.integers.specs.Tests.{and}
use Rattle.integers.specs.Whole.{larger, smaller}
use Rattle.integers.proofs.Z.{z, +z, -z, maxz, minz, predz}
use Rattle.stretches.specs.declared.Stretch.{Stretch}
use Rattle.searches.specs.declared.Days.{Days}
use Rattle.searches.specs.declared.Reach.{Reach}
use Rattle.searches.specs.Searches.{holds, shared, part_of, barred_part, on_part, hit_days, room, Longest, Half}
use Rattle.searches.proofs.Parts.{lt_cases, some_is, some_in, none_is, part_cases, hit_none, hit_first, hit_later, hit_cases, long_so}

-- the longest duration that misses one day of the part, if that is shorter than r
abbrev pub shorter : Days → ℤ → Option Days → ℤ → ℤ
shorter w h None r = r
shorter w h (Some p) r = smaller r (larger h (larger (p.from.0 -ℤ w.from.0) (w.to.0 -ℤ p.to.0)))

module _ (w : Days) (h : ℤ) (half : Half w h) where
  abbrev low : ℤ
  low = w.from.0

  abbrev high : ℤ
  high = w.to.0

  -- no day has less room than half
  half_room : (i : ℤ) → h ≤ℤ room w i
  half_room i =
      omega (z, half, -z high low, +z h h, +z (h +ℤ h) (pos 1), maxz (i -ℤ low) ((high -ℤ i) -ℤ pos 1), -z i low, -z high i, -z (high -ℤ i) (pos 1))

  -- ---- one part, of days a .. b - 1
  module _ (a b : ℤ) where
    -- what it leaves
    abbrev rest : ℤ
    rest = larger h (larger (a -ℤ low) (high -ℤ b))

    misses : (i : ℤ) → a ≤ℤ i → i <ℤ b → rest ≤ℤ room w i
    misses i k l =
        let f₁ = maxz h (larger (a -ℤ low) (high -ℤ b)) in
        let f₂ = maxz (a -ℤ low) (high -ℤ b) in
        let f₃ = maxz (i -ℤ low) ((high -ℤ i) -ℤ pos 1) in
        omega (z, half_room i, -z a low, -z high b, -z i low, -z high i, -z (high -ℤ i) (pos 1))

    -- a day of the part with no more room than that
    record Met : Type 0 where
      day : ℤ
      late : a ≤ℤ day
      early : day <ℤ b
      tight : room w day ≤ℤ rest

    tight_at : (i : ℤ) → (i -ℤ low) ≤ℤ rest → ((high -ℤ i) -ℤ pos 1) ≤ℤ rest → room w i ≤ℤ rest
    tight_at i k l = omega (z, maxz (i -ℤ low) ((high -ℤ i) -ℤ pos 1))

    -- the middle, or the part's day next to it
    meets : a <ℤ b → Met
    meets k =
        let j = pred_ℤ b in
        let c = low +ℤ h in
        let m = smaller j c in
        let i = larger a m in
        let f₁ = maxz a m in
        let f₂ = minz j c in
        let f₃ = predz b in
        let f₄ = +z low h in
        let m₁ : h ≤ℤ rest = omega (z, maxz h (larger (a -ℤ low) (high -ℤ b))) in
        let m₂ : (a -ℤ low) ≤ℤ rest = omega (z, maxz h (larger (a -ℤ low) (high -ℤ b)), maxz (a -ℤ low) (high -ℤ b)) in
        let m₃ : (high -ℤ b) ≤ℤ rest = omega (z, maxz h (larger (a -ℤ low) (high -ℤ b)), maxz (a -ℤ low) (high -ℤ b)) in
        record {
          day = i;
          late = omega z;
          early = omega z;
          tight = tight_at i (omega (z, -z i low, -z a low)) (omega (z, half, -z high i, -z (high -ℤ i) (pos 1), -z high b, -z high low, +z h h, +z (h +ℤ h) (pos 1)));
        }

  -- the longest that misses it
  cut_once : (u : Days) (s : Stretch) (b : Bool) (r : ℤ) → Longest (λ i. on_part i (part_of u s b)) w r (shorter w h (part_of u s b) r)
  cut_once u s b r =
      part_cases (λ (p : Option Days). Longest (λ i. on_part i p) w r (shorter w h p r)) u s b
      (λ e l.
      let p = shared u s in
      let y = rest p.from.0 p.to.0 in
      let x = meets p.from.0 p.to.0 l in
      record {
        most = omega (z, minz r y);
        cut = λ v m n. record { day = x.day; bad = some_in p x.day x.late x.early; over = omega (z, minz r y, x.tight) };
        kept = λ v m t. let o = some_is p t.day t.bad in omega (z, minz r y, misses p.from.0 p.to.0 t.day o.late o.early, t.over);
      })
      (λ e. record { most = omega z; cut = λ v m n. absurd (omega z); kept = λ v m t. none_is t.day t.bad })

  -- ---- all parts
  module _ (x : Reach) where
    abbrev part : Stretch → Option Days
    part = barred_part x

    pub longest_of : (ss : List Stretch) (m : ℤ) → Longest (hit_days part ss) w m (foldl (λ r s. shorter w h (part s) r) m ss)
    longest_of [] m = record { most = omega z; cut = λ v a b. absurd (omega z); kept = λ v a t. hit_none part t.day t.bad }
    longest_of (s ∷ ss) m =
        let r = shorter w h (part s) m in
        let y = cut_once x.days s (and (lt_z s.slack.0 x.bar.0) (not (holds x.sure s.from.0))) m in
        let t = longest_of ss r in
        record {
          most = omega (z, y.most, t.most);
          cut =
              λ v a b.
              lt_cases r v (λ c. long_so (λ i. hit_first part i s ss) (y.cut v c b))
              (λ c. long_so (λ i. hit_later part i s ss) (t.cut v a c));
          kept =
              λ v a k.
              hit_cases part k.day s ss k.bad
              (λ o. y.kept v (omega (z, t.most)) (record { day = k.day; bad = o; over = k.over }))
              (λ o. t.kept v a (record { day = k.day; bad = o; over = k.over }));
        }

-- a duration of at most half the reach is never too long
pub longest_half : (q : ℤ → Bool) (w : Days) (h m : ℤ) → Half w h → m ≤ℤ h → Longest q w m m
longest_half q w h m half l =
    record { most = omega z; cut = λ v a b. absurd (omega z); kept = λ v a y. omega (z, half_room w h half y.day, y.over) }

-- where no day passes the test, every duration stays
pub longest_none : (q : ℤ → Bool) (w : Days) (m : ℤ) → ((i : ℤ) → q i ≡ true → ⊥) → Longest q w m m
longest_none q w m f = record { most = omega z; cut = λ v c d. absurd (omega z); kept = λ v c y. f y.day y.bad }

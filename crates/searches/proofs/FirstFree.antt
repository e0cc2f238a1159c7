-- The first free value, part by part from the first: a part that begins before the days of v end hits every value up to its last day;
-- the first that begins later ends the search.
use mathlib.Core.Path.{◌≡◌, ◌∙◌}
use mathlib.Core.Bool.{Bool, true, not}
use mathlib.Core.List.{List, [], ◌∷◌}
use Prim.Native.Nat.{ℕ, ◌+◌, ◌<◌}
use lib.ListN.{length, drop, get_or}
use Rattle.std.specs.Prelude.{Option, None, Some}
use Rattle.std.proofs.lemmas.List.{at_drop_more}
use lib.IntN.{ℤ, pos, ◌+ℤ◌}
use lib.Signed.{le_z, lt_z, ◌≤ℤ◌, ◌<ℤ◌}
use Rattle.integers.specs.Tests.{if, and}
use Rattle.integers.specs.Whole.{larger}
use Rattle.integers.proofs.Z.{z, +z, maxz, le_z_in, le_z_out}
use Rattle.integers.proofs.Tests.{if-case}
use Rattle.stretches.specs.declared.Stretch.{Stretch}
use Rattle.stretches.specs.View.{no_stretch}
use Rattle.stretches.specs.Tells.{Ordered}
use Rattle.searches.specs.declared.Days.{Days}
use Rattle.searches.specs.declared.Reach.{Reach}
use Rattle.searches.specs.Searches.{holds, shared, part_of, barred_part, on_part, hit_days, ForBars, Hit, FirstFree}
use Rattle.searches.proofs.Parts.{lt_cases, some_is, some_in, none_is, part_cases, hit_none, hit_first, hit_later, hit_cases, hit_so, for_tests}
use Rattle.searches.proofs.Order.{ordered_rest, ordered_first}

-- ---- one part
-- v, or the first day past the part
abbrev pub past : Option Days → ℤ → ℤ
past None v = v
past (Some p) v = larger v p.to.0

-- every value from v to before r is hit by the part, and no day of it is left from r on
record Passed (p : Option Days) (d v r : ℤ) : Type 0 where
  least : v ≤ℤ r
  hit : (w : ℤ) → v ≤ℤ w → w <ℤ r → Hit (λ i. on_part i p) d w
  over : (i : ℤ) → on_part i p ≡ true → i <ℤ r

past_passed : (u : Days) (s : Stretch) (b : Bool) (d v : ℤ) → pos 1 ≤ℤ d → (shared u s).from.0 <ℤ (v +ℤ d) → Passed (part_of u s b) d v (past (part_of u s b) v)
past_passed u s b d v long near =
    part_cases (λ (p : Option Days). Passed p d v (past p v)) u s b
    (λ e l.
    let p = shared u s in
    let m = maxz v p.to.0 in
    record {
      least = omega z;
      hit =
          λ w c n.
          let i = larger w p.from.0 in
          let o = maxz w p.from.0 in
          record { day = i; late = omega z; early = omega (z, +z w d, +z v d); bad = some_in p i (omega z) (omega z) };
      over = λ i o. let h = some_is p i o in omega z;
    })
    (λ e. record { least = omega z; hit = λ w m n. absurd (omega z); over = λ i m. absurd (none_is i m) })

-- ---- all parts
module _ (x : Reach) where
  abbrev pub first_from : ℤ → List Stretch → ℤ → ℤ
  first_from d [] v = v
  first_from d (s ∷ ss) v = if (le_z (v +ℤ d) (shared x.days s).from.0) v (first_from d ss (past (barred_part x s) v))

  -- what is left from place k on
  module _ (d : ℤ) (ss : List Stretch) (k : ℕ) (v : ℤ) (l : k < length ss) where
    abbrev here : Stretch
    here = get_or ss k no_stretch

    pub first_stop : (v +ℤ d) ≤ℤ (shared x.days here).from.0 → first_from d (drop k ss) v ≡ v
    first_stop h = at_drop_more (λ (us : List Stretch). first_from d us v) ss k no_stretch l ∙ rw (le_z_in (v +ℤ d) (shared x.days here).from.0 h)

    pub first_more : (shared x.days here).from.0 <ℤ (v +ℤ d) → {p : Option Days} → p ≡ barred_part x here → first_from d (drop k ss) v ≡ first_from d (drop (k + 1) ss) (past p v)
    first_more h is = at_drop_more (λ (us : List Stretch). first_from d us v) ss k no_stretch l ∙ rw (le_z_out (v +ℤ d) (shared x.days here).from.0 h, is)

  -- the days of a part, and of later parts
  part_after : (i : ℤ) (u : Stretch) → on_part i (barred_part x u) ≡ true → (shared x.days u).from.0 ≤ℤ i
  part_after i u =
      part_cases (λ (p : Option Days). on_part i p ≡ true → (shared x.days u).from.0 ≤ℤ i) x.days u (and (lt_z u.slack.0 x.bar.0) (not (holds x.sure u.from.0)))
      (λ e l h. (some_is (shared x.days u) i h).late)
      (λ e h. absurd (none_is i h))

  pub days_after : (i : ℤ) (s : Stretch) (ss : List Stretch) → Ordered (s ∷ ss) → hit_days (barred_part x) ss i ≡ true → (s.to.0 ≤ℤ i) × (x.days.from.0 ≤ℤ i)
  unfolding Ordered
  days_after i s [] o h = absurd (hit_none (barred_part x) i h)
  days_after i s (u ∷ ss) o h =
      hit_cases (barred_part x) i u ss h
      (λ e. let y = part_after i u e in let l = maxz u.from.0 x.days.from.0 in (omega (z, o.1), omega z))
      (λ y. let a = days_after i u ss o.2 y in let b = ordered_first u ss o.2 in (omega (z, o.1), a.1))

  module _ (d : ℤ) (long : pos 1 ≤ℤ d) where
    first_free : (ss : List Stretch) → Ordered ss → (v : ℤ) → FirstFree (hit_days (barred_part x) ss) d v (first_from d ss v)
    first_free [] o v = record { least = omega z; before = λ w a b. absurd (omega z); free = λ h. hit_none (barred_part x) h.day h.bad }
    first_free (s ∷ ss) o v =
        let p = barred_part x s in
        let from = (shared x.days s).from.0 in
        if-case (FirstFree (hit_days (barred_part x) (s ∷ ss)) d v) (le_z (v +ℤ d) from) v (first_from d ss (past p v))
        (λ e.
        record {
          least = omega z;
          before = λ w a b. absurd (omega z);
          free =
              λ h.
              hit_cases (barred_part x) h.day s ss h.bad (λ m. omega (z, part_after h.day s m, h.early))
              (λ m.
              let a = days_after h.day s ss o m in
              let b = ordered_first s ss o in
              omega (z, maxz s.from.0 x.days.from.0, h.early));
        })
        (λ e.
        let y = past_passed x.days s (and (lt_z s.slack.0 x.bar.0) (not (holds x.sure s.from.0))) d v long (omega z) in
        let t = first_free ss (ordered_rest s ss o) (past p v) in
        record {
          least = omega (z, y.least, t.least);
          before =
              λ w a b.
              lt_cases w (past p v) (λ c. hit_so (λ i. hit_first (barred_part x) i s ss) (y.hit w a c))
              (λ c. hit_so (λ i. hit_later (barred_part x) i s ss) (t.before w c b));
          free =
              λ h.
              hit_cases (barred_part x) h.day s ss h.bad
              (λ m. omega (z, y.over h.day m, t.least, h.late))
              (λ m. t.free (record { day = h.day; late = h.late; early = h.early; bad = m }));
        })

    pub first_answer : (ss : List Stretch) (v r : ℤ) → r ≡ first_from d ss v → ForBars x ss (λ q. FirstFree q d v r)
    first_answer ss v r e o = for_tests (barred_part x) ss (λ q. FirstFree q d v r) (rw e (first_free ss o v))

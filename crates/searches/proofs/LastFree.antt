-- The last free value, part by part from the last: a part that ends past v hits every value down to where its days end before the part;
-- the first that ends by v ends the search.
use mathlib.Core.Path.{◌≡◌, refl, ap, ◌∙◌}
use mathlib.Core.Bool.{Bool, true, not}
use mathlib.Core.List.{List, [], ◌∷◌, ◌++◌}
use Rattle.std.specs.Prelude.{Option, None, Some}
use lib.IntN.{ℤ, pos, ◌+ℤ◌, ◌-ℤ◌}
use lib.Signed.{le_z, lt_z, ◌≤ℤ◌, ◌<ℤ◌}
use Rattle.integers.specs.Tests.{if, and}
use Rattle.integers.specs.Whole.{larger, smaller}
use Rattle.integers.proofs.Z.{z, +z, -z, maxz, minz, le_z_in, le_z_out}
use Rattle.integers.proofs.Tests.{if-case}
use Rattle.stretches.specs.declared.Stretch.{Stretch}
use Rattle.stretches.specs.Tells.{Ordered}
use Rattle.searches.specs.declared.Days.{Days}
use Rattle.searches.specs.declared.Reach.{Reach}
use Rattle.searches.specs.Searches.{holds, shared, part_of, barred_part, on_part, hit_days, ForBars, Hit, LastFree}
use Rattle.searches.proofs.Parts.{lt_cases, some_is, some_in, none_is, part_cases, hit_none, hit_first, hit_later, hit_cases, hit_so, for_tests}
use Rattle.searches.proofs.Order.{ordered_rest, ordered_last}
use Rattle.searches.proofs.FirstFree.{days_after}

module _ (x : Reach) (d : ℤ) where
  -- ---- one part
  -- v, or the last value whose d days end before the part
  abbrev pub back : Option Days → ℤ → ℤ
  back None v = v
  back (Some p) v = smaller v (p.from.0 -ℤ d)

  -- every value from v down to past r is hit by the part, and no day of it is left before r + d
  record Passed (p : Option Days) (v r : ℤ) : Type 0 where
    most : r ≤ℤ v
    hit : (w : ℤ) → r <ℤ w → w ≤ℤ v → Hit (λ i. on_part i p) d w
    over : (i : ℤ) → on_part i p ≡ true → (r +ℤ d) ≤ℤ i

  back_passed : (u : Days) (s : Stretch) (b : Bool) (v : ℤ) → pos 1 ≤ℤ d → v <ℤ (shared u s).to.0 → Passed (part_of u s b) v (back (part_of u s b) v)
  back_passed u s b v long near =
      part_cases (λ (p : Option Days). Passed p v (back p v)) u s b
      (λ e l.
      let p = shared u s in
      let f = p.from.0 in
      let m = minz v (f -ℤ d) in
      let n = -z f d in
      record {
        most = omega z;
        hit =
            λ w c k.
            let i = larger w f in
            let o = maxz w f in
            record { day = i; late = omega z; early = omega (z, +z w d); bad = some_in p i (omega z) (omega z) };
        over = λ i o. let h = some_is p i o in omega (z, +z (smaller v (f -ℤ d)) d);
      })
      (λ e. record { most = omega z; hit = λ w m n. absurd (omega z); over = λ i m. absurd (none_is i m) })

  part_before : (i : ℤ) (u : Stretch) → on_part i (barred_part x u) ≡ true → i <ℤ (shared x.days u).to.0
  part_before i u =
      part_cases (λ (p : Option Days). on_part i p ≡ true → i <ℤ (shared x.days u).to.0) x.days u (and (lt_z u.slack.0 x.bar.0) (not (holds x.sure u.from.0)))
      (λ e l h. (some_is (shared x.days u) i h).early)
      (λ e h. absurd (none_is i h))

  -- ---- all parts, the last first
  abbrev step : Stretch → ℤ → ℤ
  step s v = if (le_z (shared x.days s).to.0 v) v (back (barred_part x s) v)

  abbrev pub last_of : List Stretch → ℤ → ℤ
  last_of [] v = v
  last_of (s ∷ ss) v = step s (last_of ss v)

  -- with one more at the end, the search begins there
  pub last_push : (ss : List Stretch) (s : Stretch) (v : ℤ) → last_of (ss ++ s ∷ []) v ≡ last_of ss (step s v)
  last_push [] s v = refl
  last_push (u ∷ ss) s v = ap (step u) (last_push ss s v)

  pub last_more : (ss : List Stretch) (s : Stretch) (v : ℤ) → v <ℤ (shared x.days s).to.0 → {p : Option Days} → p ≡ barred_part x s → last_of (ss ++ s ∷ []) v ≡ last_of ss (back p v)
  last_more ss s v h is = last_push ss s v ∙ rw (le_z_out (shared x.days s).to.0 v h, is)

  -- where it ends by v, so do all before it
  pub last_stop : (ss : List Stretch) (s : Stretch) (v : ℤ) → Ordered (ss ++ s ∷ []) → (shared x.days s).to.0 ≤ℤ v → last_of (ss ++ s ∷ []) v ≡ v
  last_stop [] s v o h = rw (le_z_in (shared x.days s).to.0 v h)
  last_stop (u ∷ ss) s v o h =
      let f = last_stop ss s v (ordered_rest u (ss ++ s ∷ []) o) h in
      let a = ordered_last u ss s o in
      let w = x.days.to.0 in
      rw (f, le_z_in (smaller u.to.0 w) v (omega (z, minz s.to.0 w, minz u.to.0 w)))

  last_free : pos 1 ≤ℤ d → (ss : List Stretch) → Ordered ss → (v : ℤ) → LastFree (hit_days (barred_part x) ss) d v (last_of ss v)
  last_free long [] o v = record { most = omega z; after = λ w a b. absurd (omega z); free = λ h. hit_none (barred_part x) h.day h.bad }
  last_free long (s ∷ ss) o v =
      let p = barred_part x s in
      let to = (shared x.days s).to.0 in
      let u = last_of ss v in
      let t = last_free long ss (ordered_rest s ss o) v in
      let before : (i : ℤ) → hit_days (barred_part x) ss i ≡ true → to ≤ℤ i =
      λ i m. let a = days_after x i s ss o m in omega (z, minz s.to.0 x.days.to.0) in
      if-case (LastFree (hit_days (barred_part x) (s ∷ ss)) d v) (le_z to u) u (back p u)
      (λ e.
      record {
        most = t.most;
        after = λ w a b. hit_so (λ i. hit_later (barred_part x) i s ss) (t.after w a b);
        free =
            λ h.
            hit_cases (barred_part x) h.day s ss h.bad (λ m. omega (z, part_before h.day s m, h.late))
            (λ m. t.free (record { day = h.day; late = h.late; early = h.early; bad = m }));
      })
      (λ e.
      let y = back_passed x.days s (and (lt_z s.slack.0 x.bar.0) (not (holds x.sure s.from.0))) u long (omega z) in
      record {
        most = omega (z, y.most, t.most);
        after =
            λ w a b.
            lt_cases u w (λ c. hit_so (λ i. hit_later (barred_part x) i s ss) (t.after w c b))
            (λ c. hit_so (λ i. hit_first (barred_part x) i s ss) (y.hit w a c));
        free =
            λ h.
            hit_cases (barred_part x) h.day s ss h.bad (λ m. omega (z, y.over h.day m, h.early))
            (λ m.
            t.free
            (record {
              day = h.day;
              late = omega (z, before h.day m);
              early = omega (z, h.early, y.most, +z (back p u) d, +z u d);
              bad = m;
            }));
      })

  pub last_answer : pos 1 ≤ℤ d → (ss : List Stretch) (v r : ℤ) → (Ordered ss → r ≡ last_of ss v) → ForBars x ss (λ q. LastFree q d v r)
  last_answer long ss v r e o = for_tests (barred_part x) ss (λ q. LastFree q d v r) (rw (e o) (last_free long ss o v))

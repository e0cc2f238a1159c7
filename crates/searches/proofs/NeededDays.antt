-- The days from the first to the last on which a task is needed, part by part.
use mathlib.Core.Path.{◌≡◌, subst}
use mathlib.Core.Bool.{Bool, true}
use mathlib.Core.List.{List, [], ◌∷◌, foldl}
use Rattle.std.specs.Prelude.{Option, None, Some}
use lib.IntN.{ℤ, pred_ℤ}
use lib.Signed.{lt_z, ◌≤ℤ◌, ◌<ℤ◌}
use Rattle.integers.specs.Whole.{larger, smaller}
use Rattle.integers.proofs.Z.{z, maxz, minz, predz}
use Rattle.plan.specs.declared.Power.{Power}
use Rattle.plan.specs.Days.{day}
use Rattle.stretches.specs.declared.Stretch.{Stretch}
use Rattle.searches.specs.declared.Days.{Days}
use Rattle.searches.specs.Searches.{shared, part_of, needed_part, on_part, hit_days, Needed}
use Rattle.searches.proofs.Parts.{lt_cases, some_is, some_in, none_is, part_cases, hit_none, hit_first, hit_later, hit_cases}

-- w the other way round: no day
abbrev pub no_days : Days → Days
no_days w = record { from = w.to; to = w.from }

-- the days of s and of the part together
abbrev pub joined : Option Days → Days → Days
joined None s = s
joined (Some p) s = record { from = day (smaller s.from.0 p.from.0); to = day (larger s.to.0 p.to.0) }

module _ (q : ℤ → Bool) (w : Days) where
  -- ---- what has been found: its first and its last day pass the test, if there is one
  record Found (s : Days) : Type 0 where
    first : s.from.0 <ℤ w.to.0 → q s.from.0 ≡ true
    last : w.from.0 <ℤ s.to.0 → q (pred_ℤ s.to.0) ≡ true

  -- with the days that pass one test more
  record More (hit : ℤ → Bool) (s r : Days) : Type 0 where
    found : Found r
    from : r.from.0 ≤ℤ s.from.0
    to : s.to.0 ≤ℤ r.to.0
    holds : (i : ℤ) → hit i ≡ true → (r.from.0 ≤ℤ i) × (i <ℤ r.to.0)

  more : (u : Days) (t : Stretch) (b : Bool) (s : Days) → ((i : ℤ) → on_part i (part_of u t b) ≡ true → q i ≡ true) → Found s
      → More (λ i. on_part i (part_of u t b)) s (joined (part_of u t b) s)
  more u t b s =
      part_cases (λ (p : Option Days). ((i : ℤ) → on_part i p ≡ true → q i ≡ true) → Found s → More (λ i. on_part i p) s (joined p s)) u t b
      (λ e l told f.
      let p = shared u t in
      let x = smaller s.from.0 p.from.0 in
      let y = larger s.to.0 p.to.0 in
      let m = minz s.from.0 p.from.0 in
      let n = maxz s.to.0 p.to.0 in
      let on : (i : ℤ) → p.from.0 ≤ℤ i → i <ℤ p.to.0 → q i ≡ true = λ i c d. told i (some_in p i c d) in
      record {
        found =
            record {
              first =
                  λ h.
                  lt_cases s.from.0 p.from.0
                  (λ c. let g : s.from.0 ≡ x = omega z in subst (λ (i : ℤ). q i ≡ true) g (f.first (omega (z, h))))
                  (λ c. let g : p.from.0 ≡ x = omega z in subst (λ (i : ℤ). q i ≡ true) g (on p.from.0 (omega z) (omega z)));
              last =
                  λ h.
                  lt_cases p.to.0 s.to.0
                  (λ c. let g : s.to.0 ≡ y = omega z in subst (λ (i : ℤ). q (pred_ℤ i) ≡ true) g (f.last (omega (z, h))))
                  (λ c. let g : p.to.0 ≡ y = omega z in subst (λ (i : ℤ). q (pred_ℤ i) ≡ true) g (on (pred_ℤ p.to.0) (omega (z, predz p.to.0)) (omega (z, predz p.to.0))));
            };
        from = omega z;
        to = omega z;
        holds = λ i o. let h = some_is p i o in (omega z, omega z);
      })
      (λ e told f. record { found = f; from = omega z; to = omega z; holds = λ i o. absurd (none_is i o) })

  -- ---- all parts
  module _ (u : Days) (h : Power) where
    abbrev part : Stretch → Option Days
    part = needed_part u h

    all_more : (ss : List Stretch) → ((i : ℤ) → hit_days part ss i ≡ true → q i ≡ true) → (s : Days) → Found s
        → More (hit_days part ss) s (foldl (λ r t. joined (part t) r) s ss)
    all_more [] told s f = record { found = f; from = omega z; to = omega z; holds = λ i h. absurd (hit_none part i h) }
    all_more (t ∷ ss) told s f =
        let m = more u t (lt_z t.tight.0 h.0) s (λ i o. told i (hit_first part i t ss o)) f in
        let n = all_more ss (λ i o. told i (hit_later part i t ss o)) (joined (part t) s) m.found in
        record {
          found = n.found;
          from = omega (z, m.from, n.from);
          to = omega (z, m.to, n.to);
          holds =
              λ i k.
              hit_cases part i t ss k
              (λ o. let x = m.holds i o in (omega (z, n.from), omega (z, n.to)))
              (n.holds i);
        }

pub needed_of : (w : Days) (h : Power) (ss : List Stretch)
    → Needed (hit_days (needed_part w h) ss) w (foldl (λ r t. joined (needed_part w h t) r) (no_days w) ss)
needed_of w h ss =
    let a = all_more (hit_days (needed_part w h) ss) w w h ss (λ i e. e) (no_days w) (record { first = λ k. absurd (omega z); last = λ k. absurd (omega z) }) in
    record { between = a.holds; first = a.found.first; last = a.found.last }

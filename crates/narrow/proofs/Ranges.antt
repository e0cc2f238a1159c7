-- The page's ranges of origins, ends and durations: the values that pass every day's rules run from the first to the last that the
-- searches leave. An end less a duration is an origin, so that one law serves both.
use mathlib.Core.Path.{◌≡◌, refl, ap₂, subst}
use mathlib.Core.Bool.{Bool, true, false, not}
use mathlib.Core.List.{List}
use Prim.Native.Nat.{ℕ}
use lib.IntN.{ℤ, pos, ◌+ℤ◌, ◌-ℤ◌, pred_ℤ}
use lib.Signed.{le_z, lt_z, ◌≤ℤ◌, ◌<ℤ◌}
use Rattle.integers.specs.Tests.{and, implies, all}
use Rattle.integers.specs.Whole.{larger, smaller}
use Rattle.integers.specs.Hull.{Range, range, within, left}
use Rattle.integers.specs.Lists.{In}
use Rattle.integers.specs.Ends.{Within}
use Rattle.integers.proofs.Z.{z, +z, -z, maxz, minz, predz}
use Rattle.integers.proofs.Tests.{clash, by_cases, if-case, false_in, and_first, and_second, and_in, implies_in, implies_out, not_in, not_out, all_in}
use Rattle.integers.proofs.Hull.{within_is, within_in, left_is, left_none}
use Rattle.plan.specs.declared.Task.{Task}
use Rattle.plan.specs.declared.Day.{Day}
use Rattle.plan.specs.declared.Span.{Span}
use Rattle.plan.specs.Days.{day, days_of, cut_to, cut_below, cut_above}
use Rattle.rules.specs.Frame.{Floor}
use Rattle.rules.specs.Step.{needed, shut, keeps_origin, keeps_duration, keeps_end, listed_days}
use Rattle.rules.proofs.Days.{every_day}
use Rattle.rules.proofs.TaskDay.{no_need, no_shut}
use Rattle.searches.specs.declared.Days.{Days}
use Rattle.searches.specs.Searches.{Hit, Freed, FreedEnds, room, Longest, Needed, earlier}
use Rattle.searches.proofs.Parts.{lt_cases}
use Rattle.narrow.specs.Ready.{possible_days, with_needs, left_of}

-- ---- what a test leaves of a range
left_of_lem : (p : ℤ → Bool) (s : Range) (out : Span Day) → s.low ≤ℤ out.low.0 → out.high.0 ≤ℤ s.high
    → (out.low.0 ≤ℤ out.high.0 → (p out.low.0 ≡ true) × (p out.high.0 ≡ true))
    → ((v : ℤ) → Within s v → p v ≡ true → (out.low.0 ≤ℤ v) × (v ≤ℤ out.high.0)) → left p s ≡ left_of out
left_of_lem p s out a b f g =
    by_cases (lt_z out.high.0 out.low.0)
    (λ e. rw e (left_none p s (λ v w. false_in (p v) (λ k. let h = g v w k in omega z))))
    (λ e.
    let k = f (omega z) in
    rw e (left_is p s out.low.0 out.high.0 (omega z) (omega z) k.0 k.1 g))

-- ---- needs: u has what every need leaves of s
-- every day that passes n has v among d days up to it
abbrev Meets : (ℤ → Bool) → ℤ → ℤ → Type 0
Meets n d v = (i : ℤ) → n i ≡ true → Within (range ((i -ℤ d) +ℤ pos 1) i) v

-- the values of u are those of s that meet every need
pub record Cut (n : ℤ → Bool) (d : ℤ) (s u : Span Day) : Type 0 where
  pub least : s.low.0 ≤ℤ u.low.0
  pub most : u.high.0 ≤ℤ s.high.0
  pub meets : (v : ℤ) → Within (days_of u) v → Meets n d v
  pub whole : (v : ℤ) → Within (days_of s) v → Meets n d v → Within (days_of u) v

module _ (r : ℕ) (n : ℤ → Bool) (t : Task) (s : Days) (h : Needed n (possible_days t) s)
    (possible : (i : ℤ) → n i ≡ true → (t.origin.low.0 ≤ℤ i) × (i <ℤ t.end.high.0)) where
  abbrev dh : ℤ
  dh = t.duration.high.0

  -- only the first and the last day matter: what meets both meets all between them
  cut_to_lem : lt_z s.from.0 t.end.high.0 ≡ true → (w : Span Day) → Cut n dh w (cut_to (s.to.0 -ℤ dh) s.from.0 w)
  unfolding cut_to cut_below cut_above
  cut_to_lem e w =
      let f = h.first (omega z) in
      let x = s.to.0 -ℤ dh in
      let a = maxz w.low.0 x in
      let b = minz w.high.0 s.from.0 in
      let c = -z s.to.0 dh in
      let j = pred_ℤ s.to.0 in
      record {
        least = omega (z, a);
        most = omega (z, b);
        meets = λ v p i k. let g = h.between i k in omega (z, a, b, c, p, -z i dh, +z (i -ℤ dh) (pos 1));
        whole =
            λ v p m.
            let g = h.between s.from.0 f in
            let y = m s.from.0 f in
            let q = possible s.from.0 f in
            let l = m j (h.last (omega z)) in
            omega (z, a, b, c, p, y, l, predz s.to.0, -z j dh, +z (j -ℤ dh) (pos 1));
      }

  uncut : lt_z s.from.0 t.end.high.0 ≡ false → (d : ℤ) (w : Span Day) → Cut n d w w
  uncut e d w =
      record {
        least = omega z;
        most = omega z;
        meets = λ v p i k. let a = h.between i k in let b = possible i k in absurd (omega z);
        whole = λ v p m. p;
      }

  -- what needs leave of origins, and of ends
  pub needs_origin : Cut n dh t.origin (with_needs r s t).origin
  unfolding with_needs
  needs_origin = if-case (λ (u : Task). Cut n dh t.origin u.origin) (lt_z s.from.0 t.end.high.0) _ t (λ e. cut_to_lem e t.origin) (λ e. uncut e dh t.origin)

  earlier_cut : (a b : ℤ) (w : Span Day) → cut_to (a -ℤ dh) b (earlier dh w) ≡ earlier dh (cut_to a (b +ℤ dh) w)
  unfolding cut_to cut_below cut_above
  earlier_cut a b w =
      let x = w.low.0 in
      let y = w.high.0 in
      ap₂ (λ (u v : ℤ). record { low = day u; high = day v })
      (omega (z, maxz (x -ℤ dh) (a -ℤ dh), -z x dh, -z a dh, maxz x a, -z (larger x a) dh))
      (omega (z, minz (y -ℤ dh) b, -z y dh, minz y (b +ℤ dh), +z b dh, -z (smaller y (b +ℤ dh)) dh))

  pub needs_end : Cut n dh (earlier dh t.end) (earlier dh (with_needs r s t).end)
  unfolding with_needs
  needs_end =
      if-case (λ (u : Task). Cut n dh (earlier dh t.end) (earlier dh u.end)) (lt_z s.from.0 t.end.high.0) _ t
      (λ e. subst (Cut n dh (earlier dh t.end)) (earlier_cut s.to.0 s.from.0 t.end) (cut_to_lem e (earlier dh t.end)))
      (λ e. uncut e dh (earlier dh t.end))

-- ---- origins and ends
-- the values that a day i asks for with a duration of d days, and where an origin lies for such a value
record Moved (asked : ℤ → ℤ → Range) (origin : ℤ → ℤ → ℤ) : Type 0 where
  out : (d i v : ℤ) → Within (asked d i) v → Within (range ((i -ℤ d) +ℤ pos 1) i) (origin d v)
  back : (d i v : ℤ) → Within (range ((i -ℤ d) +ℤ pos 1) i) (origin d v) → Within (asked d i) v
  up : (d a b : ℤ) → a ≤ℤ b → origin d a ≤ℤ origin d b
  down : (d a b : ℤ) → origin d a ≤ℤ origin d b → a ≤ℤ b

as_origins : Moved (λ d i. range ((i -ℤ d) +ℤ pos 1) i) (λ d v. v)
as_origins = record { out = λ d i v h. h; back = λ d i v h. h; up = λ d a b h. h; down = λ d a b h. h }

as_ends : Moved (λ d i. range (i +ℤ pos 1) (i +ℤ d)) (λ d v. v -ℤ d)
as_ends =
    record {
      out = λ d i v h. omega (z, h, -z i d, +z (i -ℤ d) (pos 1), -z v d, +z i (pos 1), +z i d);
      back = λ d i v h. omega (z, h, -z i d, +z (i -ℤ d) (pos 1), -z v d, +z i (pos 1), +z i d);
      up = λ d a b h. omega (z, -z a d, -z b d);
      down = λ d a b h. omega (z, h, -z a d, -z b d);
    }

module _ (r : ℕ) (limit : Floor) (ts : List Task) (t : Task) (k : In t ts) where
  abbrev n : ℤ → Bool
  n = needed r limit ts t

  abbrev q : ℤ → Bool
  q = shut r limit ts t

  abbrev dl : ℤ
  dl = t.duration.low.0

  abbrev du : ℤ
  du = t.duration.high.0

  module _ (asked : ℤ → ℤ → Range) (origin : ℤ → ℤ → ℤ) (moved : Moved asked origin) where
    abbrev keeps_day : ℤ → ℤ → Bool
    keeps_day v i = and (implies (n i) (within (asked du i) v)) (implies (q i) (not (within (asked dl i) v)))

    abbrev keeps : ℤ → Bool
    keeps v = all (keeps_day v) (listed_days ts)

    -- what is kept on the listed days is kept on every day
    kept_day : (v : ℤ) → keeps v ≡ true → (i : ℤ) → keeps_day v i ≡ true
    kept_day v h i = every_day r (keeps_day v) t ts k (λ j e. rw (no_need r j t limit ts e, no_shut r j t limit ts e) refl) h i

    kept_meets : (v : ℤ) → keeps v ≡ true → Meets n du (origin du v)
    kept_meets v h i e = moved.out du i v (within_is (asked du i) v (implies_out (n i) _ (and_first _ _ (kept_day v h i)) e))

    kept_free : (v : ℤ) → keeps v ≡ true → Hit q dl (origin dl v) → ⊥
    kept_free v h y =
        let i = y.day in
        let o = origin dl v in
        let f₁ = y.late in
        let f₂ = y.early in
        let g = implies_out (q i) (not (within (asked dl i) v)) (and_second (implies (n i) (within (asked du i) v)) _ (kept_day v h i)) y.bad in
        clash (within (asked dl i) v) (within_in (asked dl i) v (moved.back dl i v (omega (z, -z i dl, +z (i -ℤ dl) (pos 1), +z o dl)))) (not_out (within (asked dl i) v) g)

    kept_in : (v : ℤ) → Meets n du (origin du v) → (Hit q dl (origin dl v) → ⊥) → keeps v ≡ true
    kept_in v m f =
        all_in (keeps_day v) (listed_days ts)
        (λ i.
        and_in _ _ (implies_in (n i) _ (λ e. within_in (asked du i) v (moved.back du i v (m i e))))
        (implies_in (q i) _
        (λ e.
        not_in (within (asked dl i) v)
        (λ g.
        let w = moved.out dl i v (within_is (asked dl i) v g) in
        let o = origin dl v in
        f (record { day = i; late = w.most; early = omega (z, w, -z i dl, +z (i -ℤ dl) (pos 1), +z o dl); bad = e })))))

    -- the same range for the origins of its values
    abbrev origins : ℤ → Span Day → Span Day
    origins d s = record { low = day (origin d s.low.0); high = day (origin d s.high.0) }

    left_moved : (s u out : Span Day) → Cut n du (origins du s) (origins du u) → Freed q dl (origins dl u) (origins dl out) → left keeps (days_of s) ≡ left_of out
    left_moved s u out c f =
        let a = out.low.0 in
        let b = out.high.0 in
        let c₁ = moved.down du s.low.0 u.low.0 c.least in
        let c₂ = moved.down du u.high.0 s.high.0 c.most in
        let f₁ = moved.down dl u.low.0 a f.least in
        let f₂ = moved.down dl b u.high.0 f.most in
        left_of_lem keeps (days_of s) out (omega z) (omega z)
        (λ e. (
          kept_in a (c.meets (origin du a) (record { least = moved.up du _ a f₁; most = moved.up du a _ (omega z) })) (f.free_low (moved.up dl a b e)),
          kept_in b (c.meets (origin du b) (record { least = moved.up du _ b (omega z); most = moved.up du b _ f₂ })) (f.free_high (moved.up dl a b e)),
        ))
        (λ v w e.
        let g = c.whole (origin du v) (record { least = moved.up du _ v w.least; most = moved.up du v _ w.most }) (kept_meets v e) in
        let g₁ = moved.up dl u.low.0 v (moved.down du _ v g.least) in
        let g₂ = moved.up dl v u.high.0 (moved.down du v _ g.most) in (
          moved.down dl a v (lt_cases (origin dl v) (origin dl a) (λ l. absurd (kept_free v e (f.before (origin dl v) g₁ g₂ l))) (λ l. l)),
          moved.down dl v b (lt_cases (origin dl b) (origin dl v) (λ l. absurd (kept_free v e (f.after (origin dl v) g₁ g₂ l))) (λ l. l)),
        ))

  -- ---- THE PAGE'S RANGES
  pub left_origin : (u out : Span Day) → Cut n du t.origin u → Freed q dl u out
      → left (keeps_origin r limit ts (listed_days ts) t) (days_of t.origin) ≡ left_of out
  unfolding keeps_origin
  left_origin u out = left_moved _ _ as_origins t.origin u out

  pub left_end : (u out : Span Day) → Cut n du (earlier du t.end) (earlier du u) → FreedEnds q dl u out
      → left (keeps_end r limit ts (listed_days ts) t) (days_of t.end) ≡ left_of out
  unfolding keeps_end
  left_end u out = left_moved _ _ as_ends t.end u out

  -- ---- durations
  abbrev keeps_length : ℤ → ℤ → Bool
  keeps_length v i = implies (q i) (le_z v (room (possible_days t) i))

  pub left_duration : (out : Span Day) → out.low.0 ≡ dl → Longest q (possible_days t) du out.high.0
      → left (keeps_duration r limit ts (listed_days ts) t) (days_of t.duration) ≡ left_of out
  unfolding keeps_duration
  left_duration out a l =
      let w = possible_days t in
      let kept : (v : ℤ) → v ≤ℤ out.high.0 → all (keeps_length v) (listed_days ts) ≡ true =
      λ v b.
      all_in (keeps_length v) (listed_days ts)
      (λ i. implies_in (q i) _ (λ e. by_cases (le_z v (room w i)) (λ g. g) (λ g. absurd (l.kept v b (record { day = i; bad = e; over = omega z }))))) in
      let l₁ = l.most in
      left_of_lem (λ v. all (keeps_length v) (listed_days ts)) (days_of t.duration) out (omega z) (omega z)
      (λ e. (kept out.low.0 e, kept out.high.0 (omega z)))
      (λ v b e. (
        omega (z, b),
        lt_cases out.high.0 v
            (λ c.
            let y = l.cut v c b.most in
            let g = every_day r (keeps_length v) t ts k (λ j f. rw (no_shut r j t limit ts f) refl) e y.day in
            let m : le_z v (room w y.day) ≡ true = implies_out (q y.day) _ g y.bad in
            absurd (omega (z, y.over)))
            (λ c. c),
      ))

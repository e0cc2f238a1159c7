-- The least slack on the days of a task, stretch by stretch.
use mathlib.Core.Path.{◌≡◌, refl}
use mathlib.Core.Bool.{true}
use mathlib.Core.List.{List, [], ◌∷◌, foldl}
use Prim.Native.Nat.{ℕ, zero, suc, ◌≤◌, suc-le-suc, zero-le}
use native.Mathlib.Nat.{not-suc-le-zero, le_of_suc-le-suc}
use lib.ListN.{length, get_or}
use lib.IntN.{ℤ}
use Rattle.std.specs.Prelude.{Option}
use Rattle.std.specs.Option.{is_some}
use lib.Signed.{lt_z, ◌≤ℤ◌, ◌<ℤ◌}
use Rattle.integers.specs.Tests.{if, and}
use Rattle.integers.proofs.Z.{z, maxz, minz, lt_z_in}
use Rattle.integers.proofs.Tests.{clash, by_cases, if-case, and_first, and_second, and_in}
use Rattle.plan.specs.declared.Power.{Power}
use Rattle.stretches.specs.declared.Stretch.{Stretch}
use Rattle.stretches.specs.View.{no_stretch, on_day}
use Rattle.stretches.proofs.View.{on_out, on_in}
use Rattle.searches.specs.declared.Days.{Days}
use Rattle.searches.specs.Searches.{holds, shared, meets, part_of, Slack, Least}
use Rattle.searches.proofs.Parts.{lt_cases, holds_in, holds_is}

module _ (w : Days) where
  -- ---- one stretch
  -- it shares a day with w
  record Shares (s : Stretch) : Type 0 where
    day : ℤ
    among : holds w day ≡ true
    on : on_day day s ≡ true

  record Lowered (s : Stretch) (x y : ℤ) : Type 0 where
    most : y ≤ℤ x
    met : y <ℤ x → Shares s × (s.slack.0 ≡ y)
    under : (i : ℤ) → holds w i ≡ true → on_day i s ≡ true → y ≤ℤ s.slack.0

  -- x, or the stretch's slack where that is lower and one of its days is among w's
  abbrev pub lowered : Stretch → Power → Power
  lowered s x = if (and (lt_z s.slack.0 x.0) (meets w s)) s.slack x

  -- as the code finds it
  pub some_met : (s : Stretch) {p : Option Days} → p ≡ part_of w s true → is_some p ≡ meets w s
  some_met s is = by_cases (meets w s) (λ e. rw (is, e)) (λ e. rw (is, e))

  lower : (s : Stretch) (x : Power) → Lowered s x.0 (lowered s x).0
  lower s x =
      let a = (shared w s).from.0 in
      let b = (shared w s).to.0 in
      let la = maxz s.from.0 w.from.0 in
      let lb = minz s.to.0 w.to.0 in
      if-case (λ (y : Power). Lowered s x.0 y.0) (and (lt_z s.slack.0 x.0) (meets w s)) s.slack x
      (λ e.
      let f : lt_z a b ≡ true = and_second (lt_z s.slack.0 x.0) _ e in
      let g : lt_z s.slack.0 x.0 ≡ true = and_first _ _ e in
      record {
        most = omega z;
        met = λ h. (record { day = a; among = holds_in w a (omega z) (omega z); on = on_in s a (omega z) (omega z) }, refl);
        under = λ i h k. omega z;
      })
      (λ e.
      record {
        most = omega z;
        met = λ h. absurd (omega z);
        under =
            λ i h k.
            let m = holds_is w i h in
            let n = on_out s i k in
            lt_cases s.slack.0 x.0
            (λ l. clash _ (and_in _ _ (lt_z_in s.slack.0 x.0 l) (lt_z_in a b (omega z))) e)
            (λ l. l);
      })

  -- ---- all of them
  later : {s : Stretch} {ss : List Stretch} {y : ℤ} → Slack ss w y → Slack (s ∷ ss) w y
  later h = record { at = suc h.at; inside = suc-le-suc h.inside; day = h.day; among = h.among; on = h.on; is = h.is }

  least_cons : (s : Stretch) (ss : List Stretch) (m x y : ℤ) → Lowered s m x → Least ss w x y → Least (s ∷ ss) w m y
  least_cons s ss m x y f t =
      record {
        most = omega (z, f.most, t.most);
        met =
            λ h.
            lt_cases y x (λ c. later (t.met c))
            (λ c.
            let g = f.met (omega (z, t.most)) in
            let e = g.1 in
            record { at = 0; inside = suc-le-suc zero-le; day = g.0.day; among = g.0.among; on = g.0.on; is = omega (z, t.most) });
        under = λ u h. under u h.at h.inside h.day h.among h.on h.is;
      }
    where
      under : (u : ℤ) (k : ℕ) → suc k ≤ suc (length ss) → (i : ℤ) → holds w i ≡ true → on_day i (get_or (s ∷ ss) k no_stretch) ≡ true
          → (get_or (s ∷ ss) k no_stretch).slack.0 ≡ u → y ≤ℤ u
      under u zero l i a o e = omega (z, f.under i a o, t.most)
      under u (suc k) l i a o e = t.under u (record { at = k; inside = le_of_suc-le-suc l; day = i; among = a; on = o; is = e })

  pub least_of_lem : (ss : List Stretch) (m : Power) → Least ss w m.0 (foldl (λ x s. lowered s x) m ss).0
  least_of_lem [] m = record { most = omega z; met = λ h. absurd (omega z); under = λ y s. absurd (not-suc-le-zero s.inside) }
  least_of_lem (s ∷ ss) m = least_cons s ss m.0 _ _ (lower s m) (least_of_lem ss (lowered s m))

-- where there is no day, the least slack is the most
pub least_none : (ss : List Stretch) (w : Days) (m : ℤ) → w.to.0 ≤ℤ w.from.0 → Least ss w m m
least_none ss w m h =
    record { most = omega z; met = λ e. absurd (omega z); under = λ y s. let a = holds_is w s.day s.among in absurd (omega z) }

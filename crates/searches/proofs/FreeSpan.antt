-- What is left of a range between its first and its last free value; ends, searched as origins.
use mathlib.Core.Path.{◌≡◌, sym, ap₂, subst}
use mathlib.Core.Bool.{Bool, true}
use lib.IntN.{ℤ, ◌+ℤ◌, ◌-ℤ◌}
use lib.Signed.{◌<ℤ◌}
use Rattle.integers.proofs.Z.{z, +z, -z}
use Rattle.plan.specs.declared.Day.{Day}
use Rattle.plan.specs.declared.Span.{Span}
use Rattle.plan.specs.Days.{day}
use Rattle.searches.specs.Searches.{Hit, FirstFree, LastFree, Freed, FreedEnds, earlier, later}

module _ (q : ℤ → Bool) (d : ℤ) (s : Span Day) where
  -- every value is free
  whole : ((v : ℤ) → Hit q d v → ⊥) → Freed q d s s
  whole f =
      record {
        least = omega z;
        most = omega z;
        before = λ v a b c. absurd (omega z);
        after = λ v a b c. absurd (omega z);
        free_low = λ e. f s.low.0;
        free_high = λ e. f s.high.0;
      }

  -- nor is any where no day passes the test
  pub freed_none : ((i : ℤ) → q i ≡ true → ⊥) → Freed q d s s
  freed_none f = whole (λ v e. f e.day e.bad)

  module _ (f : Day) (first : FirstFree q d s.low.0 f.0) where
    -- the first free value lies past the range
    pub freed_past : s.high.0 <ℤ f.0 → Freed q d s (record { low = f; high = s.high })
    freed_past h =
        record {
          least = first.least;
          most = omega z;
          before = λ v a b c. first.before v a c;
          after = λ v a b c. first.before v a (omega z);
          free_low = λ e. first.free;
          free_high = λ e. absurd (omega z);
        }

    pub freed_both : (l : Day) → LastFree q d s.high.0 l.0 → Freed q d s (record { low = f; high = l })
    freed_both l last =
        record {
          least = first.least;
          most = last.most;
          before = λ v a b c. first.before v a c;
          after = λ v a b c. last.after v c b;
          free_low = λ e. first.free;
          free_high = λ e. last.free;
        }

-- ---- ends: searched as origins, and moved back
moved : (a d : ℤ) → (a +ℤ d) -ℤ d ≡ a
moved a d = omega (z, +z a d, -z (a +ℤ d) d)

pub freed_ends : (q : ℤ → Bool) (d : ℤ) (s o : Span Day) → Freed q d (earlier d s) o → FreedEnds q d s (later d o)
freed_ends q d s o f =
    let e : o ≡ earlier d (later d o) = ap₂ (λ (x y : ℤ). record { low = day x; high = day y }) (sym (moved o.low.0 d)) (sym (moved o.high.0 d)) in
    subst (λ (x : Span Day). Freed q d (earlier d s) x) e f

-- What needs leave of a task's origins and ends stays close to the days.
use lib.IntN.{◌+ℤ◌, ◌-ℤ◌}
use lib.Signed.{lt_z}
use Prim.Native.Nat.{ℕ}
use Rattle.integers.proofs.Z.{z, +z, -z, maxz, minz}
use Rattle.integers.proofs.Tests.{if-case}
use Rattle.plan.specs.declared.Task.{Task}
use Rattle.plan.specs.Days.{days_of, cut_to, cut_below, cut_above}
use Rattle.plan.specs.Tasks.{Bounded}
use Rattle.searches.specs.declared.Days.{Days}
use Rattle.searches.specs.Searches.{BothIn, days_in, near_ends, close_ends}
use Rattle.narrow.specs.Ready.{possible_days, with_needs}

pub record Kept (u : Task) : Type 0 where
  pub origin : BothIn near_ends (days_of u.origin)
  pub end : BothIn close_ends (days_of u.end)

pub needs_close : (t : Task) → Bounded t → (s : Days) → BothIn (days_in (possible_days t)) (days_in s) → (r : ℕ) → Kept (with_needs r s t)
unfolding with_needs cut_to cut_below cut_above
needs_close t f s b r =
    let m = t.duration.high.0 in
    if-case Kept (lt_z s.from.0 t.end.high.0) _ t
    (λ e.
    record {
      origin = omega (z, f.origin, f.duration, f.end, b, -z s.to.0 m, maxz t.origin.low.0 (s.to.0 -ℤ m), minz t.origin.high.0 s.from.0);
      end = omega (z, f.origin, f.duration, f.end, b, maxz t.end.low.0 s.to.0, +z s.from.0 m, minz t.end.high.0 (s.from.0 +ℤ m));
    })
    (λ e. record { origin = omega (z, f.origin); end = omega (z, f.end) })

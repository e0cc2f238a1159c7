-- A pass leaves out the places that its mask does not have: the steps there would change nothing.
use Rattle.plan.specs.Refusals.{accepted}
use mathlib.Core.Path.{◌≡◌, sym, subst}
use mathlib.Core.Bool.{Bool, false, not}
use mathlib.Core.List.{List}
use Prim.Native.Nat.{ℕ, zero, suc, ◌+◌, ◌-◌, ◌≤◌, ◌<◌}
use native.Mathlib.Numerals.{add-one}
use native.Mathlib.Omega.{arith}
use lib.Dec.{T, ltb, ltb→lt, nltb→le}
use Rattle.integers.proofs.Tests.{by_cases}
use Rattle.plan.specs.declared.Task.{Task}
use Rattle.plan.specs.Sets.{has, lowest, next}
use Rattle.plan.proofs.Counting.{below_lowest, next_above, before_next}
use Rattle.rules.specs.Frame.{Frame, resource_count, places_from}
use Rattle.rules.specs.Settle.{steps}
use Rattle.rules.specs.Calls.{check}
use Rattle.idle.specs.declared.Passed.{Passed}
use Rattle.idle.proofs.Mask.{rest_took}
use Rattle.idle.proofs.Passing.{Passing, passing_more}

module _ (f : Frame) (ts : List Task) (a : check f ts ≡ accepted) (before : Bool) (p : Passed) (us : List Task) where
  abbrev At : ℕ → Type 0
  At r = Passing f ts before r p us

  -- after the last resource no step is left
  beyond : (r : ℕ) → resource_count f ≤ r → At r → At (suc r)
  unfolding steps places_from
  beyond r l g =
      let e : resource_count f - r ≡ 0 = omega arith in
      let d : resource_count f - suc r ≡ 0 = omega arith in
      record { rest = rw d (rw e at g.rest); keeps = g.keeps; noted = g.noted }

  -- past a place that the mask does not have
  over_one : (r : ℕ) → has p.mask r ≡ false → At r → At (suc r)
  over_one r h g =
      by_cases (ltb r (resource_count f))
      (λ e.
      let l = ltb→lt r (resource_count f) (subst T (sym e) tt) in
      subst At (add-one r) (passing_more f ts a before r p us g l us p (rest_took f us p g.noted.idle r l h)))
      (λ e. beyond r (nltb→le r (resource_count f) (subst (λ b. T (not b)) (sym e) tt)) g)

  -- past d of them
  over : (d r : ℕ) → ((j : ℕ) → r ≤ j → j < r + d → has p.mask j ≡ false) → At r → At (r + d)
  over zero r h g = let e : r + 0 ≡ r = omega arith in rw e g
  over (suc d) r h g =
      let e : suc r + d ≡ r + suc d = omega arith in
      subst At e (over d (suc r) (λ j l m. h j (omega arith) (omega arith)) (over_one r (h r (omega arith) (omega arith)) g))

  -- to the first place that the mask has
  pub to_lowest : (m : ℕ) → At 0 → At (lowest m p.mask)
  to_lowest m g = subst At (omega arith) (over (lowest m p.mask) 0 (λ j l h. below_lowest m p.mask j (omega arith)) g)

  -- and from after place r to the next
  pub to_next : (m r : ℕ) → r < m → At (r + 1) → At (next m p.mask r)
  to_next m r l g =
      let h = next_above m p.mask r l in
      let e : r + 1 + (next m p.mask r - (r + 1)) ≡ next m p.mask r = omega arith in
      subst At e (over (next m p.mask r - (r + 1)) (r + 1) (λ j h k. before_next m p.mask r j (omega arith) (omega arith)) g)

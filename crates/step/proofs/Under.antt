-- No stretch has less than the least of all.
use mathlib.Core.List.{List, [], ◌∷◌}
use Prim.Native.Nat.{zero, suc}
use native.Mathlib.Omega.{arith}
use lib.Signed.{◌≤ℤ◌}
use Rattle.std.specs.List.{fold}
use Rattle.integers.proofs.Z.{z, minz}
use Rattle.stretches.specs.declared.Stretch.{Stretch}
use Rattle.step.specs.declared.Least.{Least}
use Rattle.step.specs.Least.{lowered, least_of, Under}

lower : (l : Least) (ss : List Stretch) → ((fold lowered l ss).slack.0 ≤ℤ l.slack.0) × ((fold lowered l ss).tight.0 ≤ℤ l.tight.0)
lower l [] = omega z
lower l (s ∷ ss) = omega (z, lower (lowered l s) ss, minz l.slack.0 s.slack.0, minz l.tight.0 s.tight.0)

under : (l : Least) (ss : List Stretch) → Under (fold lowered l ss) ss
under l [] k h = absurd (omega arith)
under l (s ∷ ss) zero h = omega (z, lower (lowered l s) ss, minz l.slack.0 s.slack.0, minz l.tight.0 s.tight.0)
under l (s ∷ ss) (suc k) h = under (lowered l s) ss k (omega arith)

pub least_under : (ss : List Stretch) → Under (least_of ss) ss
unfolding least_of
least_under ss = under _ ss

-- A task's events fit into keys.
use lib.IntN.{ℤ, pos}
use Rattle.integers.specs.Ends.{Within}
use Rattle.integers.specs.Hull.{range}
use Rattle.integers.proofs.Z.{z, ~z}
use Rattle.plan.specs.declared.Task.{Task}
use Rattle.plan.specs.Powers.{power_ends}
use Rattle.plan.specs.Tasks.{Bounded}
use Rattle.events.specs.Events.{ChangeFits, change}

module _ (t : Task) (b : Bounded t) where
  pub hope_fits : (u : ℤ) → Within (range (pos 0) (pos 1)) u → ChangeFits (change t.origin.low.0 t.end.high.0 t.height.high.0 u)
  hope_fits u h = omega (z, ~z t.height.high.0, ~z u)

  pub sure_fits : (p : ℤ) → Within power_ends p → ChangeFits (change t.origin.high.0 t.end.low.0 p (pos 1))
  sure_fits p h = omega (z, ~z p)

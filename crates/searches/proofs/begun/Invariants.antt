use Rattle.std.proofs.Common.{◌-◌, ◌≤◌, length}
use Rattle.stretches.specs.Tells.{Ordered}
use Rattle.searches.specs.Searches.{Begun}
use Rattle.searches.proofs.begun.Given as goal

abbrev pub invariant-loop-low : goal.invariant-loop-low
invariant-loop-low l = (l.low ≤ l.high) × (l.high ≤ length l.stretches) × (Ordered l.stretches → Begun l.stretches l.d.0 l.low l.high)

abbrev pub decreases-loop-low : goal.decreases-loop-low
decreases-loop-low l = l.high - l.low

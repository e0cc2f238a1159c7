use mathlib.Core.Path.{◌≡◌}
use mathlib.Core.List.{◌++◌}
use Prim.Native.Nat.{◌≤◌}
use lib.ListN.{length, take, drop}
use Rattle.profile.specs.Sweep.{swept}
use Rattle.profile.proofs.Loops.{Small}
use Rattle.profile.proofs.sweep.Given as goal

abbrev pub invariant-loop-k : goal.invariant-loop-k
invariant-loop-k l =
    record {
      in_range : l.k-index ≤ length l.keys;
      few : l.n ≤ l.k-index;
      small : Small l.k-index l.v;
      laid : take l.n l.stretches ++ swept l.e l.from.0 l.v (drop l.k-index l.keys) ≡ swept l.e l.initial.from.0 l.initial.v l.keys;
    }

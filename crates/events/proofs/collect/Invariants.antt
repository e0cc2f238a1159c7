use mathlib.Core.Path.{◌≡◌}
use mathlib.Core.List.{◌++◌}
use Prim.Native.Nat.{◌*◌, ◌≤◌}
use lib.ListN.{take, drop, length}
use Rattle.events.specs.Events.{events_a_task, keys_of}
use Rattle.events.specs.Extremes.{extremes_of, no_extremes}
use Rattle.events.proofs.collect.Given as goal

abbrev pub invariant-loop-t : goal.invariant-loop-t
invariant-loop-t l =
    record {
      in_range : l.t-index ≤ length l.tasks;
      few : l.c.events ≤ events_a_task * l.t-index;
      laid : take l.c.events l.keys ++ keys_of l.r (drop l.t-index l.tasks) ≡ keys_of l.r l.tasks;
      extremes : extremes_of l.r l.c.extremes (drop l.t-index l.tasks) ≡ extremes_of l.r no_extremes l.tasks;
    }

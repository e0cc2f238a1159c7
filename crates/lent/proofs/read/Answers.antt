-- The lent lists have places for what was read.
use native.Mathlib.Omega.{arith}
use Rattle.std.proofs.Common.{sym}
use Rattle.std.proofs.lemmas.Grind.{common_steps}
use Rattle.format.proofs.RoundTrip.{lent_is}
use Rattle.lent.proofs.read.Goals as goal

pub store-requires : goal.store-requires
store-requires c = (lent_is _ _ _ _ (sym c.in_ok-found.ensures.read)).1

pub store-requires-2 : goal.store-requires-2
store-requires-2 c = (lent_is _ _ _ _ (sym c.in_ok-found.ensures.read)).2

pub store-requires-3 : goal.store-requires-3
store-requires-3 c = let room = (lent_is _ _ _ _ (sym c.in_ok-found.ensures.read)).3 in grind (arith, common_steps, room)

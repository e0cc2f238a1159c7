-- Room for the events of the tasks is enough, whichever arrays it is.
use native.Mathlib.Omega.{arith}
use mathlib.Core.Path.{refl}
use Rattle.calls.specs.Lists.{small, middle, wide, fills_lists}
use Rattle.calls.proofs.Files.{lent_left}
use Rattle.calls.proofs.apply_bare.Goals as goal

pub apply_sized-requires-clause-lent : goal.apply_sized-requires-clause-lent
unfolding fills_lists
apply_sized-requires-clause-lent c = lent_left small c.args.h c.args.file.now refl (omega arith) c.requires.1

pub apply_sized-requires-then-h-le-MIDDLE-clause-lent : goal.apply_sized-requires-then-h-le-MIDDLE-clause-lent
unfolding fills_lists
apply_sized-requires-then-h-le-MIDDLE-clause-lent c = lent_left middle c.args.h c.args.file.now refl (omega arith) c.requires.1

pub apply_sized-requires-then-h-le-WIDE-clause-lent : goal.apply_sized-requires-then-h-le-WIDE-clause-lent
unfolding fills_lists
apply_sized-requires-then-h-le-WIDE-clause-lent c = lent_left wide c.args.h c.args.file.now refl (omega arith) c.requires.1

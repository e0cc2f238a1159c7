-- Part by part.
use Rattle.rules.specs.Settle.{same_ranges, same_task}
use Rattle.integers.specs.Hull.{same_range}
use Rattle.changes.proofs.Same.{same_int}
use Rattle.changes.proofs.same_task.Goals as goal

pub returns : goal.returns
unfolding same_task same_ranges same_range
returns c = simp same_int at c.eq.ensures

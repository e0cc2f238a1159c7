-- The first line, then the tasks' lines.
use native.Mathlib.Omega.{arith}
use Rattle.text.proofs.Texts.{puts_then, puts_wider}
use Rattle.report.proofs.put_plan.Goals as goal

pub returns : goal.returns
returns c = puts_wider (puts_then c.settled.ensures c.tasks.ensures) (omega (arith, c.requires.0))

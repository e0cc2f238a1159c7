-- The word, then the count.
use Rattle.text.specs.Text.{settled_line}
use Rattle.text.proofs.Texts.{puts_then}
use Rattle.text.proofs.Text.settled.Goals as goal

pub returns : goal.returns
unfolding settled_line
returns c = puts_then c.word.ensures (puts_then c.digits.ensures c.byte.ensures)

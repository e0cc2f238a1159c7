-- The word, the number, the place.
use mathlib.Core.Path.{ap}
use Rattle.text.specs.Text.{digits, refused_line}
use Rattle.text.proofs.Texts.{puts_is, puts_then}
use Rattle.text.proofs.Text.refused.Goals as goal

pub returns : goal.returns
unfolding refused_line
returns c =
    puts_then c.word.ensures
    (puts_then (puts_is c.digits.ensures (ap digits c.number.ensures))
    (puts_then c.byte.ensures
    (puts_then (puts_is c.digits-2.ensures (ap digits c.place.ensures)) c.byte-2.ensures)))

-- Place, set, then the four ranges, one after another.
use Rattle.text.specs.Text.{task_line}
use Rattle.text.proofs.Texts.{puts_then}
use Rattle.text.proofs.Text.task.Goals as goal

pub returns : goal.returns
unfolding task_line
returns c =
    puts_then c.digits.ensures
    (puts_then c.byte.ensures
    (puts_then c.digits-2.ensures
    (puts_then c.span.ensures
    (puts_then c.span-2.ensures
    (puts_then c.span-3.ensures
    (puts_then c.span-4.ensures c.byte-2.ensures))))))

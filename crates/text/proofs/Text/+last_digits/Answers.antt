-- The digits before the last, then the last.
use Rattle.text.proofs.Texts.{puts_no_digits, puts_one_digit, puts_more_digits}
use Rattle.text.proofs.Text.+last_digits.Goals as goal

pub returns-then-most-eq0 : goal.returns-then-most-eq0
returns-then-most-eq0 t c = puts_no_digits c.args.self.now c.args.most c.args.n c.if-most-eq0.true

pub returns-then-n-lt10 : goal.returns-then-n-lt10
returns-then-n-lt10 t c = puts_one_digit c.if-most-eq0.false c.if-n-lt10.true c.digit.ensures c.byte.ensures

pub returns : goal.returns
returns t c = puts_more_digits c.if-most-eq0.false c.if-n-lt10.false c.digit-2.ensures c.last_digits.ensures c.byte-2.ensures

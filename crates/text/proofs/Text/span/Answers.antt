-- Low, then high.
use mathlib.Core.Path.{◌∙◌}
use native.Mathlib.Omega.{arith}
use mir.Syntax.{w64}
use Rattle.integers.specs.Hull.{range}
use Rattle.integers.proofs.Z.{back}
use Rattle.text.proofs.Texts.{puts_range}
use Rattle.text.proofs.Text.span.Goals as goal

pub returns : goal.returns
returns g c =
    let s = c.args.s in
    puts_range (range (g.T.Number.number s.low) (g.T.Number.number s.high)) c.spaced.ensures c.spaced-2.ensures
    (back w64 c.number.result (omega arith) ∙ c.number.ensures) (back w64 c.number-2.result (omega arith) ∙ c.number-2.ensures)

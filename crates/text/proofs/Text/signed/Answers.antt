-- A minus sign where the number is below 0, then how far it lies from 0.
use native.Mathlib.Omega.{arith}
use mathlib.Core.Path.{◌≡◌, sym}
use lib.IntN.{nat_abs}
use mir.Facts.{to_z-of_z}
use Rattle.text.proofs.Texts.{puts_is, puts_then, puts_wider, signed_below, signed_not_below}
use Rattle.text.proofs.Text.signed.Goals as goal
use Rattle.text.proofs.Text.signed.Goals.{then-x-lt0, else-x-lt0}

pub returns : goal.returns
returns c =
    let x = c.args.x in
    let same = to_z-of_z c.ranges.x in
    let size : c.unsigned_abs.result ≡ nat_abs x = rw same at c.unsigned_abs.ensures.value in
    elim c.if-x-lt0.branch [
      | then-x-lt0 b ↦ puts_is (puts_then b.byte.ensures (rw (b.self-is, size) at c.digits.ensures)) (sym (signed_below x (rw same at b.if-x-lt0.true)))
      | else-x-lt0 b ↦ puts_wider (puts_is (rw (b.self-is, size) at c.digits.ensures) (sym (signed_not_below x (rw same at b.if-x-lt0.false)))) (omega arith)
    ]

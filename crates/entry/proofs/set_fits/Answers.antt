-- A set of more than all 64 places is none.
use native.Mathlib.Omega.{arith}
use native.Mathlib.Nat.{pow-le-pow_right}
use Prim.Native.Nat.{◌^◌, ◌≤◌, ◌<◌}
use borrow.Author.Tests.{ne_eqb, lt-ltb, le-leb}
use Rattle.rules.specs.Calls.{set_fits}
use Rattle.entry.proofs.set_fits.Goals as goal

pub returns-then-resources-ge-SET_BITS : goal.returns-then-resources-ge-SET_BITS
unfolding set_fits
returns-then-resources-ge-SET_BITS c = let a = c.args in
    let n = a.resources in
    let l : 2 ^ 64 ≤ 2 ^ n = pow-le-pow_right {n = 2} (omega arith) {i = 64} {j = n} (omega arith) in
    let h : a.t.set < 2 ^ n = omega arith in
    rw (ne_eqb a.t.set 0 c.if-t-ne0.true, lt-ltb a.t.set (2 ^ n) h, le-leb 64 n c.if-resources-ge-SET_BITS.true)

-- A range that lies where it would be cut to stays as it is, and so does a task of three such ranges: one whose end is the exact sum.
use Rattle.std.specs.Prelude.{Ok}
use mathlib.Core.Path.{◌≡◌, ap, ◌∙◌}
use mathlib.Core.Bool.{true, false}
use lib.IntN.{ℤ, ◌+ℤ◌, ◌-ℤ◌}
use lib.Signed.{◌≤ℤ◌}
use Rattle.integers.specs.Whole.{eq_z, larger, smaller}
use Rattle.integers.proofs.Tests.{and_first, and_second}
use Rattle.integers.proofs.Z.{z, +z, -z, maxz, minz, lt_z_out, eq_z_is}
use Rattle.plan.specs.declared.Span.{Span}
use Rattle.plan.specs.declared.Day.{Day}
use Rattle.plan.specs.declared.Task.{Task}
use Rattle.plan.specs.Days.{cut_below, cut_above, cut_to, empty_span}
use Rattle.rules.specs.Balance.{cuts, unless_empty, balanced}
use Rattle.plan.specs.Tasks.{Bounded}
use Rattle.balance.specs.Exact.{exact}

-- ---- one range
record Stays (a b : ℤ) (s : Span Day) : Type 0 where
  same : cut_to a b s ≡ s
  some : empty_span s ≡ false

stays : (a b : ℤ) (s : Span Day) → a ≤ℤ s.low.0 → s.low.0 ≤ℤ s.high.0 → s.high.0 ≤ℤ b → Stays a b s
unfolding cut_to cut_above cut_below
stays a b s from rises to =
    let x = s.low.0 in
    let y = s.high.0 in
    let l : larger x a ≡ x = omega (z, maxz x a) in
    let m : smaller y b ≡ y = omega (z, minz y b) in
    record { same = λ i. record { low = record { 0 = l i }; high = record { 0 = m i } }; some = lt_z_out y x rises }

-- ---- one task
pub exact_stays : (t : Task) → Bounded t → exact t ≡ true → balanced t ≡ Ok t
unfolding exact balanced cuts unless_empty
exact_stays t f h =
    let a = t.origin.low.0 in
    let b = t.origin.high.0 in
    let m = t.duration.low.0 in
    let n = t.duration.high.0 in
    let x = t.end.low.0 in
    let y = t.end.high.0 in
    let low : x ≡ a +ℤ m = eq_z_is x (a +ℤ m) (and_first (eq_z x (a +ℤ m)) (eq_z y (b +ℤ n)) h) in
    let high : y ≡ b +ℤ n = eq_z_is y (b +ℤ n) (and_second (eq_z x (a +ℤ m)) (eq_z y (b +ℤ n)) h) in
    let o = stays (x -ℤ n) (y -ℤ m) t.origin (omega (z, +z a m, -z x n)) f.origin.rises (omega (z, +z b n, -z y m)) in
    let d = stays (x -ℤ b) (y -ℤ a) t.duration (omega (z, +z a m, -z x b)) f.duration.rises (omega (z, +z b n, -z y a)) in
    let e = stays (a +ℤ m) (b +ℤ n) t.end (omega (z, +z a m)) f.end.rises (omega (z, +z b n)) in
    let same : cuts t ≡ t = λ i. record { set = t.set; origin = o.same i; duration = d.same i; end = e.same i; height = t.height } in
    let kept : unless_empty t ≡ Ok t = rw (o.some, d.some, e.some) in
    ap unless_empty same ∙ kept

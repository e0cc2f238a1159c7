-- A text put from the first place on, as the report's contract says it; lists for the most take every plan that is read.
use Rattle.std.specs.Prelude.{Ok, Err}
use mathlib.Core.Path.{◌≡◌, refl, sym, ap, ◌∙◌}
use mathlib.Core.List.{List}
use Prim.Native.Nat.{ℕ, ◌≤◌}
use native.Mathlib.Omega.{arith}
use native.Mathlib.Nat.{zero-add}
use lib.ListN.{length, take}
use lib.Seq.{sets, length-sets, length-take-le}
use borrow.Author.Tests.{le-ltb}
use Rattle.plan.specs.Tasks.{most_resources, most_bands, most_tasks}
use Rattle.format.specs.Reading.{HeaderAnswer, read_header, lists_due, plan_after, read_plan, lent_after, read_lent}
use Rattle.format.proofs.Files.{header_few}
use Rattle.text.specs.Text.{Put}

pub told : (out text : List ℕ) {later written : List ℕ} {r most : ℕ} → Put out 0 written most later r → most ≤ length out → written ≡ text → (later ≡ sets out 0 text) × ((r ≡ length text) × ((r ≤ length later) × (r ≡ length (take r later))))
told out text {later} {written} {r} p h e =
    let same : length later ≡ length out = ap length p.stored ∙ length-sets out 0 written in
    let few : r ≤ length later = omega (arith, p.ends, p.short) in
    (p.stored ∙ ap (sets out 0) e, (p.ends ∙ zero-add (length written) ∙ ap length e, (few, sym (length-take-le r later few))))

after_most : (file : List ℕ) (a : HeaderAnswer) → read_header file ≡ a → lent_after most_resources most_bands most_tasks file a ≡ plan_after file a
unfolding lists_due
after_most file (Ok h) e =
    let w = header_few file e in
    rw (le-ltb most_resources h.resources w.resources, le-ltb most_tasks h.tasks w.tasks)
after_most file (Err f) e = refl

pub lent_most : (file : List ℕ) → read_lent most_resources most_bands most_tasks file ≡ read_plan file
unfolding read_lent read_plan
lent_most file = after_most file (read_header file) refl

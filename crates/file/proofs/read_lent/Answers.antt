-- The header, the lists, then what follows the header.
use native.Mathlib.Omega.{arith}
use mathlib.Core.Path.{◌≡◌, sym, ap, ◌∙◌}
use Prim.Native.Nat.{ℕ, min}
use lib.ListN.{length, take, drop, length-take, length-append}
use Rattle.std.proofs.lemmas.Result.{err_from_is_err_and}
use Rattle.plan.specs.Tasks.{most_bands}
use Rattle.format.specs.Reading.{read_lent, read_after}
use Rattle.format.proofs.Files.{header_few}
use Rattle.runs.proofs.Rooms.{after_roomy, part_through}
use Rattle.file.proofs.read_lent.Goals as goal

pub read_rest-requires : goal.read_rest-requires
read_rest-requires c =
    let few = header_few c.args.file.now (sym c.read_header.ensures ∙ c.in_ok-h.was) in
    (omega (arith, few.resources, c.requires), omega (arith, few.tasks, c.requires))

pub returns-in_err-k-clause-read : goal.returns-in_err-k-clause-read
unfolding read_lent
returns-in_err-k-clause-read c =
    let a = c.args in
    let h = c.in_ok-h.h in
    let most = c.min-most in
    let rest = c.read_rest in
    let lent : length (take most.result a.bands.now) ≡ min a.band_room most_bands = simp length-take (omega (arith, most.ensures, c.requires)) in
    let p = err_from_is_err_and c.from_residual-in_err-k.result c.from_residual-in_err-k.ensures.1 in
    rw (p.1, p.2, sym c.read_header.ensures ∙ c.in_ok-h.was, sym c.check_lists.ensures ∙ c.in_ok-check_lists.was)
    (rw c.in_err-k.was at rest.ensures.read ∙ ap (λ (k : ℕ). read_after k h a.file.now) lent ∙ after_roomy a.band_room h a.file.now)

pub returns-clause-read : goal.returns-clause-read
unfolding read_lent
returns-clause-read c =
    let a = c.args in
    let h = c.in_ok-h.h in
    let most = c.min-most in
    let rest = c.read_rest in
    let lent : length (take most.result a.bands.now) ≡ min a.band_room most_bands = simp length-take (omega (arith, most.ensures, c.requires)) in
    let all = part_through rest.result h rest.new.resources rest.new.bands (drop most.result a.bands.now) rest.new.tasks rest.ensures.run_within ∙ rest.ensures.read in
    rw (c.sense_from.ensures, sym c.read_header.ensures ∙ c.in_ok-h.was, sym c.check_lists.ensures ∙ c.in_ok-check_lists.was)
    (rw c.in_ok-k.was at all ∙ ap (λ (k : ℕ). read_after k h a.file.now) lent ∙ after_roomy a.band_room h a.file.now)

pub returns-clause-answer_within : goal.returns-clause-answer_within
returns-clause-answer_within c =
    let few = header_few c.args.file.now (sym c.read_header.ensures ∙ c.in_ok-h.was) in
    let within = c.in_ok-k.ensures.run_within in
    (omega (arith, few.resources, c.requires), simp length-append (omega (arith, within)), omega (arith, few.tasks, c.requires))

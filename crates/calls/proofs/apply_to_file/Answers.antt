-- The header counts no more than a plan may.
use Rattle.std.proofs.Common.{sym, ◌∙◌}
use Rattle.format.proofs.Files.{header_few}
use Rattle.calls.proofs.apply_to_file.Goals as goal

pub asks_more-requires : goal.asks_more-requires
asks_more-requires c = (header_few c.args.file.now (sym c.in_ok-h.ensures)).resources

pub apply_banded-requires : goal.apply_banded-requires
apply_banded-requires c = let few = header_few c.args.file.now (sym c.in_ok-h.ensures) in (few.resources, few.tasks)

pub apply_bare-requires : goal.apply_bare-requires
apply_bare-requires c =
    let few = header_few c.args.file.now (sym c.in_ok-h.ensures) in
    ((few.resources, few.tasks), sym c.asks_more.ensures ∙ c.if-asks_more.false)

-- The closure tests what the promise names.
use Rattle.std.proofs.Common.{rules}
use Rattle.std.proofs.lemmas.Fn.{always_returns_same}
use Rattle.entry.specs.Checks.{below_id}
use Rattle.entry.proofs.identifiers_rise.Goals as goal

pub returns : goal.returns
returns c = c.is_sorted_by.ensures.cases below_id (always_returns_same _ _ _ (λ a r f k. search rules))

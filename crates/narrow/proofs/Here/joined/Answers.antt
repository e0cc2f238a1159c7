-- The days that are found are those that are joined.
use Rattle.narrow.proofs.Here.joined.Goals as goal

pub returns : goal.returns
returns c = record { days = c.needs.result; among = c.needs.ensures.0; found = c.needs.ensures.1; is = c.with_needs.ensures }

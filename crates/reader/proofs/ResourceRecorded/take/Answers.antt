-- The record that is handed out, if it is of this kind.
use mathlib.Core.Path.{ap, ◌∙◌}
use Rattle.std.specs.Prelude.{Err}
use Rattle.reader.proofs.Handing.{resource_kind, took_one, took_past, took_none}
use Rattle.reader.proofs.ResourceRecorded.take.Goals as goal

pub returns-in_default-clause-taken : goal.returns-in_default-clause-taken
returns-in_default-clause-taken c =
    let r = c.args.reader.now in ap Err c.not_due.ensures ∙ took_none resource_kind r.file.now r.at c.next_due-got.ensures c.in_default.not-Resource

pub returns-clause-taken : goal.returns-clause-taken
returns-clause-taken c = let r = c.args.reader.now in took_one resource_kind r.file.now r.at c.next_due-got.ensures c.in-Resource.is

pub returns-clause-past : goal.returns-clause-past
returns-clause-past c = let r = c.args.reader.now in took_past resource_kind r.file.now r.at c.next_due-got.ensures c.in-Resource.is

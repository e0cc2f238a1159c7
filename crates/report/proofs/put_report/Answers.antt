-- The file is read into lists of our own; a refusal's line stands, a plan is settled and told.
use native.Mathlib.Omega.{arith}
use mathlib.Core.Path.{sym, ap, ◌∙◌}
use Rattle.format.proofs.Files.{whole}
use Rattle.text.proofs.Texts.{puts_is, puts_wider}
use Rattle.report.specs.Report.{read_text, report_of}
use Rattle.report.proofs.Told.{lent_most}
use Rattle.report.proofs.put_report.Goals as goal

pub report_plan-requires : goal.report_plan-requires
report_plan-requires c = ((whole (sym (c.in-Ok.ensures.read ∙ lent_most c.args.file.now))).accepted, c.requires)

pub returns-in-Ok : goal.returns-in-Ok
unfolding report_of
returns-in-Ok c = puts_is c.report_plan.ensures (ap read_text (c.in-Ok.ensures.read ∙ lent_most c.args.file.now))

pub returns-in-Err : goal.returns-in-Err
unfolding report_of
returns-in-Err c =
    puts_is (puts_wider c.refused.ensures (omega arith)) (ap read_text (c.in-Err.ensures.read ∙ lent_most c.args.file.now))

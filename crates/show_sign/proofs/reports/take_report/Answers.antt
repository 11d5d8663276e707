-- What is no report changes nothing; of a report, the code that is lent is that of the first word. Assumes nothing.
use Rattle.std.proofs.Common.{◌∙◌, arith, rules, w32, to_z-of_z}
use Rattle.show_sign.proofs.TakenSteps.{line_wrong, line_taken, code_taken}
use Rattle.show_sign.proofs.reports.take_report.Goals as goal

pub returns-in_default : goal.returns-in_default
returns-in_default g c = line_wrong _ _ _ c.in_default.ensures.answer

pub returns : goal.returns
returns g c =
    let e = c.in-Some.ensures in
    line_taken _ _ _ e.answer (c.first.ensures ∙ code_taken _ e.answer e.stored (omega arith)) (to_z-of_z {w = w32} {z = c.in-Some.read.level} (search rules)) c.report-reported.ensures.stored

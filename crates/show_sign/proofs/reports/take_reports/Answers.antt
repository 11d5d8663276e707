-- One turn takes one line more, and the loop ends at the end of the text. Assumes nothing.
use Rattle.std.proofs.Common.{arith, eqb-true, sym, ◌∙◌}
use Rattle.show_sign.proofs.TakenSteps.{taken_none, taken_more, taken_all}
use Rattle.show_sign.proofs.reports.take_reports.Goals as goal

pub loop-k-init : goal.loop-k-init
loop-k-init g c = (taken_none _ _ _, omega arith, omega arith)

pub loop-k-preserved : goal.loop-k-preserved
loop-k-preserved g c =
    let some = sym c.is_empty.ensures ∙ c.if-is_empty.false in
    (taken_more c.loop-k.invariant.0 some c.first_line.ensures c.after_line-rest.ensures c.take_report.ensures, omega arith, omega arith)

pub returns-then-is_empty : goal.returns-then-is_empty
returns-then-is_empty g c = taken_all c.loop-k.invariant.0 (eqb-true _ _ (sym c.is_empty.ensures ∙ c.if-is_empty.true))

pub returns : goal.returns
returns g c = taken_all c.loop-k.invariant.0 (omega (arith, c.loop-k.invariant.0.few))

-- What `lists::ends::CodeList::wrong_code` owes: an end that is not past the start or is past the run is wrong, and otherwise the number of bytes decides. Assumes nothing.
use Rattle.std.proofs.Common.{arith, le-leb, ltb-true, ltb-false, sym, ◌∙◌}
use Rattle.counting.proofs.TestLaws.{clash}
use Rattle.lists.proofs.CodeSteps.{end-not_past, end_outside, bytes_decide}
use Rattle.lists.proofs.ends.CodeList.wrong_code.Goals as goal
use Rattle.lists.proofs.ends.CodeList.wrong_code.Goals.{then-to-from, else-to-from}

pub returns-then-self-to : goal.returns-then-self-to
returns-then-self-to c =
    let from = c.start-from.ensures.0 in
    let to = c.end-to.ensures.0 in
    rw c.if-self-to.true
    (elim c.if-to-from.branch [
      | then-to-from w ↦ end-not_past _ _ _ _ _ from to (omega arith)
      | else-to-from w ↦ end_outside _ _ _ _ _ from to (ltb-true _ _ (sym w.value-is ∙ c.if-self-to.true))
    ])

pub returns-else-self-to : goal.returns-else-self-to
returns-else-self-to c =
    elim c.if-to-from.branch [
      | then-to-from w ↦ absurd (clash (w.value-is ∙ le-leb _ _ (omega arith)) c.if-self-to.false)
      | else-to-from w ↦ bytes_decide _ _ _ _ _ c.start-from.ensures.0 c.end-to.ensures.0 (omega arith) (ltb-false _ _ (sym w.value-is ∙ c.if-self-to.false))
    ]

-- `checks::marks::marks`: the first mark that is not found decides. Assumes nothing.
use Rattle.std.proofs.Common.{arith, ap, refl, ◌∙◌, Err}
use Rattle.std.proofs.lemmas.Result.{err_from_is_err_and}
use Rattle.directory.specs.declared.Reason.TheVariants.{WrongMark}
use Rattle.directory.specs.Kind.{HD}
use Rattle.directory.specs.File.{key_at}
use Rattle.directory.specs.Opening.{key_unmarked}
use Rattle.directory.specs.Refusals.{refused}
use Rattle.counting.proofs.RangeLaws.{found_lowest}
use Rattle.records.proofs.StandingLaws.{key_from_lem}
use Rattle.checks.proofs.RefusalSteps.{ok_at_end, row_refused, row_ok, found_refused, missed_passed}
use Rattle.checks.proofs.MarkSteps.{mark_rows}
use Rattle.checks.proofs.marks.marks.Goals as goal

pub returns-in_err-mark : goal.returns-in_err-mark
returns-in_err-mark c =
    let d = c.args.directory in
    let p = err_from_is_err_and c.from_residual.result c.from_residual.ensures.1 in
    rw (mark_rows d.header d.file.now refl refl, p.1, p.2) (row_refused tt _ _ c.in_err-mark.ensures)

pub returns-in_err-mark-2 : goal.returns-in_err-mark-2
returns-in_err-mark-2 c =
    let d = c.args.directory in
    let p = err_from_is_err_and c.from_residual-in_err-mark-2.result c.from_residual-in_err-mark-2.ensures.1 in
    rw (mark_rows d.header d.file.now c.values_at.ensures refl, p.1, p.2) (row_ok tt _ _ c.in_ok-mark.ensures (row_refused tt _ _ c.in_err-mark-2.ensures))

pub returns-in_err-mark-3 : goal.returns-in_err-mark-3
returns-in_err-mark-3 c =
    let d = c.args.directory in
    let p = err_from_is_err_and c.from_residual-in_err-mark-3.result c.from_residual-in_err-mark-3.ensures.1 in
    rw (mark_rows d.header d.file.now c.values_at.ensures c.ranks_at.ensures, p.1, p.2) (row_ok tt _ _ c.in_ok-mark.ensures (row_ok tt _ _ c.in_ok-mark-2.ensures (row_refused tt _ _ c.in_err-mark-3.ensures)))

pub key_at-requires-clause-few : goal.key_at-requires-clause-few
key_at-requires-clause-few c = let d = c.args.directory in omega (arith, (found_lowest (key_unmarked HD d.header d.file.now) d.header.n c.in-Some.ensures).2, d.framed.sizes.few)

pub returns-in-Some : goal.returns-in-Some
returns-in-Some c =
    let d = c.args.directory in
    rw (mark_rows d.header d.file.now c.values_at.ensures c.ranks_at.ensures)
    (ap Err c.at.ensures
    ∙ ap (λ at. refused WrongMark at) (c.key_at.ensures ∙ key_from_lem d.header c.in-Some.l)
    ∙ row_ok tt _ _ c.in_ok-mark.ensures (row_ok tt _ _ c.in_ok-mark-2.ensures (row_ok tt _ _ c.in_ok-mark-3.ensures (found_refused tt _ _ WrongMark (key_at HD d.header) _ c.in-Some.ensures))))

pub returns-in-None : goal.returns-in-None
returns-in-None c =
    let d = c.args.directory in
    rw (mark_rows d.header d.file.now c.values_at.ensures c.ranks_at.ensures)
    (row_ok tt _ _ c.in_ok-mark.ensures (row_ok tt _ _ c.in_ok-mark-2.ensures (row_ok tt _ _ c.in_ok-mark-3.ensures (missed_passed tt _ _ WrongMark (key_at HD d.header) _ c.in-None.ensures (ok_at_end tt)))))

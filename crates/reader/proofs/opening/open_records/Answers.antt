-- `reader::opening::open_records`: the first of the three tables that refuses decides. Assumes nothing.
use Rattle.std.proofs.Common.{sym, ◌++◌, ◌∙◌, ◌≡◌}
use Rattle.std.proofs.lemmas.Result.{err_from_is_err_and}
use Rattle.directory.specs.Kind.{HD}
use Rattle.directory.specs.Refusals.{ok_unless}
use Rattle.directory.specs.Values.{table_refusals}
use Rattle.directory.specs.File.{table_in}
use Rattle.directory.specs.Opening.{key_refusals, record_refusals}
use Rattle.directory.proofs.OpeningLaws.{unless_alike, unless_none, unless_more, unless_passed}
use Rattle.reader.proofs.opening.open_records.Goals as goal
use Rattle.reader.proofs.opening.open_records.Goals.{In_ok-marks, In_ok-table}

-- the marks are right, so the other rows decide
marks_passed : (c : In_ok-marks) → let d = c.args.directory in ok_unless d.header (record_refusals HD d.header d.file.now) ≡ ok_unless d.header (table_refusals d.header (table_in HD d.header d.file.now) ++ key_refusals HD d.header d.file.now)
unfolding record_refusals
marks_passed c = unless_passed tt _ _ _ _ (sym c.in_ok-marks.ensures)

pub returns-in_err-marks : goal.returns-in_err-marks
unfolding record_refusals
returns-in_err-marks c =
    let p = err_from_is_err_and c.from_residual.result c.from_residual.ensures.1 in
    rw (p.1, p.2) (sym (unless_more tt _ _ _ _ _ (sym c.in_err-marks.ensures)))

pub returns-in_err-table : goal.returns-in_err-table
returns-in_err-table c =
    let a = (goal.at.returns-in_err-table c).In_ok-marks in
    let p = err_from_is_err_and c.from_residual-in_err-table.result c.from_residual-in_err-table.ensures.1 in
    rw (p.1, p.2) (sym (marks_passed a ∙ unless_more tt _ _ _ _ _ (sym c.in_err-table.ensures)))

-- the values and rank entries are right too, so the KY records decide
table_passed : (c : In_ok-table) → let d = c.args.directory in ok_unless d.header (record_refusals HD d.header d.file.now) ≡ ok_unless d.header (key_refusals HD d.header d.file.now)
table_passed c = marks_passed (goal.at.In_ok-table c).In_ok-marks ∙ unless_passed tt _ _ _ _ (sym c.in_ok-table.ensures)

pub returns-in_err-keys : goal.returns-in_err-keys
returns-in_err-keys c =
    let p = err_from_is_err_and c.from_residual-in_err-keys.result c.from_residual-in_err-keys.ensures.1 in
    rw (p.1, p.2) (sym (table_passed (goal.at.returns-in_err-keys c).In_ok-table ∙ unless_alike tt _ _ _ _ (sym c.in_err-keys.ensures)))

pub returns : goal.returns
returns c = sym (table_passed (goal.at.returns c).In_ok-table ∙ unless_none tt _ _ _ (sym c.in_ok-keys.ensures))

-- `reader::opening::open`: the header's refusal is given, and otherwise what the records give. Assumes nothing.
use Rattle.std.proofs.Common.{◌∙◌}
use Rattle.std.proofs.lemmas.Result.{err_from_is_err_and}
use Rattle.reader.proofs.Papers.{open_given}
use Rattle.reader.proofs.AfterHeader.{open_refused, open_rest}
use Rattle.reader.proofs.opening.open.Goals as goal

pub returns-in_err-framed : goal.returns-in_err-framed
returns-in_err-framed c =
    let p = err_from_is_err_and c.from_residual.result c.from_residual.ensures.1 in
    let g = open_given c.args.file.now (open_refused _ _ c.in_err-framed.ensures.err) in
    rw (p.1, p.2) (record { given = g.0; paper = g.1 })

pub returns : goal.returns
returns c =
    let g = open_given c.args.file.now (c.open_records.ensures ∙ rw c.in_ok-framed.ensures.ok.0 (open_rest _ _ c.in_ok-framed.ensures.ok.1)) in
    record { given = g.0; paper = g.1 }

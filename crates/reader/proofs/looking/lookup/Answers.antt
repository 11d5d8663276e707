-- `reader::looking::lookup`: the header's refusal is given, then one of the code's length, and otherwise what is found. Assumes nothing.
use Rattle.std.proofs.Common.{sym, ap, Err, ◌∙◌}
use Rattle.std.proofs.lemmas.Result.{err_from_is_err_and}
use Rattle.directory.specs.Kind.{HD}
use Rattle.directory.proofs.CodesLaws.{length-right}
use Rattle.reader.proofs.Papers.{lookup_given}
use Rattle.reader.proofs.AfterHeader.{lookup_refused, lookup_wrong, lookup-found}
use Rattle.reader.proofs.looking.lookup.Goals as goal

pub returns-in_err-directory : goal.returns-in_err-directory
returns-in_err-directory c =
    let p = err_from_is_err_and c.from_residual.result c.from_residual.ensures.1 in
    let g = lookup_given c.args.file.now c.args.code.now (lookup_refused _ _ c.in_err-directory.ensures.err _) in
    rw (p.1, p.2) (record { given = g.0; paper = g.1 })

pub invariant_of-find : goal.invariant_of-find
invariant_of-find c = record { short = ((length-right HD.positions _).0 (sym c.wrong_length.ensures ∙ c.if-wrong_length.false)).1 }

pub returns-then-wrong_length : goal.returns-then-wrong_length
returns-then-wrong_length c =
    let g = lookup_given c.args.file.now c.args.code.now (ap Err c.at.ensures ∙ lookup_wrong _ _ c.in_ok-directory.ensures.ok.1 _ (sym c.wrong_length.ensures ∙ c.if-wrong_length.true)) in
    record { given = g.0; paper = g.1 }

pub returns : goal.returns
returns c =
    let g = lookup_given c.args.file.now c.args.code.now (c.find.ensures ∙ rw c.in_ok-directory.ensures.ok.0 (lookup-found _ _ c.in_ok-directory.ensures.ok.1 _ (sym c.wrong_length.ensures ∙ c.if-wrong_length.false))) in
    record { given = g.0; paper = g.1 }

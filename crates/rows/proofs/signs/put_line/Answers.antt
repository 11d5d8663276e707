-- `rows::signs::put_line` meets its contract: the goals that the check leaves open.
use Rattle.std.proofs.Common.{ap, arith, length, sym, ◌∙◌, ◌≡◌}
use Rattle.storing.proofs.WentLaws.{went_named}
use Rattle.directory.specs.Calls.{show_of}
use Rattle.directory.proofs.EveryFile.{the_bytes_shown_are_those_of_the_part}
use Rattle.listing.proofs.ListingLaws.{shown_short}
use Rattle.rows.proofs.SignLaws.{row_of_lem}
use Rattle.rows.proofs.signs.put_line.Goals as goal
use Rattle.rows.proofs.signs.put_line.Goals.{After-show-code}

-- the code is the shown one, ..
code-shown : (c : After-show-code) → c.show-code.result.now ≡ show_of c.args.sign.file.now c.args.line
code-shown c = c.show-code.ensures.bytes ∙ sym (the_bytes_shown_are_those_of_the_part _ _)

pub returns-clause-written : goal.returns-clause-written
returns-clause-written c =
    let s = c.args.sign in
    let is = code-shown (goal.at.returns-clause-written c).After-show-code in
    went_named (row_of_lem s.file.now s.moment s.limit _ c.args.line is c.heard-last.ensures c.ask-answer.ensures) c.put_row.ensures.written

-- .. which has at most 32 bytes
pub put_row-requires : goal.put_row-requires
put_row-requires c =
    let is = code-shown (goal.at.put_row-requires c).After-show-code in
    (omega (arith, ap length is, shown_short c.args.sign.file.now c.args.line), omega arith)

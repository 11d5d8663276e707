-- `rows::row::put_row` meets its contract: its parts stand one behind the other.
use Rattle.std.proofs.Common.{ap}
use Rattle.storing.proofs.WentLaws.{went_then, went_named}
use Rattle.rows.specs.Rows.{seen_text, row_text}
use Rattle.rows.proofs.row.put_row.Goals as goal

pub returns-clause-written : goal.returns-clause-written
unfolding row_text
returns-clause-written c =
    let seen = went_named (ap seen_text c.seen.ensures) c.put_seen.ensures.written in
    let columns = went_then c.put_code_column.ensures.written seen in
    went_then (went_then (went_then columns c.bytes.ensures) c.put_word.ensures.written) c.byte.ensures

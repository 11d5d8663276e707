-- `rows::row::put_columns` meets its contract: the goals that the check leaves open.
use Rattle.storing.proofs.WentLaws.{went_then}
use Rattle.rows.specs.Rows.{columns}
use Rattle.rows.proofs.row.put_columns.Goals as goal

pub returns-clause-written : goal.returns-clause-written
unfolding columns
returns-clause-written c = went_then c.put_column.ensures.written c.put_column-2.ensures.written

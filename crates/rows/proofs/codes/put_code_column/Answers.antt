-- `rows::codes::put_code_column` meets its contract: the goals that the check leaves open.
use Rattle.std.proofs.Common.{ap, arith, length, ◌∙◌, ◌≡◌, ◌≤◌}
use Rattle.storing.proofs.WentLaws.{went_named}
use Rattle.rows.specs.declared.Side.TheVariants.{Right}
use Rattle.rows.specs.Filling.{filled}
use Rattle.rows.proofs.FillingLaws.{filled_short, field_taken}
use Rattle.rows.specs.Rows.{code_text, code_column, longest_code}
use Rattle.rows.proofs.RowLaws.{code_short}
use Rattle.rows.proofs.codes.put_code_column.Goals as goal
use Rattle.rows.proofs.codes.put_code_column.Goals.{After-first}

-- what is lent to be filled is the text of the code, ..
field : (c : After-first) → c.first.result.now ≡ code_text c.args.code.now
field c = c.first.ensures ∙ field_taken c.put_code.ensures.wrote (code_short _ c.requires.0)

-- .. and filled it has room in the row
short : (c : After-first) → length (filled Right 32 c.first.result.now) ≤ longest_code
short c = filled_short Right 32 c.first.result.now (omega arith) (omega (arith, ap length (field c), code_short _ c.requires.0))

pub returns-clause-written : goal.returns-clause-written
unfolding code_column
returns-clause-written c = went_named (ap (filled Right 32) (field (goal.at.returns-clause-written c).After-first)) c.put_filled.ensures

pub returns-clause-fits : goal.returns-clause-fits
returns-clause-fits c = omega (arith, short (goal.at.returns-clause-fits c).After-first)

pub put_code-requires : goal.put_code-requires
put_code-requires c = omega (arith, code_short _ c.requires.0)

pub put_filled-requires : goal.put_filled-requires
put_filled-requires c = omega (arith, short (goal.at.put_filled-requires c).After-first)

-- `rows::values::put_column` meets its contract: the goals that the check leaves open.
use Rattle.std.proofs.Common.{ap, arith, length, ◌∙◌, ◌≡◌, ◌≤◌}
use Rattle.storing.proofs.WentLaws.{went_then, went_named}
use Rattle.rows.specs.declared.Side.TheVariants.{Left}
use Rattle.rows.specs.Filling.{filled}
use Rattle.rows.proofs.FillingLaws.{filled_short, field_taken}
use Rattle.rows.specs.Values.{value_text, column, longest_value}
use Rattle.rows.proofs.values.put_column.Goals as goal
use Rattle.rows.proofs.values.put_column.Goals.{After-first}

-- what is lent to be filled is the value, ..
field : (c : After-first) → c.first.result.now ≡ value_text c.args.value
field c = c.first.ensures ∙ field_taken c.put_value.ensures.written.wrote c.put_value.ensures.fits

-- .. so it has room
short : (c : After-first) → length (filled Left c.args.width c.first.result.now) ≤ longest_value
short c = filled_short Left c.args.width c.first.result.now c.requires.0 (omega (arith, ap length (field c), c.put_value.ensures.fits))

pub returns-clause-written : goal.returns-clause-written
unfolding column
returns-clause-written c =
    let is = field (goal.at.returns-clause-written c).After-first in
    went_then c.bytes.ensures (went_named (ap (filled Left c.args.width) is) c.put_filled.ensures)

pub returns-clause-fits : goal.returns-clause-fits
returns-clause-fits c = omega (arith, short (goal.at.returns-clause-fits c).After-first)

pub put_filled-requires : goal.put_filled-requires
put_filled-requires c = omega (arith, short (goal.at.put_filled-requires c).After-first)

-- `rows::values::put_age` meets its contract: its parts stand one behind the other.
use Rattle.storing.proofs.WentLaws.{went_then}
use Rattle.rows.specs.Values.{age_text}
use Rattle.rows.proofs.values.put_age.Goals as goal

pub returns : goal.returns
unfolding age_text
returns c = went_then (went_then c.put_decimal.ensures c.put_part.ensures) c.put_part-2.ensures

-- `rows::values::put_metres` meets its contract: its parts stand one behind the other.
use Rattle.storing.proofs.WentLaws.{went_then}
use Rattle.rows.specs.Values.{metres}
use Rattle.rows.proofs.values.put_metres.Goals as goal

pub returns : goal.returns
unfolding metres
returns c = went_then (went_then c.put_decimal.ensures (went_then c.byte.ensures c.put_three.ensures)) c.bytes.ensures

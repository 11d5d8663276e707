-- `rows::filling::put_filled` meets its contract: the goals that the check leaves open.
use Rattle.storing.proofs.WentLaws.{went_then}
use Rattle.rows.specs.Filling.{filled}
use Rattle.rows.proofs.filling.put_filled.Goals as goal

pub returns-in-Left : goal.returns-in-Left
unfolding filled
returns-in-Left c = rw (c.in-Left.is, ← c.saturating_sub-count.ensures) (went_then c.put_blanks.ensures c.bytes.ensures)

pub returns-in-Right : goal.returns-in-Right
unfolding filled
returns-in-Right c = rw (c.in-Right.is, ← c.saturating_sub-count.ensures) (went_then c.bytes-in-Right.ensures c.put_blanks-in-Right.ensures)

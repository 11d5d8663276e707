-- `listing::refusals::put_refused` meets its contract: its parts stand one behind the other.
use Rattle.storing.proofs.WentLaws.{went_then}
use Rattle.directory.specs.Listing.{refused_line}
use Rattle.listing.proofs.refusals.put_refused.Goals as goal

pub returns : goal.returns
unfolding refused_line
returns c = rw (← c.number-number.ensures) (went_then (went_then (went_then c.bytes.ensures c.put_number.ensures) c.put_number-2.ensures) c.byte.ensures)

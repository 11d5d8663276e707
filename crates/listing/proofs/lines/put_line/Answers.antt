-- `listing::lines::put_line` meets its contract: its parts stand one behind the other.
use Rattle.storing.proofs.WentLaws.{went_then}
use Rattle.directory.specs.Listing.{listed_line}
use Rattle.listing.proofs.lines.put_line.Goals as goal

pub returns : goal.returns
unfolding listed_line
returns c = went_then (went_then c.put_decimal.ensures (went_then c.byte.ensures c.put_hex.ensures)) c.byte-2.ensures

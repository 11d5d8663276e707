-- `reader::framing::framed`: a header that is given is framed. Assumes nothing.
use Rattle.std.proofs.Common.{sym}
use Rattle.reader.proofs.AfterHeader.{header_framed}
use Rattle.reader.proofs.framing.framed.Goals as goal

pub invariant_of-result : goal.invariant_of-result
invariant_of-result c = record { framed = header_framed _ _ (sym c.in_ok-header.ensures.given) }

-- `listing::numbers::put_hex` meets its contract: the goals that the check leaves open.
use Rattle.std.proofs.Common.{arith, take, length-take-le}
use Rattle.directory.specs.Listing.{hex}
use Rattle.storing.proofs.WentLaws.{went_none}
use Rattle.listing.proofs.TextLaws.{hex-length}
use Rattle.listing.proofs.TextSteps.{went_hex-next}
use Rattle.listing.proofs.numbers.put_hex.Goals as goal

pub loop-b-init : goal.loop-b-init
unfolding hex
loop-b-init c = went_none _

pub loop-b-preserved : goal.loop-b-preserved
loop-b-preserved c = went_hex-next _ c.loop-b.b-index (omega arith) c.loop-b.invariant c.put_pair.ensures

-- the bytes so far have taken two digits each
pub put_pair-requires : goal.put_pair-requires
put_pair-requires c =
    let code = c.args.code.now in
    let i = c.loop-b.b-index in
    (omega arith, omega arith, omega arith, omega (arith, hex-length code, hex-length (take i code), length-take-le i code (omega arith)))

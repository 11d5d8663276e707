-- `texts::hex::put_pairs` meets its contract: the goals that the check leaves open.
use Rattle.std.proofs.Common.{[], ap, arith, ◌*◌, ◌+◌, ◌∷◌}
use Rattle.storing.proofs.WentLaws.{went_each_none, went_each-next, went_named}
use Rattle.texts.specs.Codes.{first_pairs, pair_byte}
use Rattle.texts.proofs.HexLaws.{right-digit}
use Rattle.texts.proofs.hex.put_pairs.Goals as goal

pub loop-i-init : goal.loop-i-init
unfolding first_pairs
loop-i-init c = (went_each_none _ _, omega arith)

pub pair_byte-requires : goal.pair_byte-requires
pair_byte-requires c =
    let right = right-digit _ c.requires.right in
    (right (2 * c.loop-i.i) (omega arith), right (2 * c.loop-i.i + 1) (omega arith))

pub loop-i-preserved : goal.loop-i-preserved
unfolding first_pairs pair_byte
loop-i-preserved c =
    let v = c.loop-i in
    (went_each-next v.i _ v.invariant.0 (went_named (ap (λ b. b ∷ []) c.pair_byte.ensures) c.byte.ensures), omega arith)

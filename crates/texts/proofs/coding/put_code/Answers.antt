-- `texts::coding::put_code` meets its contract: the goals that the check leaves open.
use Rattle.std.proofs.Common.{ap, arith, length, length-take, min, ◌/◌, ◌∙◌}
use Rattle.storing.proofs.WentLaws.{went_named}
use Rattle.texts.specs.Codes.{wrong_pairs, first_pairs, most_kept}
use Rattle.texts.proofs.CodeLaws.{wrong_in_hex, kept_pairs, kept-plain}
use Rattle.texts.proofs.coding.put_code.Goals as goal

pub returns-in-Some : goal.returns-in-Some
returns-in-Some c =
    let hex = c.in-Some.ensures in
    let pairs = ap (first_pairs c.in-Some.digits.now) c.min.ensures ∙ ap (λ t. first_pairs t (min (length t / 2) most_kept)) hex.1 in
    went_named (pairs ∙ kept_pairs _ hex.0) c.put_pairs.ensures

pub returns-in-None : goal.returns-in-None
returns-in-None c = went_named (c.first.ensures ∙ kept-plain _ c.in-None.ensures) c.bytes.ensures

pub put_pairs-requires-clause-right : goal.put_pairs-requires-clause-right
put_pairs-requires-clause-right c = let hex = c.in-Some.ensures in ap wrong_pairs hex.1 ∙ wrong_in_hex _ hex.0 ∙ c.requires.right

pub bytes-requires : goal.bytes-requires
bytes-requires c = omega (arith, ap length c.first.ensures, length-take most_kept c.args.line.now)

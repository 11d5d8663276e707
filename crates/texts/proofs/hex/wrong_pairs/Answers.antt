-- `texts::hex::wrong_pairs` meets its contract: the goals that the check leaves open.
use Rattle.std.proofs.Common.{rules}
use borrow.Author.Tests.{tests}
use Rattle.std.proofs.lemmas.Iterator.{YieldsList-from_slice}
use Rattle.std.proofs.lemmas.Iterator.Search.{any_from_yields_List}
use Rattle.std.proofs.Common.{eqb}
use Rattle.texts.specs.Codes.{hex_value, no_digit}
use Rattle.texts.proofs.HexLaws.{pairs_odd, pairs_any}
use Rattle.texts.proofs.hex.wrong_pairs.Goals as goal

pub returns-then-digits-ne0 : goal.returns-then-digits-ne0
returns-then-digits-ne0 c = pairs_odd _ c.if-digits-ne0.true

pub returns-else-digits-ne0 : goal.returns-else-digits-ne0
returns-else-digits-ne0 c = pairs_any _ c.if-digits-ne0.false (any_from_yields_List (λ b. eqb (hex_value b) no_digit) _ _ _ c.any.ensures.ran (YieldsList-from_slice c.args.digits.now cc) (λ x b q k. search (rules, tests)))

-- `rows::codes::plain` meets its contract: the goals that the check leaves open.
use Rattle.std.proofs.Common.{rules, tests, true, false, ◌≡◌, length, arith}
use Rattle.std.proofs.lemmas.Iterator.{cases_from_all, YieldsList-from_range}
use Rattle.rows.specs.Rows.{readable}
use Rattle.rows.proofs.RowLaws.{all_pass, plain-hex, plain_all}
use Rattle.rows.proofs.codes.plain.Goals as goal

pub returns-then-not-in_hex : goal.returns-then-not-in_hex
returns-then-not-in_hex c =
    let code = c.args.code.now in
    plain_all code (search rules) (all_pass _ (readable code) _
    (cases_from_all _ _ _ (λ i. readable code i ≡ true) (λ i. readable code i ≡ false) c.all.ensures.ran (YieldsList-from_range 0 (length code) (length code) (cc) (omega arith)) (λ x q k. search (rules, tests)) (λ x q k. search (rules, tests))))

pub returns-else-not-in_hex : goal.returns-else-not-in_hex
returns-else-not-in_hex c = plain-hex _ c.in_hex.ensures c.if-not-in_hex.false

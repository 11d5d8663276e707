-- `listing::numbers::put_decimal` meets its contract: a number of one digit, or the digits before the last and then that one.
use Rattle.std.proofs.Common.{sym}
use Rattle.storing.proofs.WentLaws.{went_then, went_named}
use Rattle.listing.proofs.TextLaws.{decimal-one, decimal_more}
use Rattle.listing.proofs.numbers.+put_decimal.Goals as goal

pub returns-then-x-lt-TEN : goal.returns-then-x-lt-TEN
returns-then-x-lt-TEN t c = went_named (sym (decimal-one _ c.if-x-lt-TEN.true)) c.put_digit.ensures

pub returns-else-x-lt-TEN : goal.returns-else-x-lt-TEN
returns-else-x-lt-TEN t c = went_named (sym (decimal_more _ c.if-x-lt-TEN.false)) (went_then c.put_decimal.ensures c.put_digit-else-x-lt-TEN.ensures)

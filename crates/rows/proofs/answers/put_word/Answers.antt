-- `rows::answers::put_word` meets its contract: a refusal's number has at most three digits.
use Rattle.std.proofs.Common.{arith}
use Rattle.rows.proofs.RowLaws.{refused_short}
use Rattle.rows.proofs.answers.put_word.Goals as goal

pub returns-in-Err-clause-fits : goal.returns-in-Err-clause-fits
returns-in-Err-clause-fits c = omega (arith, refused_short c.number.result (omega arith))

pub put_refused-requires : goal.put_refused-requires
put_refused-requires c = omega (arith, refused_short c.number.result (omega arith))

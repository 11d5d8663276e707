-- `rows::filling::put_blanks` meets its contract: the goals that the check leaves open.
use Rattle.std.proofs.Common.{arith, rules, refl}
use Rattle.rows.proofs.FillingLaws.{blanks_written}
use Rattle.rows.proofs.filling.put_blanks.Goals as goal

pub returns : goal.returns
returns c = record { same_buffer = refl; wrote = blanks_written c.requires (omega arith) (search rules) }

-- `texts::coding::read_code` meets its contract: the goals that the check leaves open.
use Rattle.std.proofs.Common.{sym}
use Rattle.texts.proofs.CodeLaws.{code_wrong, code_taken}
use Rattle.texts.proofs.coding.read_code.Goals as goal

pub returns-then-wrong_line : goal.returns-then-wrong_line
returns-then-wrong_line c = let r = code_wrong _ _ (sym c.if-wrong_line.ensures) in record { answer = r.0; stored = r.1 }

pub returns : goal.returns
returns c = let r = code_taken _ (sym c.if-wrong_line.ensures) c.put_code.ensures.wrote in record { answer = r.0; stored = r.1 }

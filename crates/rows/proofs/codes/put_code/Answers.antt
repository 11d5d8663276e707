-- `rows::codes::put_code` meets its contract: the goals that the check leaves open.
use Rattle.std.proofs.Common.{ap, arith, false, length, length-append, sym, ◌∙◌, ◌≡◌}
use Rattle.storing.proofs.WentLaws.{went_then, went_named}
use Rattle.directory.specs.Listing.{hex}
use Rattle.texts.specs.Codes.{hex_sign}
use Rattle.rows.specs.Rows.{plain}
use Rattle.rows.proofs.RowLaws.{code-plain, code-hex}
use Rattle.rows.proofs.codes.put_code.Goals as goal
use Rattle.rows.proofs.codes.put_code.Goals.{Else-plain}

in-hex : (c : Else-plain) → plain c.args.code.now ≡ false
in-hex c = sym c.plain.ensures ∙ c.if-plain.false

pub returns-then-plain : goal.returns-then-plain
returns-then-plain c = went_named (code-plain _ (sym c.plain.ensures ∙ c.if-plain.true)) c.bytes.ensures

pub returns-else-plain : goal.returns-else-plain
returns-else-plain c = went_named (code-hex _ (in-hex (goal.at.returns-else-plain c).Else-plain)) (went_then c.bytes-else-plain.ensures c.put_hex.ensures)

pub bytes-requires-else-plain : goal.bytes-requires-else-plain
bytes-requires-else-plain c = omega (arith, ap length (code-hex _ (in-hex (goal.at.bytes-requires-else-plain c).Else-plain)), length-append hex_sign (hex c.args.code.now))

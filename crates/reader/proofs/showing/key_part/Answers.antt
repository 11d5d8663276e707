-- `reader::showing::key_part`: nothing is shown of a line past the last or of a wrong length, and otherwise the stored code. Assumes nothing.
use Rattle.std.proofs.Common.{sym, ◌∙◌, arith, ◌≡◌}
use Rattle.directory.specs.Kind.{HD}
use Rattle.directory.specs.File.{key_length}
use Rattle.reader.proofs.PartLaws.{part_past, part_wrong, part_here}
use Rattle.reader.proofs.showing.key_part.Goals as goal
use Rattle.reader.proofs.showing.key_part.Goals.{After-key_length-size}

pub returns-then-directory-line : goal.returns-then-directory-line
returns-then-directory-line c = let d = c.args.directory in part_past d.header d.file.now c.args.line (omega arith)

-- the length that was read is that of the line's KY record
size : (c : After-key_length-size) → let d = c.args.directory in c.key_length-size.result ≡ key_length HD d.header d.file.now c.args.line
size c = rw (← c.key.ensures.same_header, ← c.key.ensures.same_file, ← c.key.ensures.its_line) c.key_length-size.ensures.0

pub returns-then-wrong_length : goal.returns-then-wrong_length
returns-then-wrong_length c =
    let d = c.args.directory in
    part_wrong d.header d.file.now c.args.line c.if-directory-line.false _ (size (goal.at.returns-then-wrong_length c).After-key_length-size) (sym c.wrong_length.ensures ∙ c.if-wrong_length.true)

pub returns : goal.returns
returns c =
    let d = c.args.directory in
    rw c.code_at-start.ensures (part_here d.header d.file.now c.args.line c.if-directory-line.false _ (size (goal.at.returns c).After-key_length-size) (sym c.wrong_length.ensures ∙ c.if-wrong_length.false))

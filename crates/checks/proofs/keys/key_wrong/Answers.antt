-- `checks::keys::key_wrong`: the length decides, or else the filling. Assumes nothing.
use Rattle.std.proofs.Common.{arith, ◌∙◌, ◌≡◌, ◌+◌, ◌≤◌, length}
use Rattle.directory.specs.Kind.{HD}
use Rattle.directory.specs.File.{key_length}
use Rattle.records.specs.Standing.{most_bytes, code_from}
use Rattle.records.proofs.FramedLaws.{framed_keyed}
use Rattle.checks.proofs.KeySteps.{key_filling}
use Rattle.checks.proofs.keys.key_wrong.Goals as goal

pub returns-else-size-gt-POSITIONS : goal.returns-else-size-gt-POSITIONS
returns-else-size-gt-POSITIONS c =
    let d = c.args.directory in
    let e : c.key_length-size.result ≡ key_length HD d.header d.file.now c.args.l = c.key_length-size.ensures.0 ∙ cc in
    let inside : code_from d.header c.args.l + most_bytes ≤ length d.file.now = omega (arith, (framed_keyed d.header d.file.now d.framed c.args.l c.requires).long) in
    c.filling_set.ensures ∙ rw c.code_at.ensures (key_filling d.header d.file.now c.args.l c.key_length-size.result e c.if-size-gt-POSITIONS.false.0 c.if-size-gt-POSITIONS.false.1 inside)

-- `reader::showing::part`: nothing is shown where the header is refused, and otherwise the part of the line. Assumes nothing.
use Rattle.std.proofs.Common.{◌∙◌}
use Rattle.reader.proofs.AfterHeader.{show_refused, show_part}
use Rattle.reader.proofs.showing.part.Goals as goal

pub returns-in-Err : goal.returns-in-Err
returns-in-Err c = show_refused _ _ c.in-Err.ensures.err _

pub returns-in-Ok : goal.returns-in-Ok
returns-in-Ok c = c.key_part.ensures ∙ rw c.in-Ok.ensures.ok.0 (show_part _ _ c.in-Ok.ensures.ok.1 _)

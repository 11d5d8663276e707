-- `texts::lines::from_line`. The invariant: the text from line `_i` on is left.
use Rattle.std.proofs.Common.{◌≡◌}
use Rattle.texts.specs.Lines.{from_line}
use Rattle.texts.proofs.lines.from_line.Given as goal

abbrev pub invariant-loop-i : goal.invariant-loop-i
invariant-loop-i l = l.rest ≡ from_line l.text l._i

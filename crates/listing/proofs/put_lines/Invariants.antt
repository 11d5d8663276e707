-- `listing::put_lines`. The invariant: the lines before `line` are written, and none is longer than the longest.
use Rattle.std.proofs.Common.{◌*◌, ◌≤◌}
use Rattle.storing.specs.Went.{Went}
use Rattle.listing.specs.Text.{lines, longest_line}
use Rattle.listing.proofs.put_lines.Given as goal

abbrev pub invariant-loop-line : goal.invariant-loop-line
invariant-loop-line l = record { written : Went (lines l.file l.line) l.initial.out l.out; short : l.out.at ≤ longest_line * l.line }

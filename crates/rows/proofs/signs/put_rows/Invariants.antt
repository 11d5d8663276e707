-- `rows::signs::put_rows`. The invariant: the rows of the lines before `line` are written, and none is longer than the longest.
use Rattle.std.proofs.Common.{◌*◌, ◌≤◌}
use Rattle.sign.specs.Keeping.{lists}
use Rattle.storing.specs.Went.{Went}
use Rattle.rows.specs.Rows.{longest_row}
use Rattle.rows.specs.Signs.{sign_text}
use Rattle.rows.proofs.signs.put_rows.Given as goal

abbrev pub invariant-loop-line : goal.invariant-loop-line
invariant-loop-line l =
    let s = l.sign in
    record { written : Went (sign_text s.file.now l.line s.moment s.limit (lists s.levels.now s.times.now)) l.initial.out l.out; short : l.out.at ≤ longest_row * l.line }

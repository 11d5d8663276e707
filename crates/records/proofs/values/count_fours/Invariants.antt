-- `records::values::count_fours`. The invariant: c is the count of the values of the bytes so far. Assumes nothing.
use Rattle.std.proofs.Common.{◌*◌, ◌+◌, ◌≡◌, ◌≤◌}
use Rattle.counting.specs.Below.{count}
use Rattle.graph.specs.Assignment.{assigned}
use Rattle.directory.specs.Values.{value_in}
use Rattle.records.specs.Standing.{bytes_from}
use Rattle.records.proofs.values.count_fours.Given as goal

abbrev pub invariant-loop-four : goal.invariant-loop-four
invariant-loop-four l = record {
  counted : l.c ≡ count (4 * l.four-index) (λ j. assigned l.r (value_in (bytes_from l.file l.at) (l.from + j)));
  most : l.c ≤ 4 * l.four-index;
}

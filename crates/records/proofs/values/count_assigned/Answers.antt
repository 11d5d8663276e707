-- `records::values::count_assigned`: the values of whole bytes, and the rest. Assumes nothing.
use Rattle.std.proofs.Common.{arith, ◌*◌, ◌/◌, ◌∙◌}
use Rattle.counting.proofs.RangeLaws.{count_range}
use Rattle.records.proofs.ReadingSteps.{count_in_two}
use Rattle.records.proofs.values.count_assigned.Goals as goal

pub returns : goal.returns
returns c =
    let a = c.args in
    let rest = c.count_singly.ensures.counted ∙ count_range _ _ in
    (count_in_two a.file.now a.at a.r a.from (4 * (a.k / 4)) a.k c.count_fours.result c.count_singly.result (omega arith) c.count_fours.ensures.0 rest, omega arith)

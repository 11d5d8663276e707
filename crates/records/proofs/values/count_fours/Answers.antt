-- `records::values::count_fours`: one byte more has the four values that follow. Assumes nothing.
use Rattle.std.proofs.Common.{arith, sym}
use Rattle.counting.proofs.BelowLaws.{sum_none}
use Rattle.records.proofs.ReadingSteps.{byte_of_part, fours_next}
use Rattle.records.proofs.values.count_fours.Goals as goal

pub loop-four-init : goal.loop-four-init
loop-four-init c = record { counted = sym (sum_none _); most = omega arith }

pub loop-four-preserved : goal.loop-four-preserved
loop-four-preserved c =
    let a = c.args in
    let l = c.loop-four in record {
      counted = fours_next a.file.now a.at a.r a.from l.four-index _ l.c c.count_four-c.result c.requires.first (byte_of_part a.file.now _ _ _ l.four-index c.loop-four-test.true (omega arith)) l.invariant.counted c.count_four-c.ensures.0;
      most = omega (arith, c.count_four-c.ensures.1);
    }

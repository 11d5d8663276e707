-- `writer::numbers::put_twos`. The invariant: the numbers before x are stored. Assumes nothing.
use Rattle.std.proofs.Common.{get_or}
use Rattle.counting.specs.Lists.{each}
use Rattle.directory.specs.Bytes.{two}
use Rattle.storing.specs.Went.{Went}
use Rattle.writer.proofs.numbers.put_twos.Given as goal

abbrev pub invariant-loop-x : goal.invariant-loop-x
invariant-loop-x l = Went (each l.x-index (λ k. two (get_or l.numbers k 0))) l.initial.out l.out

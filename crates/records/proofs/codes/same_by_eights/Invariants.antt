-- `records::codes::same_by_eights`. The invariant: what is left of the part is as long as what is left of the code, and the two decide. The measure is their length. Assumes nothing.
use Rattle.std.proofs.Common.{◌≡◌, length}
use Rattle.counting.specs.Lists.{same}
use Rattle.records.proofs.codes.same_by_eights.Given as goal

abbrev pub invariant-loop-eight : goal.invariant-loop-eight
invariant-loop-eight l = record {
  long : length l.part ≡ length l.code;
  decides : same l.part l.code ≡ same l.fn.part l.fn.code;
}

abbrev pub decreases-loop-eight : goal.decreases-loop-eight
decreases-loop-eight l = length l.part

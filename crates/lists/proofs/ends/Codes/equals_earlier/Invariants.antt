-- `lists::ends::Codes::equals_earlier`. The invariant: none of the codes before this end is the same as code k, and the next starts at `from`. Assumes nothing.
use Rattle.std.proofs.Common.{false, ℕ, ◌<◌, ◌≡◌}
use Rattle.counting.specs.Lists.{same}
use Rattle.directory.specs.Codes.{start, code}
use Rattle.lists.proofs.ends.Codes.equals_earlier.Given as goal

abbrev pub invariant-loop-end : goal.invariant-loop-end
invariant-loop-end l = record {
  none : (j : ℕ) → j < l.end-index → same (code l.self.list.run.now l.self.list.ends.now j) (code l.self.list.run.now l.self.list.ends.now l.k) ≡ false;
  starts : l.from ≡ start l.self.list.ends.now l.end-index;
}

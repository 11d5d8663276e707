-- `lists::edges::Checked::name_edges`. The invariant: the vertices of the first k codes are written. Assumes nothing.
use Rattle.std.proofs.Common.{get_or}
use Rattle.directory.specs.Codes.{code}
use Rattle.directory.specs.Kind.{HD, vertex}
use Rattle.lists.specs.Listed.{Named}
use Rattle.lists.proofs.edges.Checked.name_edges.Given as goal

abbrev pub invariant-loop-k : goal.invariant-loop-k
invariant-loop-k l = Named l.k l.self.naming.r (λ k j. vertex HD l.self.naming.v (λ i. get_or l.self.naming.weights.now i 0) (code l.list.run.now l.list.ends.now k) j) l.edges

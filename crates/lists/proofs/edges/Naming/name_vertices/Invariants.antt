-- `lists::edges::Naming::name_vertices`. The invariant: the first j vertices are written. Assumes nothing.
use Rattle.std.proofs.Common.{get_or}
use Rattle.directory.specs.Kind.{HD, vertex}
use Rattle.lists.specs.Naming.{Noted}
use Rattle.lists.proofs.edges.Naming.name_vertices.Given as goal

abbrev pub invariant-loop-j : goal.invariant-loop-j
invariant-loop-j l = Noted l.at l.j (vertex HD l.fn.self.v (λ i. get_or l.fn.self.weights.now i 0) l.fn.code.bytes.now) l.fn.edges l.edges

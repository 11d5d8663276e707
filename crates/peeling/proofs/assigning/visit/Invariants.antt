-- `peeling::assigning::visit`. The invariant: the vertices from number j on are seen. Assumes nothing.
use Rattle.peeling.proofs.VisitingSteps.{Seen}
use Rattle.peeling.proofs.assigning.visit.Given as goal

abbrev pub invariant-loop-j : goal.invariant-loop-j
invariant-loop-j l = Seen l.j l.edges.r l.e l.edges.list.now l.initial.visited l.values l.visited l.first l.total

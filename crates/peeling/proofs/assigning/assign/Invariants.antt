-- `peeling::assigning::assign`. The invariant: the edges of the removal list from number k on have their values. Assumes nothing.
use Rattle.std.proofs.Common.{drop, length}
use Rattle.graph.specs.Peeling.{removal_list}
use Rattle.removal.specs.Arrays.{graph_in}
use Rattle.peeling.proofs.AssigningSteps.{Back}
use Rattle.peeling.proofs.assigning.assign.Given as goal

abbrev pub invariant-loop-k : goal.invariant-loop-k
invariant-loop-k l =
    let n = length l.order in
    let m = length l.initial.visited in
    Back n l.edges.r m l.edges.list.now l.visited l.landed l.values (drop l.k (removal_list (graph_in n l.edges.r m l.edges.list.now)))

-- `removal::queue::first_queue`. The invariant: of the first e edges those with a vertex of degree 1 wait. Assumes nothing.
use Rattle.std.proofs.Common.{length}
use Rattle.removal.specs.Arrays.{graph_in}
use Rattle.removal.proofs.FirstQueueSteps.{Starting}
use Rattle.removal.proofs.queue.first_queue.Given as goal

abbrev pub invariant-loop-e : goal.invariant-loop-e
invariant-loop-e l = Starting (graph_in (length l.initial.order) l.edges.r (length l.degrees) l.edges.list.now) l.queued l.order l.e l.t

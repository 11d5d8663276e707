-- `removal::queue::remove_front`. The invariant: the first j vertices of the front edge are looked at. Assumes nothing.
use Rattle.std.proofs.Common.{length}
use Rattle.removal.proofs.PeelSteps.{Removing}
use Rattle.removal.proofs.queue.remove_front.Given as goal

abbrev pub invariant-loop-j : goal.invariant-loop-j
invariant-loop-j l =
    Removing (length l.initial.order) l.edges.r (length l.initial.degrees) l.edges.list.now l.initial.degrees l.initial.sums l.initial.order l.head l.tail l.degrees l.sums l.queued l.order l.t l.j

-- `removal::queue::peel`. The invariant: the arrays are at a moment of the run, and most is counted up to it. The measure is the number of edges not removed. Assumes nothing.
use Rattle.std.proofs.Common.{length, ◌-◌}
use Rattle.removal.proofs.RunSteps.{Running}
use Rattle.removal.proofs.queue.peel.Given as goal

abbrev pub invariant-loop-head : goal.invariant-loop-head
invariant-loop-head l =
    Running (length l.initial.order) l.edges.r (length l.initial.degrees) l.edges.list.now l.degrees l.sums l.queued l.order l.head l.t l.most

abbrev pub decreases-loop-head : goal.decreases-loop-head
decreases-loop-head l = length l.initial.order - l.head

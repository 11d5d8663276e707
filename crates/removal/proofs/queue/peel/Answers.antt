-- What `removal::queue::peel` owes beside its invariant: the run starts, goes on by a step, and ends. Assumes nothing.
use Rattle.std.proofs.Common.{arith}
use Rattle.removal.proofs.RunSteps.{larger-max, running_start, running_step, running_end}
use Rattle.removal.proofs.queue.peel.Goals as goal

pub loop-head-init : goal.loop-head-init
loop-head-init c = running_start c.requires

pub loop-head-preserved : goal.loop-head-preserved
loop-head-preserved c =
    let i = c.loop-head.invariant in
    let e = rw (i.going.ready.for_order, i.going.ready.wide.for_degrees) at c.remove_front-end.ensures in
    running_step i c.loop-head-test.true e.going e.stepped (omega (arith, larger-max))

pub returns : goal.returns
returns c = let i = c.loop-head.invariant in rw i.going.ready.for_order (running_end i c.loop-head-test.false)

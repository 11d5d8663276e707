-- What `removal::queue::first_queue` owes beside its invariant: an edge with a vertex of degree 1 joins, any other stays out.
use Rattle.std.proofs.Common.{arith, refl, sym, length, ◌<◌, ◌∙◌}
use Rattle.removal.proofs.FirstQueueSteps.{starting_none, starting_in, starting_out, starting_all, has_found}
use Rattle.removal.proofs.queue.first_queue.Goals as goal
use Rattle.removal.proofs.queue.first_queue.Goals.{then-is_some, else-is_some}

pub loop-e-init : goal.loop-e-init
loop-e-init c = starting_none _ _ _ c.requires.even refl

pub loop-e-preserved : goal.loop-e-preserved
loop-e-preserved c =
    let i = c.loop-e.invariant in
    let low : c.loop-e.e < length c.args.order.now = omega arith in
    let found = has_found c.requires.held c.args.degrees.now c.requires.counted low _ c.first_of_degree.ensures ∙ sym c.is_some.ensures in
    elim c.if-is_some.branch [
      | then-is_some w ↦ rw (w.queued-is, w.order-is, w.t-is) (starting_in i low (found ∙ w.if-is_some.true))
      | else-is_some w ↦ rw (w.queued-is, w.order-is, w.t-is) (starting_out i low (found ∙ w.if-is_some.false))
    ]

pub returns : goal.returns
returns c = starting_all c.loop-e.invariant (omega arith)

-- What `removal::remove_all` owes to the peeling: the tally and the first queue keep the lengths, and so the run can start.
use Rattle.std.proofs.Common.{◌∙◌}
use Rattle.removal.proofs.RunSteps.{starts_ready}
use Rattle.removal.proofs.remove_all.Goals as goal

pub peel-requires : goal.peel-requires
peel-requires c =
    let kept = c.tally.auto.degrees in
    let kept_order = c.first_queue-tail.auto.order in
    rw (kept, kept_order)
    (starts_ready c.requires.held
    (record { for_degrees = kept; for_sums = c.tally.auto.sums ∙ c.requires.even.0 })
    (c.first_queue-tail.auto.queued ∙ c.requires.even.1)
    kept_order
    c.tally.ensures
    (rw kept at c.first_queue-tail.ensures))

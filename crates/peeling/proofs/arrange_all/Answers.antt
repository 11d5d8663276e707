-- What `peeling::arrange_all` owes: where no edge is left over, all are removed, and the lines can be given. Assumes nothing.
use Rattle.std.proofs.Common.{arith, ◌∙◌, ◌≡◌}
use Rattle.peeling.proofs.ArrangingLaws.{removed_every}
use Rattle.peeling.proofs.arrange_all.Goals as goal

pub give_lines-requires-clause-removed : goal.give_lines-requires-clause-removed
give_lines-requires-clause-removed c =
    let kept_order = c.remove_all-counts.auto.order in
    let kept_degrees = c.remove_all-counts.auto.degrees in
    let p = c.requires.exact in
    let none : c.remove_all-counts.result.left ≡ 0 = omega arith in
    rw (kept_order, kept_degrees)
    (removed_every c.remove_all-counts.ensures kept_order none p.held
    (record { for_degrees = kept_degrees; for_sums = c.remove_all-counts.auto.sums ∙ p.for_sums })
    _ p.for_values)

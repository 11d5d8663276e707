-- What `peeling::give_lines` owes: once the values stand, the vertices can be ranked, and what is ranked are the lines. Assumes nothing.
use Rattle.std.proofs.Common.{length, ◌∙◌, ◌≡◌}
use Rattle.peeling.proofs.ArrangingLaws.{edges_placed, edges_lined}
use Rattle.peeling.proofs.give_lines.Goals as goal

pub rank_vertices-requires : goal.rank_vertices-requires
rank_vertices-requires c =
    let p = c.requires.removed in
    edges_placed p.held p.nothing c.assign.ensures (c.assign.auto.values ∙ p.for_values) (c.assign.auto.landed ∙ p.wide.for_sums) _ _ c.requires.even.0 c.requires.even.1

pub returns : goal.returns
returns c =
    let p = c.requires.removed in
    let for_values : length c.assign.new.values ≡ length c.args.degrees.now = c.assign.auto.values ∙ p.for_values in
    edges_lined p.held p.nothing c.assign.ensures _ _ (rw for_values at c.rank_vertices.ensures)

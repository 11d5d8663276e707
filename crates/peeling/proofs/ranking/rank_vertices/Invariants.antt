-- `peeling::ranking::rank_vertices`. The invariant: the count is that of the assigned vertices below x, and so far the rank entries and the keys stand. Assumes nothing.
use Rattle.std.proofs.Common.{get_or, ◌≡◌}
use Rattle.graph.specs.Assignment.{assigned_below}
use Rattle.peeling.specs.Ranking.{RankedTo}
use Rattle.peeling.proofs.ranking.rank_vertices.Given as goal

abbrev pub invariant-loop-x : goal.invariant-loop-x
invariant-loop-x l =
    (l.count ≡ assigned_below l.r (λ i. get_or l.values i 0) l.x)
    × RankedTo l.x l.r l.values l.landed l.rank l.keys

-- What `peeling::ranking::rank_vertices` owes beside its invariant: in each turn the rank entry where a block starts, and the edge where the vertex is assigned. Assumes nothing.
use Rattle.std.proofs.Common.{arith, get_or, length, refl, ◌+◌, ◌/◌, ◌<◌, ◌≢◌}
use Rattle.counting.specs.Below.{sum}
use Rattle.counting.specs.Holds.{Holds}
use Rattle.graph.specs.Assignment.{assigned_below, block_size, blocks, rank_entry}
use Rattle.peeling.proofs.RankingSteps.{counts_next, ranks_more, ranks_same, key-place, keys_next}
use Rattle.peeling.proofs.ranking.rank_vertices.Goals as goal
use Rattle.peeling.proofs.ranking.rank_vertices.Goals.{In-loop-x, Joined-x-eq0, then-x-eq0, else-x-eq0}

-- once the rank entry stands, where a block starts
ranked : (c : Joined-x-eq0) → Holds (blocks (c.loop-x.x + 1)) (rank_entry c.args.r (λ i. get_or c.args.values.now i 0)) c.if-x-eq0.rank
ranked c =
    let i = c.loop-x.invariant in
    let R = c.loop-x.rank in
    let block : c.loop-x.x / block_size < length R = omega (arith, c.requires.for_rank) in
    elim c.if-x-eq0.branch [
      | then-x-eq0 w ↦ rw w.rank-is (ranks_more _ _ c.loop-x.x R i.1.of_rank i.0 w.if-x-eq0.true block)
      | else-x-eq0 w ↦ rw w.rank-is (ranks_same _ _ c.loop-x.x R i.1.of_rank w.if-x-eq0.false)
    ]

pub loop-x-init : goal.loop-x-init
unfolding assigned_below sum
loop-x-init c = (refl, record { of_rank = λ b l. absurd (omega arith); of_keys = λ x l d. absurd (omega arith) })

pub loop-x-preserved : goal.loop-x-preserved
loop-x-preserved c =
    let ranks = ranked (goal.at.loop-x-preserved c).Joined-x-eq0 in
    let i = c.loop-x.invariant in (
      counts_next c.args.r (λ w. get_or c.args.values.now w 0) c.loop-x.x i.0 (λ d. grind arith) (λ e. grind arith),
      record { of_rank = ranks; of_keys = keys_next c.requires c.loop-x-test.true c.loop-x.keys c.loop-x.auto.keys i.1.of_keys i.0 (λ d. grind arith) (λ e. grind arith) },
    )

pub bounds-keys-count : goal.bounds-keys-count
bounds-keys-count c =
    let d : get_or c.args.values.now c.loop-x.x 0 ≢ c.args.r = omega arith in
    omega (arith, key-place c.requires c.loop-x-test.true d)

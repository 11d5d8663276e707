-- What `peeling::assigning::visit` owes beside its invariant: in each turn one more vertex of the edge is seen. Assumes nothing.
use Rattle.std.proofs.Common.{arith, ◌-◌, ◌+◌, ◌≡◌}
use Rattle.peeling.proofs.VisitingSteps.{Seen, seen_next, seen_all, total_fits, square_small}
use Rattle.peeling.proofs.assigning.visit.Goals as goal
use Rattle.peeling.proofs.assigning.visit.Goals.{In-loop-j}

-- in a turn the vertices from the next one on are seen
seen : (c : In-loop-j) → let a = c.args in let v = c.loop-j in Seen (v.j - 1 + 1) a.edges.r a.e a.edges.list.now a.visited.now a.values.now v.visited v.first v.total
seen c = let i : c.loop-j.j - 1 + 1 ≡ c.loop-j.j = omega (arith, c.loop-j-test.true) in rw i c.loop-j.invariant

pub loop-j-preserved : goal.loop-j-preserved
loop-j-preserved c = seen_next (c.loop-j.j - 1) c.requires (seen (goal.at.loop-j-preserved c).In-loop-j) c.vertex-x.ensures (λ z. grind arith) (λ d. grind arith)

pub overflow_add-total : goal.overflow_add-total
overflow_add-total c =
    omega (arith, total_fits (c.loop-j.j - 1) c.requires (seen (goal.at.overflow_add-total c).In-loop-j) c.vertex-x.ensures, square_small c.args.edges.r c.requires.small_arity)

pub returns : goal.returns
returns c = let z : c.loop-j.j ≡ 0 = omega arith in seen_all (rw z at c.loop-j.invariant)

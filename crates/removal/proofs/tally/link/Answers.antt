-- `removal::tally::link` meets its contract: each turn counts one vertex of the edge more. Assumes nothing.
use Rattle.std.proofs.Common.{arith}
use Rattle.removal.proofs.LinkingSteps.{added_none, LinkTurn, link_turn}
use Rattle.removal.proofs.tally.link.Goals as goal
use Rattle.removal.proofs.tally.link.Goals.{After-vertex-x}

turn : (c : After-vertex-x) → let a = c.args in let v = c.loop-j in LinkTurn a.edges.r a.e a.edges.list.now v.j c.vertex-x.result a.degrees.now a.sums.now v.degrees v.sums
turn c = let v = c.loop-j in link_turn c.requires v.invariant c.loop-j-test.true v.auto.degrees v.auto.sums c.vertex-x.ensures

pub loop-j-init : goal.loop-j-init
loop-j-init c = added_none _ _ _ _ _

pub loop-j-preserved : goal.loop-j-preserved
loop-j-preserved c = (turn (goal.at.loop-j-preserved c).After-vertex-x).added

pub overflow_add-degrees : goal.overflow_add-degrees
overflow_add-degrees c = omega (arith, (turn (goal.at.overflow_add-degrees c).After-vertex-x).degree_fits)

pub overflow_add-sums : goal.overflow_add-sums
overflow_add-sums c = omega (arith, (turn (goal.at.overflow_add-sums c).After-vertex-x).sum_fits)

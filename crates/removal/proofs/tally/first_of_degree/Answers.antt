-- `removal::tally::first_of_degree` meets its contract: the first vertex that has the degree, or else their number, is the lowest. Assumes nothing.
use Rattle.std.proofs.Common.{arith, eq-eqb, sym}
use Rattle.counting.proofs.SearchLaws.{lowest_at, lowest_past}
use Rattle.removal.proofs.tally.first_of_degree.Goals as goal

pub returns-then-degrees-x : goal.returns-then-degrees-x
returns-then-degrees-x c = (omega arith, lowest_at c.loop-j.invariant (omega arith) (eq-eqb _ _ (rw c.vertex-x.ensures at c.if-degrees-x.true)))

pub returns : goal.returns
returns c = sym (lowest_past c.loop-j.invariant (omega arith))

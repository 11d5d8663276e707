-- `removal::tally::tally`. The invariant: the first e edges are on their vertices. Assumes nothing.
use Rattle.std.proofs.Common.{length, ltb}
use Rattle.removal.specs.Arrays.{Tallied, graph_in}
use Rattle.removal.proofs.tally.tally.Given as goal

abbrev pub invariant-loop-e : goal.invariant-loop-e
invariant-loop-e l = Tallied (graph_in l.n l.edges.r (length l.initial.degrees) l.edges.list.now) (λ i. ltb i l.e) l.degrees l.sums

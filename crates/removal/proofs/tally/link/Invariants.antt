-- `removal::tally::link`. The invariant: the first j vertices of the edge are counted. Assumes nothing.
use Rattle.removal.specs.Linking.{Added}
use Rattle.removal.proofs.tally.link.Given as goal

abbrev pub invariant-loop-j : goal.invariant-loop-j
invariant-loop-j l = Added l.edges.r l.e l.edges.list.now l.j l.initial.degrees l.initial.sums l.degrees l.sums

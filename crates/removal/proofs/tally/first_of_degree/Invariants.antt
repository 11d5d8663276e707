-- `removal::tally::first_of_degree`. The invariant: none of the first j vertices has the degree. Assumes nothing.
use Rattle.std.proofs.Common.{eqb, false, get_or, ℕ, ◌<◌, ◌≡◌}
use Rattle.removal.specs.Arrays.{vertex_at}
use Rattle.removal.proofs.tally.first_of_degree.Given as goal

abbrev pub invariant-loop-j : goal.invariant-loop-j
invariant-loop-j l = (i : ℕ) → i < l.j → eqb (get_or l.degrees (vertex_at l.edges.r l.edges.list.now l.e i) 0) l.degree ≡ false

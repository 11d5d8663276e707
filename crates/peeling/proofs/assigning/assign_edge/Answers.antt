-- What `peeling::assigning::assign_edge` owes: the vertex is the lowest unvisited one, and what it gets is the value with which the edge lands there. Assumes nothing.
use Rattle.std.proofs.Common.{ap, arith, ◌*◌, ◌≤◌, ◌≡◌, ◌∙◌}
use Rattle.graph.specs.Assignment.{minus_mod}
use Rattle.graph.proofs.AssignmentLaws.{minus_mod_square}
use Rattle.removal.specs.Arrays.{vertex_at}
use Rattle.peeling.specs.Assigning.{free_vertex}
use Rattle.peeling.proofs.VisitingSteps.{sum_square}
use Rattle.peeling.proofs.assigning.assign_edge.Goals as goal

pub overflow_sub-values : goal.overflow_sub-values
overflow_sub-values c = omega (arith, c.visit-seen.ensures.is_total, sum_square c.requires.visitable)

pub returns : goal.returns
returns c =
    let a = c.args in
    let seen = c.visit-seen.result in
    let e = c.visit-seen.ensures in
    let home : c.vertex-x.result ≡ free_vertex a.edges.r a.e a.edges.list.now a.visited.now = c.vertex-x.ensures ∙ ap (vertex_at a.edges.r a.edges.list.now a.e) e.is_first in
    let some : 1 ≤ a.edges.r = omega (arith, c.requires.some) in
    let most : seen.total ≤ a.edges.r * a.edges.r = omega (arith, e.is_total, sum_square c.requires.visitable) in
    let given = minus_mod_square a.edges.r seen.first seen.total some most ∙ ap (λ j. minus_mod a.edges.r j seen.total) e.is_first ∙ ap (minus_mod a.edges.r _) e.is_total in
    record { marks = e.marks; noted = rw home; given = rw (home, given) }

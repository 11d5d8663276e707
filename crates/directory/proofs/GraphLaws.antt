-- The graph of a code list is proper: each code names r vertices of the graph, which differ. Assumes nothing.
use Rattle.std.specs.Prelude.{◌≡◌, ◌≢◌, ◌≤◌}
use Rattle.std.proofs.Common.{⊎_elim}
use Rattle.counting.proofs.TestLaws.{eq?}
use Rattle.graph.specs.Graph.{Proper}
use Rattle.directory.specs.Kind.{Kind}
use Rattle.directory.proofs.KindLaws.{vertex-below, vertices_differ}
use Rattle.directory.specs.Building.{Lent, weight, code_of, graph}

pub graph_proper : (K : Kind) (I : Lent) → 1 ≤ I.r → 1 ≤ I.v → Proper (graph K I)
unfolding graph
graph_proper K I some part =
    record {
      some = some;
      inside = λ k j l m. vertex-below K I.v (weight K I) (code_of K I k) part I.r j m;
      apart = λ k i j l a b e. ⊎_elim (λ (s : i ≡ j). s) (λ (d : i ≢ j). absurd (vertices_differ K I.v (weight K I) (code_of K I k) part i j d e)) (eq? i j);
    }

-- The group of demand 3: a non-empty set of the edges in which every vertex that one of them names is named by at least two of them. Assumes nothing.
use Rattle.std.specs.Prelude.{◌≡◌, Bool, true, ℕ, ◌≤◌, ◌<◌}
use Rattle.graph.specs.Graph.{Graph, degree_in, size}

-- S is a set of edges, each in it or not; what it names is counted within itself
pub record Group (G : Graph) (S : ℕ → Bool) : Type 0 where
  pub not_empty : 1 ≤ size G S
  pub named_twice : (e j : ℕ) → e < G.edges → j < G.arity → S e ≡ true → 2 ≤ degree_in G S (G.vertex_of e j)

-- Two graphs that agree: as many edges and vertices, and each edge names the same in both. Assumes nothing.
use Rattle.std.specs.Prelude.{◌≡◌, ℕ, ◌<◌}
use Rattle.graph.specs.Graph.{Graph}

-- what vertex_of says past the edges, or past the arity, is free
pub record Agree (G H : Graph) : Type 0 where
  pub same_edges : G.edges ≡ H.edges
  pub same_arity : G.arity ≡ H.arity
  pub same_count : G.vertices ≡ H.vertices
  pub same_vertices : (e j : ℕ) → e < G.edges → j < G.arity → G.vertex_of e j ≡ H.vertex_of e j

-- The edges of one graph among those of another. Assumes nothing.
use Rattle.std.specs.Prelude.{◌≡◌, ℕ, ◌<◌}
use Rattle.graph.specs.Graph.{Graph}

-- the edges of G are, under `to`, among those of H
pub record Within (G H : Graph) (to : ℕ → ℕ) : Type 0 where
  pub same_arity : G.arity ≡ H.arity
  pub inside : (e : ℕ) → e < G.edges → to e < H.edges
  pub apart : (e f : ℕ) → e < G.edges → f < G.edges → to e ≡ to f → e ≡ f
  pub same_vertices : (e j : ℕ) → e < G.edges → j < G.arity → G.vertex_of e j ≡ H.vertex_of (to e) j

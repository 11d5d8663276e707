-- A graph: edges, each of which names as many vertices as the arity says. In the directory an edge is a code of the list. Assumes nothing.
use Rattle.std.specs.Prelude.{◌≡◌, Bool, ◌&&◌, ℕ, ◌≤◌, ◌<◌, eqb}
use Rattle.counting.specs.Below.{count, any}

pub record Graph : Type 0 where
  -- the edges are 0, 1, .. below this number, in list order
  pub edges : ℕ
  pub arity : ℕ
  -- the vertices are 0, 1, .. below this number
  pub vertices : ℕ
  -- vertex j of edge e, for j = 0, 1, .. below the arity
  pub vertex_of : ℕ → ℕ → ℕ

-- each edge names at least one vertex, each vertex that it names is one of the graph's, and they differ
pub record Proper (G : Graph) : Type 0 where
  pub some : 1 ≤ G.arity
  pub inside : (e j : ℕ) → e < G.edges → j < G.arity → G.vertex_of e j < G.vertices
  pub apart : (e j k : ℕ) → e < G.edges → j < G.arity → k < G.arity → G.vertex_of e j ≡ G.vertex_of e k → j ≡ k

module _ (G : Graph) where
  open G use {edges, arity, vertex_of}

  -- edge e names vertex x
  unfoldable pub names : ℕ → ℕ → Bool
  names e x = any arity (λ j. eqb (vertex_of e j) x)

  -- the number of edges of the set S that name vertex x
  unfoldable pub degree_in : (ℕ → Bool) → ℕ → ℕ
  degree_in S x = count edges (λ e. S e && names e x)

  -- the number of edges of the set S
  abbrev pub size : (ℕ → Bool) → ℕ
  size S = count edges S

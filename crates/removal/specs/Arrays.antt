-- What the lent arrays hold: the edges of a graph, and the degrees and index sums of a set of them. Assumes nothing.
use Rattle.std.specs.Prelude.{◌≡◌, Bool, ◌&&◌, List, ℕ, ◌+◌, ◌*◌, ◌≤◌, ◌<◌, length, get_or}
use Rattle.counting.specs.Below.{sum, bit}
use Rattle.counting.specs.Holds.{Holds}
use Rattle.counting.specs.Widths.{one_byte, two_bytes}
use Rattle.graph.specs.Graph.{Graph, Proper, names, degree_in}

-- vertex j of edge e stands at e * r + j
abbrev pub vertex_at : ℕ → List ℕ → ℕ → ℕ → ℕ
vertex_at r edges e j = get_or edges (e * r + j) 0

-- n edges of r vertices out of m
abbrev pub graph_in : ℕ → ℕ → ℕ → List ℕ → Graph
graph_in n r m edges = record { edges = n; arity = r; vertices = m; vertex_of = vertex_at r edges }

-- the array of edges holds a proper graph, whose numbers fit the other arrays
pub record Held (n r m : ℕ) (edges : List ℕ) : Type 0 where
  pub proper : Proper (graph_in n r m edges)
  pub long : n * r ≤ length edges
  pub few_edges : n < two_bytes
  pub few_vertices : m < two_bytes
  pub small_arity : r < one_byte

-- the vertices of edge e stand in the array of edges and are below w
pub record Vertices (r e : ℕ) (edges : List ℕ) (w : ℕ) : Type 0 where
  pub fits : e * r + r ≤ length edges
  pub below : (j : ℕ) → j < r → vertex_at r edges e j < w

-- ---- per vertex: the degree, and the sum of the indices of the edges on it

-- there is an entry for each of m vertices
pub record Wide (m : ℕ) (degrees sums : List ℕ) : Type 0 where
  pub for_degrees : length degrees ≡ m
  pub for_sums : length sums ≡ m

-- no edge is on any of them
pub record Untallied (m : ℕ) (degrees sums : List ℕ) : Type 0 where
  pub no_degrees : Holds m (λ x. 0) degrees
  pub no_sums : Holds m (λ x. 0) sums

-- the sum of the indices of the edges of the set S that name vertex x
unfoldable pub index_sum : Graph → (ℕ → Bool) → ℕ → ℕ
index_sum G S x = sum G.edges (λ e. bit (S e && names G e x) * e)

-- the arrays are those of the set S
pub record Tallied (G : Graph) (S : ℕ → Bool) (degrees sums : List ℕ) : Type 0 where
  pub of_degrees : Holds G.vertices (degree_in G S) degrees
  pub of_sums : Holds G.vertices (index_sum G S) sums

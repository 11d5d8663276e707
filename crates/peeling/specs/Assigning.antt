-- Assignment over the arrays: what an edge needs to get its value, and what the arrays have afterwards. Assumes nothing.
use Rattle.std.specs.Prelude.{◌≡◌, ◌≢◌, List, ℕ, ◌≤◌, ◌<◌, eqb, length, get_or, set}
use Rattle.counting.specs.Below.{sum, lowest}
use Rattle.graph.specs.Graph.{Graph}
use Rattle.graph.specs.Peeling.{removal_list, number_left}
use Rattle.graph.specs.Assignment.{minus_mod, values, landing_vertex}
use Rattle.counting.specs.Holds.{Holds}
use Rattle.counting.specs.Widths.{one_byte, two_bytes}
use Rattle.removal.specs.Arrays.{graph_in, vertex_at, Held, Vertices, Wide}

-- ---- the vertices of an edge, visited

-- the lowest j whose vertex is unvisited
abbrev pub free_of : ℕ → ℕ → List ℕ → List ℕ → ℕ
free_of r e edges visited = lowest r (λ j. eqb (get_or visited (vertex_at r edges e j) 0) 0)

-- the sum of the values of its vertices
abbrev pub value_sum : ℕ → ℕ → List ℕ → List ℕ → ℕ
value_sum r e edges values = sum r (λ j. get_or values (vertex_at r edges e j) 0)

-- the vertices of edge e differ, and none has a value above r
pub record Visitable (r e : ℕ) (edges visited values : List ℕ) : Type 0 where
  pub small_arity : r < one_byte
  pub in_visited : Vertices r e edges (length visited)
  pub in_values : Vertices r e edges (length values)
  pub apart : (i j : ℕ) → i < r → j < r → vertex_at r edges e i ≡ vertex_at r edges e j → i ≡ j
  pub most : (j : ℕ) → j < r → get_or values (vertex_at r edges e j) 0 ≤ r

-- its vertices from number j on are marked, and no other mark has changed
pub record VisitedFrom (j r e : ℕ) (edges visited visited' : List ℕ) : Type 0 where
  pub marked : (i : ℕ) → j ≤ i → i < r → get_or visited' (vertex_at r edges e i) 0 ≡ 1
  pub others : (x : ℕ) → ((i : ℕ) → j ≤ i → i < r → x ≢ vertex_at r edges e i) → get_or visited' x 0 ≡ get_or visited x 0

-- what is seen on the way: which was the first unvisited one, and the sum of the values
pub record Visited (r e : ℕ) (edges visited values visited' : List ℕ) (first total : ℕ) : Type 0 where
  pub is_first : first ≡ free_of r e edges visited
  pub is_total : total ≡ value_sum r e edges values
  pub marks : VisitedFrom 0 r e edges visited visited'

-- ---- an edge gets its value

-- edge e has an unvisited vertex
pub record Free (r e : ℕ) (edges visited landed values : List ℕ) : Type 0 where
  pub is_edge : e < two_bytes
  pub visitable : Visitable r e edges visited values
  pub in_landed : Vertices r e edges (length landed)
  pub some : free_of r e edges visited < r

-- the lowest such vertex
abbrev pub free_vertex : ℕ → ℕ → List ℕ → List ℕ → ℕ
free_vertex r e edges visited = vertex_at r edges e (free_of r e edges visited)

-- it gets its value, and the edge is noted there; then all its vertices are visited
pub record Given (r e : ℕ) (edges visited landed values visited' landed' values' : List ℕ) : Type 0 where
  pub marks : VisitedFrom 0 r e edges visited visited'
  pub noted : landed' ≡ set landed (free_vertex r e edges visited) e
  pub given : values' ≡ set values (free_vertex r e edges visited) (minus_mod r (free_of r e edges visited) (value_sum r e edges values))

-- ---- all edges

-- after a peeling that left nothing over: no vertex is visited
pub record AllRemoved (n r m : ℕ) (edges order visited landed values : List ℕ) : Type 0 where
  pub held : Held n r m edges
  pub wide : Wide m visited landed
  pub for_values : length values ≡ m
  pub nothing : number_left (graph_in n r m edges) ≡ 0
  pub list : order ≡ removal_list (graph_in n r m edges)
  pub unvisited : Holds m (λ x. 0) visited

-- the values, and each edge noted where it lands
pub record Assigned (G : Graph) (landed values' : List ℕ) : Type 0 where
  pub of_values : Holds G.vertices (values G) values'
  pub of_landed : (e : ℕ) → e < G.edges → get_or landed (landing_vertex G e) 0 ≡ e

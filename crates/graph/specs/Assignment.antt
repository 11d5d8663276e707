-- The values of the vertices, the landing vertex, the line and the rank entries: document 01, "Assignment and rank". Assumes nothing.
use Rattle.std.specs.Prelude.{Bool, false, not, ◌||◌, cond, List, [], ◌∷◌, ℕ, ◌+◌, ◌-◌, ◌*◌, ◌/◌, ◌%◌, eqb}
use Rattle.counting.specs.Below.{sum, count, lowest}
use Rattle.graph.specs.Graph.{Graph, names}
use Rattle.graph.specs.Peeling.{removal_list}

-- ---- of any values: value x is that of vertex x

-- the value r means unassigned
abbrev pub unassigned : ℕ → ℕ
unassigned r = r

abbrev pub assigned : ℕ → ℕ → Bool
assigned r value = not (eqb value (unassigned r))

-- the landing vertex of an edge whose vertices are vertex 0, vertex 1, ..: its vertex number (sum of its r values) mod r
unfoldable pub landing : ℕ → (ℕ → ℕ) → (ℕ → ℕ) → ℕ
landing r value vertex = vertex (sum r (λ j. value (vertex j)) % r)

-- the number of assigned vertices below vertex y
unfoldable pub assigned_below : ℕ → (ℕ → ℕ) → ℕ → ℕ
assigned_below r value y = count y (λ x. assigned r (value x))

-- a rank entry stands for each block of 64 vertices
abbrev pub block_size : ℕ
block_size = 64

-- so m vertices have ceil(m/64)
abbrev pub blocks : ℕ → ℕ
blocks m = (m + (block_size - 1)) / block_size

unfoldable pub rank_entry : ℕ → (ℕ → ℕ) → ℕ → ℕ
rank_entry r value b = assigned_below r value (block_size * b)

-- ---- the values that the removal list gives

-- (a - b) mod r
unfoldable pub minus_mod : ℕ → ℕ → ℕ → ℕ
minus_mod r a b = (a + (r - b % r)) % r

-- the value of each vertex, and whether it is visited
pub record Table : Type 0 where
  pub value : ℕ → ℕ
  pub visited : ℕ → Bool

module _ (G : Graph) where
  open G use {edges, arity, vertex_of}

  -- all vertices start unvisited, with the value r
  unfoldable pub fresh : Table
  fresh = record { value = λ x. unassigned arity; visited = λ x. false }

  -- j0, the smallest j whose vertex is unvisited
  unfoldable pub first_unvisited : Table → ℕ → ℕ
  first_unvisited T e = lowest arity (λ j. not (T.visited (vertex_of e j)))

  -- the sum of the values of its visited vertices, the value r counted as r
  unfoldable pub visited_sum : Table → ℕ → ℕ
  visited_sum T e = sum arity (λ j. cond (T.visited (vertex_of e j)) (T.value (vertex_of e j)) 0)

  -- vertex j0 gets (j0 - sum) mod r; then all its vertices are visited
  unfoldable pub assign_edge : ℕ → Table → Table
  assign_edge e T =
      let j0 = first_unvisited T e in
      let given = minus_mod arity j0 (visited_sum T e) in
      record {
        value = λ x. cond (eqb x (vertex_of e j0)) given (T.value x);
        visited = λ x. T.visited x || names G e x;
      }

  -- from the end of the removal list to its start
  unfoldable pub assign : List ℕ → Table
  assign [] = fresh
  assign (e ∷ later) = assign_edge e (assign later)

  unfoldable pub values : ℕ → ℕ
  values = (assign (removal_list G)).value

  unfoldable pub landing_vertex : ℕ → ℕ
  landing_vertex e = landing arity values (vertex_of e)

  -- the line of an edge is the number of assigned vertices below its landing vertex
  unfoldable pub line : ℕ → ℕ
  line e = assigned_below arity values (landing_vertex e)

  -- the edge of line l
  unfoldable pub edge_of_line : ℕ → ℕ
  edge_of_line l = lowest edges (λ e. eqb (line e) l)

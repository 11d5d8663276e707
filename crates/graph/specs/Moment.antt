-- What holds at each moment of the peeling. Assumes nothing.
use Rattle.std.specs.Prelude.{◌≡◌, true, List, ℕ, ◌+◌, ◌≤◌, ◌<◌}
use Rattle.counting.specs.Lists.{occurrences}
use Rattle.graph.specs.Graph.{Graph, names}
use Rattle.graph.specs.Peeling.{degree}

module _ (G : Graph) where
  open G use {edges, arity, vertex_of}

  -- the one edge left on a vertex of degree 1 is one, is unremoved and names the vertex
  pub record Single (removed : List ℕ) (x e : ℕ) : Type 0 where
    pub is_edge : e < edges
    pub absent : occurrences e removed ≡ 0
    pub named : names G e x ≡ true

  -- no edge stands in the two lists twice; what stands in them are edges; each that waits has a vertex that no other unremoved edge names
  pub record Sound (removed waiting : List ℕ) : Type 0 where
    pub once : (e : ℕ) → occurrences e removed + occurrences e waiting ≤ 1
    pub is_edge : (e : ℕ) → 1 ≤ occurrences e removed + occurrences e waiting → e < edges
    pub alone : (e : ℕ) → 1 ≤ occurrences e waiting → (j : ℕ) × (j < arity) × (degree G removed (vertex_of e j) ≤ 1)

  -- each unremoved edge that has a vertex of degree 1 waits
  abbrev pub Complete : List ℕ → List ℕ → Type 0
  Complete removed waiting = (e j : ℕ) → e < edges → j < arity → occurrences e removed ≡ 0 → degree G removed (vertex_of e j) ≡ 1 → 1 ≤ occurrences e waiting

  -- both
  pub record Peeled (removed waiting : List ℕ) : Type 0 where
    pub sound : Sound removed waiting
    pub complete : Complete removed waiting

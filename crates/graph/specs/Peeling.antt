-- Peeling: document 01, "Peeling". Assumes nothing.
use Rattle.std.specs.Prelude.{Bool, ◌&&◌, cond, List, [], ◌∷◌, ◌++◌, ℕ, zero, suc, eqb}
use Rattle.counting.specs.Below.{any, lowest, those}
use Rattle.counting.specs.Lists.{occurrences}
use Rattle.graph.specs.Graph.{Graph, names, degree_in, size}

-- the edges that are not on the list of the removed ones
unfoldable pub unremoved : List ℕ → ℕ → Bool
unremoved removed e = eqb (occurrences e removed) 0

-- edge e joins the back of the queue, unless it is already waiting
unfoldable pub join_back : ℕ → List ℕ → List ℕ
join_back e waiting = cond (eqb (occurrences e waiting) 0) (waiting ++ e ∷ []) waiting

module _ (G : Graph) where
  open G use {edges, arity, vertex_of}

  -- the degree of a vertex is the number of unremoved edges that name it
  abbrev pub degree : List ℕ → ℕ → ℕ
  degree removed x = degree_in G (unremoved removed) x

  -- the one edge left on a vertex of degree 1
  unfoldable pub one_left : List ℕ → ℕ → ℕ
  one_left removed x = lowest edges (λ e. unremoved removed e && names G e x)

  -- the waiting queue starts with every edge, in list order, that has at least one vertex of degree 1
  unfoldable pub first_waiting : List ℕ
  first_waiting = those edges (λ e. any arity (λ j. eqb (degree [] (vertex_of e j)) 1))

  -- if vertex x now has degree 1, the one edge left on it joins the queue
  unfoldable pub follow : List ℕ → ℕ → List ℕ → List ℕ
  follow removed x waiting = cond (eqb (degree removed x) 1) (join_back (one_left removed x) waiting) waiting

  -- so for the first k vertices of edge e, in the order j = 0, 1, ..
  unfoldable pub follow_all : List ℕ → ℕ → ℕ → List ℕ → List ℕ
  follow_all removed e zero waiting = waiting
  follow_all removed e (suc j) waiting = follow removed (vertex_of e j) (follow_all removed e j waiting)

  -- a step takes the front edge, removes it, appends it to the removal list and goes through its vertices; the end comes when the queue is empty. At most k steps
  unfoldable pub peel : ℕ → List ℕ → List ℕ → List ℕ
  peel zero removed waiting = removed
  peel (suc k) removed [] = removed
  peel (suc k) removed (front ∷ waiting) =
      let removed' = removed ++ front ∷ [] in
      peel k removed' (follow_all removed' front arity waiting)

  -- the removal list: each step removes an edge, so there are no more steps than edges
  unfoldable pub removal_list : List ℕ
  removal_list = peel edges [] first_waiting

  -- the edges left over, and their number
  unfoldable pub left_over : ℕ → Bool
  left_over = unremoved removal_list

  unfoldable pub number_left : ℕ
  number_left = size G left_over

-- A few worked graphs that pin what peeling and assignment mean: one list, one theorem, computed. Assumes nothing.
use Rattle.std.specs.Prelude.{◌≡◌, refl, Bool, true, false, ◌&&◌, List, [], ◌∷◌, map, ℕ, eqb, length, get_or}
use Rattle.counting.specs.Below.{sum, any, lowest, those}
use Rattle.counting.specs.Larger.{larger}
use Rattle.counting.specs.Lists.{occurrences, same, every}
use Rattle.graph.specs.Graph.{Graph, names, degree_in}
use Rattle.graph.specs.Peeling.{unremoved, join_back, one_left, first_waiting, follow, follow_all, peel, removal_list, left_over, number_left}
use Rattle.graph.specs.Waiting.{most_from, most_waiting}
use Rattle.graph.specs.Assignment.{landing, assigned_below, minus_mod, fresh, first_unvisited, visited_sum, assign_edge, assign, values, landing_vertex, line, edge_of_line}

pub record Example : Type 0 where
  pub arity : ℕ
  pub vertices : ℕ
  -- the vertices of each edge, in list order
  pub edges : List (List ℕ)
  -- what must come out
  pub removed : List ℕ
  pub left : ℕ
  -- the most that wait at once
  pub most : ℕ
  -- the value of each vertex and the line of each edge; not asked where edges are left over
  pub values : List ℕ
  pub lines : List ℕ

graph : Example → Graph
graph x = record { edges = length x.edges; arity = x.arity; vertices = x.vertices; vertex_of = λ e j. get_or (get_or x.edges e []) j 0 }

all : ℕ → List ℕ
all k = those k (λ i. true)

as_far : Bool → List ℕ → List ℕ
as_far true l = l
as_far false l = []

pub holds : Example → Bool
holds x =
    let G = graph x in
    let acyclic = eqb (number_left G) 0 in
    same (removal_list G) x.removed
    && eqb (number_left G) x.left
    && eqb (most_waiting G) x.most
    && same (as_far acyclic (map (values G) (all x.vertices))) x.values
    && same (as_far acyclic (map (line G) (all (length x.edges)))) x.lines
    && same (as_far acyclic (map (λ e. edge_of_line G (line G e)) (all (length x.edges)))) (as_far acyclic (all (length x.edges)))

pub examples : List Example
examples =
    -- the months of document 003, which is document 01's case 1; three wait at the start, then two at most
    record {
      arity = 2;
      vertices = 8;
      edges = (2 ∷ 5 ∷ []) ∷ (2 ∷ 6 ∷ []) ∷ (0 ∷ 5 ∷ []) ∷ (2 ∷ 7 ∷ []) ∷ [];
      removed = 1 ∷ 2 ∷ 3 ∷ 0 ∷ [];
      left = 0;
      most = 3;
      values = 0 ∷ 2 ∷ 0 ∷ 2 ∷ 2 ∷ 2 ∷ 1 ∷ 1 ∷ [];
      lines = 1 ∷ 2 ∷ 0 ∷ 3 ∷ [];
    }
    -- edge 4 lets 3 join by its vertex j = 1 and then 1 by j = 2; with 0 that makes three, where two wait at the start
    ∷ record {
      arity = 3;
      vertices = 15;
      edges = (2 ∷ 5 ∷ 10 ∷ []) ∷ (1 ∷ 5 ∷ 14 ∷ []) ∷ (2 ∷ 7 ∷ 13 ∷ []) ∷ (1 ∷ 8 ∷ 10 ∷ []) ∷ (0 ∷ 8 ∷ 14 ∷ []) ∷ [];
      removed = 2 ∷ 4 ∷ 0 ∷ 3 ∷ 1 ∷ [];
      left = 0;
      most = 3;
      values = 2 ∷ 0 ∷ 0 ∷ 3 ∷ 3 ∷ 3 ∷ 3 ∷ 1 ∷ 1 ∷ 3 ∷ 3 ∷ 3 ∷ 3 ∷ 3 ∷ 3 ∷ [];
      lines = 2 ∷ 1 ∷ 3 ∷ 4 ∷ 0 ∷ [];
    }
    -- edge 0 lets 1 join by two of its vertices, and 2 lets 3 join by two: each waits once
    ∷ record {
      arity = 3;
      vertices = 12;
      edges = (0 ∷ 4 ∷ 8 ∷ []) ∷ (1 ∷ 4 ∷ 8 ∷ []) ∷ (2 ∷ 5 ∷ 9 ∷ []) ∷ (1 ∷ 5 ∷ 9 ∷ []) ∷ [];
      removed = 0 ∷ 2 ∷ 1 ∷ 3 ∷ [];
      left = 0;
      most = 2;
      values = 2 ∷ 0 ∷ 0 ∷ 3 ∷ 1 ∷ 3 ∷ 3 ∷ 3 ∷ 3 ∷ 3 ∷ 3 ∷ 3 ∷ [];
      lines = 0 ∷ 3 ∷ 2 ∷ 1 ∷ [];
    }
    -- four edges in a circle, and one that hangs on it
    ∷ record {
      arity = 2;
      vertices = 8;
      edges = (2 ∷ 5 ∷ []) ∷ (2 ∷ 6 ∷ []) ∷ (0 ∷ 5 ∷ []) ∷ (0 ∷ 6 ∷ []) ∷ (2 ∷ 7 ∷ []) ∷ [];
      removed = 4 ∷ [];
      left = 4;
      most = 1;
      values = [];
      lines = [];
    }
    ∷ []

pub examples_hold : every holds examples ≡ true
unfolding graph all as_far holds examples every sum any lowest those occurrences same names degree_in unremoved join_back one_left first_waiting follow follow_all peel removal_list left_over number_left larger most_from most_waiting landing assigned_below minus_mod fresh first_unvisited visited_sum assign_edge assign values landing_vertex line edge_of_line
examples_hold = refl

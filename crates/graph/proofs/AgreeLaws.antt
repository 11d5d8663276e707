-- A graph is what its edges name: peeling, values and lines depend on nothing else, so graphs that agree have the same. Assumes nothing.
use Rattle.std.specs.Prelude.{◌≡◌, ◌≢◌, Bool, ◌&&◌, ◌||◌, List, [], ◌∷◌, ◌++◌, length}
use Rattle.std.proofs.Math.Path.{refl, sym, ap, fun_ext}
use Rattle.std.proofs.Common.{◌∙◌, arith, eq-eqb}
use Rattle.std.proofs.Math.Logic.{⊎_elim}
use Rattle.std.proofs.Math.Bool.{not, cond}
use Prim.Native.Nat.{ℕ, zero, suc, ◌≤◌, ◌<◌}
use Rattle.std.proofs.Math.Dec.{eqb}
use Rattle.counting.proofs.TestLaws.{eq?}
use Rattle.counting.specs.Larger.{larger}
use Rattle.counting.specs.Below.{bit, count, lowest}
use Rattle.counting.proofs.BelowLaws.{sum_equal, sum-zero}
use Rattle.counting.proofs.SearchLaws.{any_equal, lowest_equal}
use Rattle.counting.proofs.OccurrenceLaws.{those_equal}
use Rattle.graph.specs.Graph.{Graph, Proper, names, degree_in}
use Rattle.graph.specs.Peeling.{unremoved, one_left, first_waiting, follow, follow_all, peel, removal_list, left_over, number_left}
use Rattle.graph.specs.Run.{Reached, start, step}
use Rattle.graph.specs.Waiting.{most_from, most_waiting}
use Rattle.graph.specs.Assignment.{landing, assigned_below, rank_entry, minus_mod, Table, first_unvisited, visited_sum, assign_edge, fresh, assign, values, landing_vertex, line, edge_of_line}
use Rattle.graph.specs.Agree.{Agree}
use Rattle.graph.proofs.PeelingLaws.{front_edge, reached_peeled}
use Rattle.graph.proofs.OrderLaws.{Ordered, none, more, removal_ordered}
use Rattle.graph.proofs.AssignmentLaws.{new_place, values_most}
use Rattle.graph.proofs.RankLaws.{landing_equal}

-- as many edges and vertices as G has, and the edges name what g says
abbrev renamed : Graph → (ℕ → ℕ → ℕ) → Graph
renamed G g = record { edges = G.edges; arity = G.arity; vertices = G.vertices; vertex_of = g }

-- ---- where g says the same of every edge, all stays

module _ (G : Graph) (g : ℕ → ℕ → ℕ) (same : (e j : ℕ) → e < G.edges → j < G.arity → G.vertex_of e j ≡ g e j) where
  open G use {edges, arity, vertex_of}

  names_same : (e x : ℕ) → e < edges → names G e x ≡ names (renamed G g) e x
  unfolding names
  names_same e x l = any_equal arity _ _ (λ j m. ap (λ y. eqb y x) (same e j l m))

  degree-same : (S : ℕ → Bool) (x : ℕ) → degree_in G S x ≡ degree_in (renamed G g) S x
  unfolding degree_in
  degree-same S x = sum_equal edges _ _ (λ e l. ap (λ b. bit (S e && b)) (names_same e x l))

  one-left-same : (removed : List ℕ) (x : ℕ) → one_left G removed x ≡ one_left (renamed G g) removed x
  unfolding one_left
  one-left-same removed x = lowest_equal edges _ _ (λ e l. ap (λ b. unremoved removed e && b) (names_same e x l))

  -- ---- the peeling

  first_waiting-same : first_waiting G ≡ first_waiting (renamed G g)
  unfolding first_waiting
  first_waiting-same = those_equal edges _ _ (λ e l. any_equal arity _ _ (λ j m. ap (λ d. eqb d 1) (degree-same (unremoved []) (vertex_of e j) ∙ ap (degree_in (renamed G g) (unremoved [])) (same e j l m))))

  follow-same : (removed : List ℕ) (x : ℕ) (waiting : List ℕ) → follow G removed x waiting ≡ follow (renamed G g) removed x waiting
  unfolding follow
  follow-same removed x waiting = rw (degree-same (unremoved removed) x, one-left-same removed x)

  -- of an edge, and no further than its vertices go
  follow_all-same : (removed : List ℕ) (e k : ℕ) (waiting : List ℕ) → e < edges → k ≤ arity → follow_all G removed e k waiting ≡ follow_all (renamed G g) removed e k waiting
  unfolding follow_all
  follow_all-same removed e zero waiting l h = refl
  follow_all-same removed e (suc k) waiting l h = rw (follow_all-same removed e k waiting l (omega arith), same e k l (omega arith)) (follow-same removed (g e k) _)

  -- at each moment of the run the front is an edge
  front_same : {removed waiting : List ℕ} {front : ℕ} → Reached G removed (front ∷ waiting) → follow_all G (removed ++ front ∷ []) front arity waiting ≡ follow_all (renamed G g) (removed ++ front ∷ []) front arity waiting
  front_same {waiting = waiting} {front} r = follow_all-same _ front arity waiting (front_edge G (reached_peeled G r).sound) (omega arith)

  peel-same : (k : ℕ) {removed waiting : List ℕ} → Reached G removed waiting → peel G k removed waiting ≡ peel (renamed G g) k removed waiting
  unfolding peel
  peel-same zero r = refl
  peel-same (suc k) {waiting = []} r = refl
  peel-same (suc k) {removed} {waiting = (front ∷ waiting)} r = peel-same k (step r) ∙ ap (peel (renamed G g) k (removed ++ front ∷ [])) (front_same r)

  removal_same : removal_list G ≡ removal_list (renamed G g)
  unfolding removal_list
  removal_same = peel-same edges start ∙ ap (peel (renamed G g) edges []) first_waiting-same

  most_from-same : (k : ℕ) {removed waiting : List ℕ} → Reached G removed waiting → most_from G k removed waiting ≡ most_from (renamed G g) k removed waiting
  unfolding most_from
  most_from-same zero r = refl
  most_from-same (suc k) {waiting = []} r = refl
  most_from-same (suc k) {removed} {waiting = (front ∷ waiting)} r = ap (larger (length (front ∷ waiting))) (most_from-same k (step r) ∙ ap (most_from (renamed G g) k (removed ++ front ∷ [])) (front_same r))

  most_same : most_waiting G ≡ most_waiting (renamed G g)
  unfolding most_waiting
  most_same = most_from-same edges start ∙ ap (most_from (renamed G g) edges []) first_waiting-same

  -- ---- the assignment

  -- the vertex that gets a value is one that the edge names: there has to be an unvisited one
  assign_edge-same : (e : ℕ) (T : Table) → e < edges → first_unvisited G T e < arity → assign_edge G e T ≡ assign_edge (renamed G g) e T
  unfolding assign_edge first_unvisited visited_sum
  assign_edge-same e T l m = λ i. record { value = λ x. cond (eqb x (new i)) (minus_mod arity (place i) (known i)) (T.value x); visited = λ x. T.visited x || names_same e x l i }
    where
      place : first_unvisited G T e ≡ first_unvisited (renamed G g) T e
      place = lowest_equal arity _ _ (λ j k. ap (λ x. not (T.visited x)) (same e j l k))

      new : vertex_of e (first_unvisited G T e) ≡ g e (first_unvisited (renamed G g) T e)
      new = same e _ l m ∙ ap (g e) place

      known : visited_sum G T e ≡ visited_sum (renamed G g) T e
      known = sum_equal arity _ _ (λ j k. ap (λ x. cond (T.visited x) (T.value x) 0) (same e j l k))

  assign-same : {l : List ℕ} → Ordered G l → assign G l ≡ assign (renamed G g) l
  unfolding assign fresh
  assign-same none = refl
  assign-same (more {e} {later} w o) = assign_edge-same e (assign G later) w.is_edge (new_place G w) ∙ ap (assign_edge (renamed G g) e) (assign-same o)

  table_same : assign G (removal_list G) ≡ assign (renamed G g) (removal_list (renamed G g))
  table_same = assign-same (removal_ordered G) ∙ ap (assign (renamed G g)) removal_same

-- where edges name no vertices, no vertex is assigned
none_assigned : (G : Graph) → G.arity ≡ 0 → (y : ℕ) → assigned_below G.arity (values G) y ≡ 0
unfolding assigned_below
none_assigned G z y = sum-zero y _ (λ x l. ap (λ b. bit (not b)) (eq-eqb (values G x) G.arity (omega (arith, values_most G x))))

-- ---- two graphs that agree

module _ {G H : Graph} (a : Agree G H) where
  -- H is G, with the vertices named as H names them
  is_renamed : renamed G H.vertex_of ≡ H
  is_renamed = λ i. record { edges = a.same_edges i; arity = a.same_arity i; vertices = a.same_count i; vertex_of = H.vertex_of }

  -- the same edges are removed, in the same order
  pub agree_removal : removal_list G ≡ removal_list H
  agree_removal = removal_same G H.vertex_of a.same_vertices ∙ ap removal_list is_renamed

  -- so the same are left over, and as many
  pub agree_left : (e : ℕ) → left_over G e ≡ left_over H e
  unfolding left_over
  agree_left e = ap (λ l. unremoved l e) agree_removal

  pub agree_number : number_left G ≡ number_left H
  unfolding number_left
  agree_number = λ i. count (a.same_edges i) (fun_ext agree_left i)

  -- as many wait at once
  pub agree_most : most_waiting G ≡ most_waiting H
  agree_most = most_same G H.vertex_of a.same_vertices ∙ ap most_waiting is_renamed

  -- each vertex has the same value, also one past the vertices
  pub agree_values : (x : ℕ) → values G x ≡ values H x
  unfolding values
  agree_values x = ap (λ T. T.value x) (table_same G H.vertex_of a.same_vertices) ∙ ap (λ F. values F x) is_renamed

  -- an edge that names no vertex would land on what vertex_of says past the arity, so each has to name one
  pub agree_landing : 1 ≤ G.arity → (e : ℕ) → e < G.edges → landing_vertex G e ≡ landing_vertex H e
  unfolding landing_vertex
  agree_landing h e l =
      landing_equal G.arity (values G) (values H) (G.vertex_of e) (H.vertex_of e) h (λ j. a.same_vertices e j l) (λ j m. agree_values _)
      ∙ ap (λ r. landing r (values H) (H.vertex_of e)) a.same_arity

  -- but its line is the same even so
  pub agree_line : (e : ℕ) → e < G.edges → line G e ≡ line H e
  unfolding line
  agree_line e l =
      ⊎_elim
      (λ (z : G.arity ≡ 0). none_assigned G z _ ∙ sym (none_assigned H (sym a.same_arity ∙ z) _))
      (λ (d : G.arity ≢ 0). λ i. assigned_below (a.same_arity i) (fun_ext agree_values i) (agree_landing (omega arith) e l i))
      (eq? G.arity 0)

  -- each line has the same edge, also one past the lines
  pub agree_edge : (l : ℕ) → edge_of_line G l ≡ edge_of_line H l
  unfolding edge_of_line
  agree_edge l = lowest_equal G.edges _ _ (λ e m. ap (λ k. eqb k l) (agree_line e m)) ∙ ap (λ n. lowest n (λ e. eqb (line H e) l)) a.same_edges

  pub agree_rank : (b : ℕ) → rank_entry G.arity (values G) b ≡ rank_entry H.arity (values H) b
  agree_rank b = λ i. rank_entry (a.same_arity i) (fun_ext agree_values i) b

  pub agree_proper : Proper G → Proper H
  agree_proper ok =
      record {
        some = omega (arith, ok.some, a.same_arity);
        inside = λ e j l m. omega (arith, ok.inside e j (edge l) (place m), a.same_vertices e j (edge l) (place m), a.same_count);
        apart = λ e j k l m n i. ok.apart e j k (edge l) (place m) (place n) (a.same_vertices e j (edge l) (place m) ∙ i ∙ sym (a.same_vertices e k (edge l) (place n)));
      }
    where
      edge : {e : ℕ} → e < H.edges → e < G.edges
      edge l = omega (arith, a.same_edges)

      place : {j : ℕ} → j < H.arity → j < G.arity
      place m = omega (arith, a.same_arity)

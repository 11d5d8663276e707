-- What is proved of every graph, of any arity, for readers: each theorem under a line that says it, with the law that proves it. Assumes nothing.
use Rattle.std.specs.Prelude.{◌≡◌, ◌≢◌, ◌↔◌, Bool, true, false, List, ◌++◌, ℕ, ◌+◌, ◌≤◌, ◌<◌, length, drop}
use Rattle.counting.specs.Lists.{occurrences}
use Rattle.graph.specs.Graph.{Graph, Proper, size}
use Rattle.graph.specs.Group.{Group}
use Rattle.graph.specs.Peeling.{peel, removal_list, left_over, number_left}
use Rattle.graph.specs.Run.{Reached, ever_waiting}
use Rattle.graph.specs.Waiting.{most_waiting, SoManyWait}
use Rattle.graph.specs.Within.{Within}
use Rattle.graph.specs.Agree.{Agree}
use Rattle.graph.specs.Assignment.{assigned, assigned_below, assign, values, landing_vertex, line, edge_of_line}
use Rattle.graph.proofs.PeelingLaws.{reached_once, reached_room, reached_removal, ever_waiting_removed, ever_waiting_begins, ever_waiting_once, ever_waiting_most, left-and_removed}
use Rattle.graph.proofs.WaitingLaws.{most_bound, most_attained, most_edges}
use Rattle.graph.proofs.GroupLaws.{left_group, group_left, refused_exactly, largest_bound, largest_attained, twins_left}
use Rattle.graph.proofs.AssignmentLaws.{values_most, drop-unassigned}
use Rattle.graph.proofs.LandingLaws.{landing_inside, landing-assigned, landing_own, assigned_exactly, assigned-number}
use Rattle.graph.proofs.LineLaws.{line-below, line_own, line_onto, edge_line, line_edge}
use Rattle.graph.proofs.WithinLaws.{within_left, within_number, within_none, same_number, same_left}
use Rattle.graph.proofs.AgreeLaws.{agree_left, agree_number, agree_most, agree_values, agree_line, agree_edge}

module _ (G : Graph) where
  open G use {edges, arity, vertices, vertex_of}

  -- ---- groups and the number left

  -- where some edges are left over, they are a group
  pub left_over_is_a_group : 1 ≤ number_left G → Group G (left_over G)
  left_over_is_a_group = left_group G

  -- every edge of every group is left over
  pub every_group_is_left_over : (S : ℕ → Bool) → Group G S → (e : ℕ) → e < edges → S e ≡ true → left_over G e ≡ true
  every_group_is_left_over = group_left G

  -- some edges are left over exactly if there is a group
  pub refused_exactly_if_a_group_exists : (1 ≤ number_left G) ↔ ((S : ℕ → Bool) × Group G S)
  refused_exactly_if_a_group_exists = refused_exactly G

  -- no group has more edges than are left over
  pub no_group_is_larger : (S : ℕ → Bool) → Group G S → size G S ≤ number_left G
  no_group_is_larger = largest_bound G

  -- and some group has as many
  pub the_largest_is_attained : 1 ≤ number_left G → (S : ℕ → Bool) × Group G S × (size G S ≡ number_left G)
  the_largest_is_attained = largest_attained G

  -- two edges that name the same vertices are never both removed
  pub edges_with_the_same_vertices_leave_some_over : (e f : ℕ) → e ≢ f → e < edges → f < edges → ((j : ℕ) → j < arity → vertex_of e j ≡ vertex_of f j) → 1 ≤ number_left G
  edges_with_the_same_vertices_leave_some_over = twins_left G

  -- ---- the queue

  -- at each moment of the run an edge is removed once, or waits once, or neither
  pub no_edge_waits_twice : {removed waiting : List ℕ} → Reached G removed waiting → (e : ℕ) → occurrences e removed + occurrences e waiting ≤ 1
  no_edge_waits_twice = reached_once G

  -- the removed and the waiting together are never more than the edges
  pub removed_and_waiting_fit : {removed waiting : List ℕ} → Reached G removed waiting → length removed + length waiting ≤ edges
  removed_and_waiting_fit = reached_room G

  -- from each moment on, any number of steps that is enough for the edges not yet removed gives the removal list
  pub more_steps_change_nothing : {removed waiting : List ℕ} → Reached G removed waiting → (k : ℕ) → edges ≤ length removed + k → peel G k removed waiting ≡ removal_list G
  more_steps_change_nothing = reached_removal G

  -- the removal list is all that ever waited, in the order in which it joined the queue
  pub all_that_ever_waited_is_removed : ever_waiting G ≡ removal_list G
  all_that_ever_waited_is_removed = ever_waiting_removed G

  -- at each moment the removed and then the waiting are the beginning of all that ever waited
  pub what_waits_has_entered_the_queue : {removed waiting : List ℕ} → Reached G removed waiting → (later : List ℕ) × (ever_waiting G ≡ removed ++ waiting ++ later)
  what_waits_has_entered_the_queue = ever_waiting_begins G

  -- in the whole run no edge enters the queue twice
  pub no_edge_enters_the_queue_twice : (e : ℕ) → occurrences e (ever_waiting G) ≤ 1
  no_edge_enters_the_queue_twice = ever_waiting_once G

  -- and all that ever enter it are at most as many as there are edges
  pub a_place_for_each_edge_is_enough : length (ever_waiting G) ≤ edges
  a_place_for_each_edge_is_enough = ever_waiting_most G

  -- the most that wait at once, counted after the start and after each step: at no moment do more wait
  pub no_more_wait_at_once : {removed waiting : List ℕ} → Reached G removed waiting → length waiting ≤ most_waiting G
  no_more_wait_at_once = most_bound G

  -- at some moment so many do
  pub so_many_wait_at_once : SoManyWait G (most_waiting G)
  so_many_wait_at_once = most_attained G

  -- and they are at most as many as there are edges
  pub the_most_is_at_most_the_edges : most_waiting G ≤ edges
  the_most_is_at_most_the_edges = most_edges G

  -- the edges left over and those removed are together as many as there are
  pub left_over_and_removed_make_all : number_left G + length (removal_list G) ≡ edges
  left_over_and_removed_make_all = left-and_removed G

  -- ---- the values

  -- no value is above the arity, which means unassigned
  pub no_value_is_above_the_arity : (x : ℕ) → values G x ≤ arity
  no_value_is_above_the_arity = values_most G

  -- on the way from the end of the removal list to its start, what is unvisited is unassigned
  pub the_unvisited_are_unassigned : (k x : ℕ) → (assign G (drop k (removal_list G))).visited x ≡ false → (assign G (drop k (removal_list G))).value x ≡ arity
  the_unvisited_are_unassigned = drop-unassigned G

  -- ---- landing vertices and lines, where nothing is left over

  module _ (ok : Proper G) (nothing : number_left G ≡ 0) where
    -- each edge lands on a vertex of the graph that is assigned
    pub each_edge_lands_on_an_assigned_vertex : (e : ℕ) → e < edges → (landing_vertex G e < vertices) × (assigned arity (values G (landing_vertex G e)) ≡ true)
    each_edge_lands_on_an_assigned_vertex e l = (landing_inside G ok e l, landing-assigned G ok nothing e l)

    -- two edges that land on one vertex are one edge
    pub of_its_own : (e f : ℕ) → e < edges → f < edges → landing_vertex G e ≡ landing_vertex G f → e ≡ f
    of_its_own = landing_own G ok nothing

    -- a vertex is assigned exactly if some edge lands on it
    pub exactly_the_landing_vertices_are_assigned : (x : ℕ) → (assigned arity (values G x) ≡ true) ↔ ((e : ℕ) × (e < edges) × (landing_vertex G e ≡ x))
    exactly_the_landing_vertices_are_assigned = assigned_exactly G ok nothing

    -- as many vertices are assigned as there are edges
    pub as_many_as_edges : assigned_below arity (values G) vertices ≡ edges
    as_many_as_edges = assigned-number G ok nothing

    -- each edge has a line below the number of edges
    pub lines_are_below : (e : ℕ) → e < edges → line G e < edges
    lines_are_below = line-below G ok nothing

    -- two edges with one line are one edge
    pub different_edges_different_lines : (e f : ℕ) → e < edges → f < edges → line G e ≡ line G f → e ≡ f
    different_edges_different_lines = line_own G ok nothing

    -- each line below the number of edges is the line of some edge
    pub every_line_is_taken : (l : ℕ) → l < edges → (e : ℕ) × (e < edges) × (line G e ≡ l)
    every_line_is_taken = line_onto G ok nothing

    -- the edge of a line is an edge, and has that line
    pub the_edge_of_a_line_has_it : (l : ℕ) → l < edges → (edge_of_line G l < edges) × (line G (edge_of_line G l) ≡ l)
    the_edge_of_a_line_has_it = edge_line G ok nothing

    -- and each edge is that of its line
    pub each_edge_is_that_of_its_line : (e : ℕ) → e < edges → edge_of_line G (line G e) ≡ e
    each_edge_is_that_of_its_line = line_edge G ok nothing

-- ---- only the set of edges matters: here the edges of G are, under `to`, among those of H

module _ {G H : Graph} {to : ℕ → ℕ} (w : Within G H to) where
  -- an edge that is left over of fewer is left over of all
  pub left_of_fewer_is_left_of_all : (e : ℕ) → e < G.edges → left_over G e ≡ true → left_over H (to e) ≡ true
  left_of_fewer_is_left_of_all = within_left w

  -- so fewer edges leave fewer over
  pub fewer_edges_leave_fewer : number_left G ≤ number_left H
  fewer_edges_leave_fewer = within_number w

  -- and none where all leave none
  pub fewer_edges_leave_none : number_left H ≡ 0 → number_left G ≡ 0
  fewer_edges_leave_none = within_none w

  -- the same edges, in whatever order, leave as many over
  pub the_same_edges_leave_as_many : {from : ℕ → ℕ} → Within H G from → number_left G ≡ number_left H
  the_same_edges_leave_as_many = same_number w

  -- and the same ones
  pub the_same_edges_are_left : {from : ℕ → ℕ} → Within H G from → (e : ℕ) → e < G.edges → left_over G e ≡ left_over H (to e)
  the_same_edges_are_left = same_left w

-- ---- a graph is what its edges name: here each edge names the same vertices in G as in H, which may differ past the edges and past the arity

module _ {G H : Graph} (a : Agree G H) where
  -- the same edges are left over
  pub graphs_that_agree_leave_the_same : (e : ℕ) → left_over G e ≡ left_over H e
  graphs_that_agree_leave_the_same = agree_left a

  -- and as many
  pub graphs_that_agree_leave_as_many : number_left G ≡ number_left H
  graphs_that_agree_leave_as_many = agree_number a

  -- as many wait at once
  pub graphs_that_agree_let_as_many_wait : most_waiting G ≡ most_waiting H
  graphs_that_agree_let_as_many_wait = agree_most a

  -- each vertex has the same value
  pub graphs_that_agree_have_the_same_values : (x : ℕ) → values G x ≡ values H x
  graphs_that_agree_have_the_same_values = agree_values a

  -- each edge has the same line
  pub graphs_that_agree_have_the_same_lines : (e : ℕ) → e < G.edges → line G e ≡ line H e
  graphs_that_agree_have_the_same_lines = agree_line a

  -- and each line the same edge
  pub graphs_that_agree_have_the_same_edge_on_each_line : (l : ℕ) → edge_of_line G l ≡ edge_of_line H l
  graphs_that_agree_have_the_same_edge_on_each_line = agree_edge a

-- One turn of the assignment, over the arrays: from the edges after the first k to those after one less. Assumes nothing.
-- M, N and W stand for the arrays of marks, of edges noted and of values; a prime marks what has become of one.
use Rattle.std.specs.Prelude.{◌≡◌, ◌≢◌, Bool, List, [], ◌∷◌, ℕ, ◌+◌, ◌≤◌, ◌<◌, get_or, drop}
use Rattle.std.proofs.Math.Path.{refl, sym, ap}
use Rattle.std.proofs.Common.{◌∙◌, ⊎_elim, zero-le, add-one, arith, drop-cons, get_or-set_same}
use Rattle.std.proofs.Math.Bool.{true, false, not}
use Rattle.std.proofs.Math.Dec.{eqb}
use Rattle.std.proofs.Math.ListN.{length, length-set}
use Rattle.std.proofs.Math.Seq.{drop-length, get_or-set_other}
use Rattle.counting.proofs.TestLaws.{eq?, clash}
use Rattle.counting.specs.Below.{bit}
use Rattle.counting.proofs.BelowLaws.{sum_equal}
use Rattle.counting.proofs.SearchLaws.{lowest_equal}
use Rattle.counting.specs.Lists.{occurrences}
use Rattle.counting.proofs.OccurrenceLaws.{occurrences_front}
use Rattle.graph.specs.Graph.{Graph, names}
use Rattle.graph.specs.Peeling.{removal_list, number_left}
use Rattle.graph.specs.Assignment.{Table, minus_mod, fresh, first_unvisited, visited_sum, assign, values, landing_vertex}
use Rattle.graph.proofs.DegreeLaws.{names_at, names_some}
use Rattle.graph.proofs.PeelingLaws.{removal_length, removed_all}
use Rattle.graph.proofs.OrderLaws.{Leads, removal_ordered, ordered_drop, ordered_at}
use Rattle.graph.proofs.AssignmentLaws.{visited_named, visited_unnamed, new_vertex, new_place, new_value, other-value, drop_most, sum_visited}
use Rattle.graph.proofs.LandingLaws.{landing_after, landing_later, landing_apart, landing_new}
use Rattle.counting.specs.Holds.{Holds}
use Rattle.removal.specs.Arrays.{graph_in, vertex_at, Held, Wide}
use Rattle.removal.proofs.TallyLaws.{held_vertices}
use Rattle.peeling.specs.Assigning.{free_of, value_sum, VisitedFrom, Free, Given, AllRemoved, Assigned}

-- ---- the turns

-- the later edges have their values: which vertices they visit, and where each of them lands
pub record Back (n r m : ℕ) (edges M N W later : List ℕ) : Type 0 where
  pub wide : Wide m M N
  pub for_values : length W ≡ m
  pub visited : Holds m (λ x. bit ((assign (graph_in n r m edges) later).visited x)) M
  pub given : Holds m (assign (graph_in n r m edges) later).value W
  pub noted : (f : ℕ) → 1 ≤ occurrences f later → get_or N (landing_after (graph_in n r m edges) later f) 0 ≡ f

pub back_none : {n r m : ℕ} {edges order M N W₀ : List ℕ} → AllRemoved n r m edges order M N W₀ → (W : List ℕ) → length W ≡ m → Holds m (λ x. r) W → Back n r m edges M N W (drop (length order) (removal_list (graph_in n r m edges)))
unfolding assign fresh occurrences
back_none {n} {r} {m} {edges} {order} a W w h =
    let rest : drop (length order) (removal_list (graph_in n r m edges)) ≡ [] = rw (ap length a.list, drop-length (removal_list (graph_in n r m edges))) in
    rw rest (record { wide = a.wide; for_values = w; visited = a.unvisited; given = h; noted = λ f o. absurd (omega arith) })

module _ {n r m : ℕ} {edges M N W : List ℕ} (held : Held n r m edges) (nothing : number_left (graph_in n r m edges) ≡ 0) (k : ℕ) (l : k < n) (b : Back n r m edges M N W (drop (k + 1) (removal_list (graph_in n r m edges)))) where
  abbrev G : Graph
  G = graph_in n r m edges

  abbrev L : List ℕ
  L = removal_list G

  abbrev e : ℕ
  e = get_or L k 0

  in_list : k < length L
  in_list = omega (arith, removal_length G nothing)

  leads : Leads G e (drop (k + 1) L)
  leads = rw (add-one k) (ordered_at G (removal_ordered G) k in_list)

  later : drop k L ≡ e ∷ drop (k + 1) L
  later = rw (add-one k) (drop-cons L k 0 in_list)

  -- before its turn
  abbrev T : Table
  T = assign G (drop (k + 1) L)

  inside : (j : ℕ) → j < r → vertex_at r edges e j < m
  inside j a = held.proper.inside e j leads.is_edge a

  -- the first vertex without a mark is the first unvisited one
  free_is : free_of r e edges M ≡ first_unvisited G T e
  unfolding first_unvisited
  free_is = lowest_equal r _ _ (λ j a. ap (λ d. eqb d 0) (b.visited (vertex_at r edges e j) (inside j a)) ∙ unmarked (T.visited (vertex_at r edges e j)))
    where
      unmarked : (t : Bool) → eqb (bit t) 0 ≡ not t
      unmarked true = refl
      unmarked false = refl

  pub back_free : Free r e edges M N W
  back_free =
      record {
        is_edge = omega (arith, leads.is_edge, held.few_edges);
        visitable =
            record {
              small_arity = held.small_arity;
              in_visited = held_vertices held leads.is_edge (length M) (omega (arith, b.wide.for_degrees));
              in_values = held_vertices held leads.is_edge (length W) (omega (arith, b.for_values));
              apart = λ i j a c. held.proper.apart e i j leads.is_edge a c;
              most = λ j a. rw (b.given _ (inside j a)) (drop_most G (k + 1) _);
            };
        in_landed = held_vertices held leads.is_edge (length N) (omega (arith, b.wide.for_sums));
        some = rw free_is (new_place G leads);
      }

  abbrev y : ℕ
  y = new_vertex G e (drop (k + 1) L)

  y-below : y < m
  y-below = inside _ (new_place G leads)

  -- what it gets is what the assignment gives it
  given_is : minus_mod r (free_of r e edges M) (value_sum r e edges W) ≡ minus_mod r (first_unvisited G T e) (visited_sum G T e)
  given_is = ap (minus_mod r (free_of r e edges M)) (sum_equal r _ _ (λ i a. b.given (vertex_at r edges e i) (inside i a))) ∙ rw free_is (sum_visited G (k + 1) e _)

  visits : {M' : List ℕ} → VisitedFrom 0 r e edges M M' → Holds m (λ x. bit ((assign G (e ∷ drop (k + 1) L)).visited x)) M'
  visits {M'} v x a = go (names G e x) refl
    where
      go : (t : Bool) → names G e x ≡ t → get_or M' x 0 ≡ bit ((assign G (e ∷ drop (k + 1) L)).visited x)
      go true t = let w = names_some G e x t in ap (λ z. get_or M' z 0) (sym w.2) ∙ v.marked w.0 zero-le w.1 ∙ sym (ap bit (visited_named G e (drop (k + 1) L) x t))
      go false t = v.others x (λ i z h same. clash (names_at G e i x h (sym same)) t) ∙ b.visited x a ∙ ap bit (sym (visited_unnamed G e (drop (k + 1) L) x t))

  pub back_more : {M' N' W' : List ℕ} → Given r e edges M N W M' N' W' → Wide m M' N' → Back n r m edges M' N' W' (drop k L)
  unfolding occurrences
  back_more g wide =
      rw later
      (record {
        wide = wide;
        for_values = ap length g.given ∙ length-set W _ _ ∙ b.for_values;
        visited = visits g.marks;
        given =
            λ x a.
            rw (g.given, given_is, free_is)
            (⊎_elim
            (λ (i : x ≡ y). rw i (get_or-set_same W y _ 0 (omega (arith, y-below, b.for_values)) ∙ sym (new_value G leads)))
            (λ (d : x ≢ y). get_or-set_other W y x _ 0 d ∙ b.given x a ∙ sym (other-value G leads x d))
            (eq? x y));
        noted =
            λ f o.
            rw (g.noted, free_is)
            (⊎_elim
            (λ (i : f ≡ e). rw (i, landing_new G leads held.proper (ordered_drop G (k + 1) (removal_ordered G))) (get_or-set_same N y e 0 (omega (arith, y-below, b.wide.for_sums))))
            (λ (o : 1 ≤ occurrences f (drop (k + 1) L)). get_or-set_other N y _ e 0 (landing_apart G leads f o) ∙ rw (landing_later G leads f o) (b.noted f o))
            (occurrences_front f e (drop (k + 1) L) o));
      })

pub back_all : {n r m : ℕ} {edges M N W : List ℕ} → number_left (graph_in n r m edges) ≡ 0 → Back n r m edges M N W (removal_list (graph_in n r m edges)) → Assigned (graph_in n r m edges) N W
unfolding values landing_vertex
back_all {n} {r} {m} {edges} nothing b = record { of_values = b.given; of_landed = λ e l. b.noted e (removed_all (graph_in n r m edges) nothing e l) }

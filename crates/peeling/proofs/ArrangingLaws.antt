-- From the end of the peeling to the values, and from these to the lines. Assumes nothing.
-- D, C, O, W, N, R and K stand for the arrays of degrees, index sums, order, values, edges noted, rank entries and keys.
use Rattle.std.specs.Prelude.{◌≡◌, not, List, ◌++◌, ℕ, ◌-◌, ◌*◌, ◌≤◌, ◌<◌, length, take}
use Rattle.std.proofs.Common.{sym, ◌∙◌, arith, take_all}
use Rattle.std.proofs.Math.Path.{ap}
use Rattle.std.proofs.Math.ListN.{get_or}
use borrow.Author.Tests.{eqb-false, ne_eqb, not-true}
use Rattle.graph.specs.Graph.{Graph}
use Rattle.graph.specs.Peeling.{number_left}
use Rattle.graph.specs.Assignment.{assigned_below, block_size, blocks, rank_entry, values, landing_vertex, line, edge_of_line}
use Rattle.graph.proofs.RankLaws.{below_equal}
use Rattle.graph.proofs.PeelingLaws.{removed_degree}
use Rattle.graph.proofs.LandingLaws.{landing_inside, landing-assigned, assigned-landing, assigned-number}
use Rattle.graph.proofs.LineLaws.{edge_line}
use Rattle.removal.specs.Arrays.{graph_in, Held, Wide}
use Rattle.counting.proofs.HoldsLaws.{holds_front}
use Rattle.removal.specs.Queue.{Removed}
use Rattle.peeling.specs.Assigning.{AllRemoved, Assigned}
use Rattle.peeling.specs.Ranking.{Placed, RankedTo}
use Rattle.peeling.proofs.RankingSteps.{block_start}
use Rattle.peeling.specs.Arranging.{Lined, Arranged}

-- ---- the end of the peeling

pub removed_every : {n r m : ℕ} {edges D C O : List ℕ} {left most : ℕ} → Removed (graph_in n r m edges) D C O left most → length O ≡ n → left ≡ 0 → Held n r m edges → Wide m D C → (W : List ℕ) → length W ≡ m → AllRemoved n r m edges O D C W
removed_every {n} {r} {m} {edges} {O = O} {left} p o all held wide W for_values =
    let whole : take (n - left) O ≡ O = take_all (n - left) O (omega arith) in
    let none : number_left (graph_in n r m edges) ≡ 0 = sym p.is_left ∙ all in
    record {
      held = held;
      wide = wide;
      for_values = for_values;
      nothing = none;
      list = sym whole ∙ p.list;
      unvisited = λ x l. p.tallied.of_degrees x l ∙ removed_degree (graph_in n r m edges) none x;
    }

-- ---- W holds the values, N the edges noted where they land

module _ {n r m : ℕ} {edges : List ℕ} (held : Held n r m edges) (nothing : number_left (graph_in n r m edges) ≡ 0) {N W : List ℕ} (a : Assigned (graph_in n r m edges) N W) where
  abbrev G : Graph
  G = graph_in n r m edges

  below_is : (y : ℕ) → y ≤ m → assigned_below r (λ x. get_or W x 0) y ≡ assigned_below r (values G) y
  below_is y l = below_equal r (λ x. get_or W x 0) (values G) y (λ x h. a.of_values x (omega arith))

  pub edges_placed : length W ≡ m → length N ≡ m → (R K : List ℕ) → length R ≡ blocks m → length K ≡ n → Placed r W N R K
  edges_placed w o R K for_rank for_keys =
      record {
        few = omega (arith, w, held.few_vertices);
        even = o ∙ sym w;
        for_rank = for_rank ∙ ap blocks (sym w);
        room = rw (w, below_is m (omega arith)) (omega (arith, assigned-number G held.proper nothing));
        noted =
            λ x l d.
            let x_below : x < m = omega (arith, w) in
            let e = assigned-landing G held.proper x (ap not (ne_eqb (values G x) r (λ i. d (a.of_values x x_below ∙ i)))) in
            rw (← e.2, a.of_landed e.0 e.1) (omega (arith, e.1, held.few_edges));
      }

  pub edges_lined : (R K : List ℕ) → RankedTo m r W N R K → Lined G W R K
  unfolding rank_entry line
  edges_lined R K k =
      record {
        of_values = a.of_values;
        of_rank = λ b l. k.of_rank b l ∙ below_is (block_size * b) (omega (arith, block_start m b l));
        of_keys = key;
      }
    where
      key : (l : ℕ) → l < n → get_or K l 0 ≡ edge_of_line G l
      key l h =
          let w = edge_line G held.proper nothing l h in
          let x = landing_vertex G (edge_of_line G l) in
          let inside : x < m = landing_inside G held.proper (edge_of_line G l) w.0 in
          let taken = eqb-false _ _ (not-true _ (landing-assigned G held.proper nothing (edge_of_line G l) w.0)) in
          ap (λ i. get_or K i 0) (sym (below_is x (omega arith) ∙ w.1)) ∙ k.of_keys x inside (λ i. taken (sym (a.of_values x inside) ∙ i)) ∙ a.of_landed (edge_of_line G l) w.0

-- ---- the arrays may be the starts of longer ones

-- cited by nothing: docs/landings/08-todays-rattle.md names it
pub arranged_front : {G : Graph} {W R K : List ℕ} {left most : ℕ} → Arranged G W R K left most → (W' R' K' : List ℕ) → G.vertices ≤ length W → blocks G.vertices ≤ length R → G.edges ≤ length K → Arranged G (W ++ W') (R ++ R') (K ++ K') left most
arranged_front {G} {W} {R} {K} a W' R' K' w r k =
    record {
      is_left = a.is_left;
      is_most = a.is_most;
      lined =
          λ z.
          let l = a.lined z in
          record { of_values = holds_front _ _ W W' w l.of_values; of_rank = holds_front _ _ R R' r l.of_rank; of_keys = holds_front _ _ K K' k l.of_keys };
    }

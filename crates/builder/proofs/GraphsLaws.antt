-- The graph in the array of edges is the graph of the list, so what is arranged for the one is arranged for the other. Assumes nothing.
use Rattle.std.specs.Prelude.{refl, List, ℕ, ◌*◌, ◌≤◌, length, get_or}
use Rattle.std.proofs.Math.Path.{sym}
use Rattle.std.proofs.Common.{◌∙◌, mul-le-mul, arith}
use Rattle.graph.specs.Agree.{Agree}
use Rattle.graph.proofs.AgreeLaws.{agree_number, agree_most, agree_values, agree_edge, agree_rank, agree_proper}
use Rattle.removal.specs.Arrays.{graph_in, Held}
use Rattle.peeling.specs.Arranging.{Arranged}
use Rattle.directory.specs.Sizes.{most_codes}
use Rattle.directory.specs.Codes.{code}
use Rattle.directory.specs.Kind.{HD, vertex}
use Rattle.directory.specs.Building.{lent, weight, code_of, graph}
use Rattle.directory.proofs.GraphLaws.{graph_proper}
use Rattle.records.specs.Standing.{Room}
use Rattle.lists.specs.Listed.{Named}

-- the places that the vertices of n codes take
abbrev pub most_named : ℕ
most_named = most_codes * 3

pub named_most : (n r : ℕ) → n ≤ most_codes → r ≤ 3 → n * r ≤ most_named
named_most n r l m = mul-le-mul l m

module _ (run ends : List ℕ) (r v : ℕ) (weights buffer edges : List ℕ) (named : Named (length ends) r (λ k j. vertex HD v (λ i. get_or weights i 0) (code run ends k) j) edges) where
  edges_agree : Agree (graph HD (lent run ends r v weights buffer)) (graph_in (length ends) r (r * v) edges)
  unfolding graph weight code_of
  edges_agree = record { same_edges = refl; same_arity = refl; same_count = refl; same_vertices = λ k j l m. sym (named k j l m) }

  pub edges_held : Room r v → length ends ≤ most_codes → length ends * r ≤ length edges → Held (length ends) r (r * v) edges
  edges_held s few long =
      record {
        proper = agree_proper edges_agree (graph_proper HD (lent run ends r v weights buffer) (omega (arith, s.two)) s.some);
        long = long;
        few_edges = omega (arith, few);
        few_vertices = omega (arith, s.room);
        small_arity = omega (arith, s.three);
      }

  pub arranged_list : {values rank keys : List ℕ} {left most : ℕ} → Arranged (graph_in (length ends) r (r * v) edges) values rank keys left most → Arranged (graph HD (lent run ends r v weights buffer)) values rank keys left most
  unfolding graph
  arranged_list a =
      record {
        is_left = a.is_left ∙ sym (agree_number edges_agree);
        is_most = a.is_most ∙ sym (agree_most edges_agree);
        lined =
            λ z.
            let l = a.lined z in
            record {
              of_values = λ x b. l.of_values x b ∙ sym (agree_values edges_agree x);
              of_rank = λ x b. l.of_rank x b ∙ sym (agree_rank edges_agree x);
              of_keys = λ x b. l.of_keys x b ∙ sym (agree_edge edges_agree x);
            };
      }

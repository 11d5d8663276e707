-- The whole sequence: what is lent, and what the arrays hold at its end. Assumes nothing.
use Rattle.std.specs.Prelude.{◌≡◌, List, ℕ, ◌≤◌, length}
use Rattle.graph.specs.Graph.{Graph}
use Rattle.graph.specs.Peeling.{number_left}
use Rattle.graph.specs.Waiting.{most_waiting}
use Rattle.graph.specs.Assignment.{blocks, rank_entry, values, edge_of_line}
use Rattle.counting.specs.Holds.{Holds}
use Rattle.removal.specs.Arrays.{Held}

-- the arrays are long enough for n edges and m vertices
pub record LongEnough (n m : ℕ) (degrees sums order values rank keys : List ℕ) : Type 0 where
  pub for_degrees : m ≤ length degrees
  pub for_sums : m ≤ length sums
  pub for_order : n ≤ length order
  pub for_values : m ≤ length values
  pub for_rank : blocks m ≤ length rank
  pub for_keys : n ≤ length keys

-- an entry for each of m vertices, for each of their blocks and for each of n edges
pub record Exact (n r m : ℕ) (edges sums values rank keys : List ℕ) : Type 0 where
  pub held : Held n r m edges
  pub for_sums : length sums ≡ m
  pub for_values : length values ≡ m
  pub for_rank : length rank ≡ blocks m
  pub for_keys : length keys ≡ n

-- the values, the rank entries and the edges in the order of their lines
pub record Lined (G : Graph) (values' rank keys : List ℕ) : Type 0 where
  pub of_values : Holds G.vertices (values G) values'
  pub of_rank : Holds (blocks G.vertices) (rank_entry G.arity (values G)) rank
  pub of_keys : Holds G.edges (edge_of_line G) keys

-- the number left and the most that waited at once; and where nothing is left the lines
pub record Arranged (G : Graph) (values' rank keys : List ℕ) (left most : ℕ) : Type 0 where
  pub is_left : left ≡ number_left G
  pub is_most : most ≡ most_waiting G
  pub lined : left ≡ 0 → Lined G values' rank keys

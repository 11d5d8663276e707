-- The edges in the order of their lines, from what is noted at the assigned vertices. Assumes nothing.
use Rattle.std.specs.Prelude.{◌≡◌, ◌≢◌, List, ℕ, ◌≤◌, ◌<◌, length, get_or}
use Rattle.graph.specs.Assignment.{assigned_below, blocks, rank_entry}
use Rattle.counting.specs.Holds.{Holds}
use Rattle.counting.specs.Widths.{two_bytes}

-- there is a place for each assigned vertex, and an edge is noted there
pub record Placed (r : ℕ) (values landed rank keys : List ℕ) : Type 0 where
  pub few : length values < two_bytes
  pub even : length landed ≡ length values
  pub for_rank : length rank ≡ blocks (length values)
  pub room : assigned_below r (λ i. get_or values i 0) (length values) ≤ length keys
  pub noted : (x : ℕ) → x < length values → get_or values x 0 ≢ r → get_or landed x 0 < two_bytes

-- what is noted at each assigned vertex below y stands in the place that has the number of assigned vertices below it
abbrev pub Keyed : ℕ → ℕ → List ℕ → List ℕ → List ℕ → Type 0
Keyed y r values landed keys = (x : ℕ) → x < y → get_or values x 0 ≢ r → get_or keys (assigned_below r (λ i. get_or values i 0) x) 0 ≡ get_or landed x 0

-- the first y vertices are looked at
pub record RankedTo (y r : ℕ) (values landed rank keys : List ℕ) : Type 0 where
  pub of_rank : Holds (blocks y) (rank_entry r (λ i. get_or values i 0)) rank
  pub of_keys : Keyed y r values landed keys

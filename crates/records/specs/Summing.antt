-- The sums of a code for all its parts, as one pass over its bytes adds them up. Assumes nothing.
use Rattle.std.specs.Prelude.{◌≡◌, List, ℕ, ◌≤◌, ◌<◌, length}
use Rattle.directory.specs.Kind.{HD, code_sum}
use Rattle.records.specs.declared.Sums.{Sums}
use Rattle.records.specs.Standing.{most_bytes}

-- there are 2 or 3 parts, the weights of all of them end within what is lent, and the code has no more bytes than a part has weights
pub record Weighed (r end lent : ℕ) (t : List ℕ) : Type 0 where
  pub two : 2 ≤ r
  pub three : r ≤ 3
  pub long : end ≤ lent
  pub short : length t ≤ most_bytes

-- the sums of code t under any weights
pub record Summed (weight : ℕ → ℕ) (t : List ℕ) (r : ℕ) (s : Sums) : Type 0 where
  pub first : s.first ≡ code_sum HD weight t 0
  pub second : s.second ≡ code_sum HD weight t 1
  pub third : 2 < r → s.third ≡ code_sum HD weight t 2

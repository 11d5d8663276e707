-- What is lent to be written, and the file that it makes. Assumes nothing.
use Rattle.std.specs.Prelude.{◌≡◌, List, ℕ, ◌*◌, ◌≤◌, ◌<◌, length, get_or}
use Rattle.counting.specs.Holds.{Holds}
use Rattle.graph.specs.Assignment.{blocks, rank_entry}
use Rattle.directory.specs.Sizes.{headed}
use Rattle.directory.specs.Codes.{code}
use Rattle.directory.specs.Kind.{HD}
use Rattle.directory.specs.File.{file, file_length}

-- the file with these weights, values and codes; code keys[l] of the list has line l
abbrev pub file_in : ℕ → ℕ → List ℕ → List ℕ → List ℕ → List ℕ → List ℕ → List ℕ
file_in r v weights values run ends keys = file HD (headed (length ends) r v) (λ i. get_or weights i 0) (λ x. get_or values x 0) (λ l. code run ends (get_or keys l 0))

-- two bits hold each value
abbrev pub Small : List ℕ → Type 0
Small values = (x : ℕ) → x < length values → get_or values x 0 ≤ 3

-- each array has the numbers that the file takes from it, each line a code of the list, and the buffer is long enough
pub record Ready (r v : ℕ) (values rank ends keys buffer : List ℕ) : Type 0 where
  pub for_values : length values ≡ r * v
  pub for_rank : length rank ≡ blocks (r * v)
  pub ranks : Holds (blocks (r * v)) (rank_entry r (λ x. get_or values x 0)) rank
  pub for_keys : length keys ≡ length ends
  pub is_code : (l : ℕ) → l < length keys → get_or keys l 0 < length ends
  pub room : file_length HD (headed (length ends) r v) ≤ length buffer

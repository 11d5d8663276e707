-- Codes and code lists: document 01, "Sizes". A code is a list of bytes; a code list is lent as one run of bytes and a list of end positions. Assumes nothing.
use Rattle.std.specs.Prelude.{Bool, not, ◌||◌, List, ℕ, zero, suc, ◌+◌, ◌-◌, ◌≤◌, ◌<◌, eqb, ltb, length, get_or, take, drop}
use Rattle.counting.specs.Below.{any}
use Rattle.counting.specs.Lists.{same}

-- code k runs from the end of code k-1, 0 for the first, ..
unfoldable pub start : List ℕ → ℕ → ℕ
start ends zero = 0
start ends (suc k) = get_or ends k 0

-- .. to its own end
abbrev pub end : List ℕ → ℕ → ℕ
end ends k = get_or ends k 0

unfoldable pub code : List ℕ → List ℕ → ℕ → List ℕ
code run ends k = take (end ends k - start ends k) (drop (start ends k) run)

-- a number of bytes that no code has: 0, or over `most`
unfoldable pub wrong_length : ℕ → ℕ → Bool
wrong_length most k = eqb k 0 || ltb most k

-- the end of code k falls or passes the run, or the code is empty or over `most` bytes
unfoldable pub wrong_code : ℕ → List ℕ → List ℕ → ℕ → Bool
wrong_code most run ends k = ltb (end ends k) (start ends k) || ltb (length run) (end ends k) || wrong_length most (end ends k - start ends k)

-- the last end, or 0 where there are no codes, misses the length of the run
unfoldable pub run_missed : List ℕ → List ℕ → Bool
run_missed run ends = not (eqb (start ends (length ends)) (length run))

-- code k equals an earlier one
unfoldable pub repeated : (ℕ → List ℕ) → ℕ → Bool
repeated codes k = any k (λ i. same (codes i) (codes k))

-- ---- the same as a fact

-- code k runs within the run, and has 1 to `most` bytes
pub record Runs (most : ℕ) (run ends : List ℕ) (k : ℕ) : Type 0 where
  pub some : start ends k < end ends k
  pub short : end ends k ≤ start ends k + most
  pub inside : end ends k ≤ length run

-- The vertices of one code by the lent weights, as they stand in the array afterwards. Assumes nothing.
use Rattle.std.specs.Prelude.{◌≡◌, List, ℕ, ◌+◌, ◌<◌, get_or}

-- the first r numbers from `at` on are f 0, f 1, .., and those before them are as they were
pub record Noted (at r : ℕ) (f : ℕ → ℕ) (before after : List ℕ) : Type 0 where
  pub noted : (j : ℕ) → j < r → get_or after (at + j) 0 ≡ f j
  pub kept : (i : ℕ) → i < at → get_or after i 0 ≡ get_or before i 0

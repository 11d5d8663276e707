-- Bytes as one number, and a part of a file that begins with the bytes of a code. Assumes nothing.
use Rattle.std.specs.Prelude.{◌≡◌, List, ℕ, zero, suc, ◌+◌, ◌*◌, ◌<◌, get_or}

-- k bytes as one number, the low ones first
unfoldable pub number : ℕ → (ℕ → ℕ) → ℕ
number zero B = 0
number (suc k) B = B 0 + 256 * number k (λ j. B (suc j))

-- those of a list from a on
abbrev pub number_at : ℕ → List ℕ → ℕ → ℕ
number_at k f a = number k (λ j. get_or f (a + j) 0)

-- the bytes of f from `at` on begin with the first i of t
abbrev pub Begins : List ℕ → ℕ → List ℕ → ℕ → Type 0
Begins f at t i = (j : ℕ) → j < i → get_or f (at + j) 0 ≡ get_or t j 0

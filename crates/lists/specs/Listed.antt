-- A code list that passes check 5, and what stands in the array of the vertices of its codes. Assumes nothing.
use Rattle.std.specs.Prelude.{◌≡◌, List, ℕ, ◌<◌, length}
use Rattle.directory.specs.Codes.{Runs}
use Rattle.directory.specs.Kind.{HD}
use Rattle.removal.specs.Arrays.{vertex_at}

-- every code runs within the run and has 1 to 32 bytes
abbrev pub Listed : List ℕ → List ℕ → Type 0
Listed run ends = (k : ℕ) → k < length ends → Runs HD.positions run ends k

-- vertex j of edge k of the array is what f says, for n edges of r vertices
abbrev pub Named : ℕ → ℕ → (ℕ → ℕ → ℕ) → List ℕ → Type 0
Named n r f edges = (k j : ℕ) → k < n → j < r → vertex_at r edges k j ≡ f k j

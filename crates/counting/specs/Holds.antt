-- What the start of an array holds. Assumes nothing.
use Rattle.std.specs.Prelude.{◌≡◌, List, ℕ, ◌<◌, get_or}

-- the first k entries of an array are f 0, f 1, ..
abbrev pub Holds : ℕ → (ℕ → ℕ) → List ℕ → Type 0
Holds k f array = (i : ℕ) → i < k → get_or array i 0 ≡ f i

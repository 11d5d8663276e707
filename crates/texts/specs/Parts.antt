-- The part of a text before the first byte that passes a test, and what stands from that byte on. Assumes nothing.
use Rattle.std.specs.Prelude.{◌≡◌, Bool, cond, List, [], ◌∷◌, ℕ, ◌<◌, length, drop}

-- all of the text where no byte passes
unfoldable pub before : (ℕ → Bool) → List ℕ → List ℕ
before test [] = []
before test (b ∷ t) = cond (test b) [] (b ∷ before test t)

abbrev pub since : (ℕ → Bool) → List ℕ → List ℕ
since test t = drop (length (before test t)) t

-- what may be said of a byte is what the test says of it
abbrev pub Computes : (ℕ → Bool → Type 0) → (ℕ → Bool) → Type 0
Computes Says test = (b : ℕ) (said : Bool) → b < 256 → Says b said → said ≡ test b

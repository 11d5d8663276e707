-- What the first mark of a file decides, and with it the sum of a code and its vertices: document 01, "From code to vertices". Assumes nothing.
use Rattle.std.specs.Prelude.{List, ℕ, ◌+◌, ◌*◌, ◌%◌, length, get_or}
use Rattle.counting.specs.Below.{sum}

pub record Kind : Type 0 where
  -- the first mark, two letters in ASCII
  pub mark : ℕ × ℕ
  -- the most bytes of a code; so many weights belong to each part
  pub positions : ℕ
  -- what the sum adds to each byte
  pub plus : ℕ

-- the kind of document 01: HD, 32 bytes, each taken as it is
abbrev pub HD : Kind
HD = record { mark = (0x48, 0x44); positions = 32; plus = 0 }

-- the sum of code t for part j, with p(j,i) weight number positions·j + i
unfoldable pub code_sum : Kind → (ℕ → ℕ) → List ℕ → ℕ → ℕ
code_sum K weight t j = sum (length t) (λ i. (get_or t i 0 + K.plus) * weight (K.positions * j + i))

-- vertex j of code t is that sum mod v, plus j·v
unfoldable pub vertex : Kind → ℕ → (ℕ → ℕ) → List ℕ → ℕ → ℕ
vertex K v weight t j = code_sum K weight t j % v + j * v

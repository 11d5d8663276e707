-- Bytes: numbers in two of them, the low one first, records under their marks, and lists that stand in longer ones. Assumes nothing.
use Rattle.std.specs.Prelude.{◌≡◌, Bool, ◌&&◌, List, [], ◌∷◌, ℕ, ◌+◌, ◌*◌, ◌/◌, ◌%◌, ◌<◌, eqb, length, get_or}

-- a number below 65,536 in two bytes, and read back at offset a of the bytes B 0, B 1, ..
abbrev pub two : ℕ → List ℕ
two x = x % 256 ∷ x / 256 ∷ []

abbrev pub two_in : (ℕ → ℕ) → ℕ → ℕ
two_in B a = B a + 256 * B (a + 1)

-- byte a of a file; every use of it stands behind the test of the file's length
abbrev pub byte_at : List ℕ → ℕ → ℕ
byte_at f a = get_or f a 0

abbrev pub two_at : List ℕ → ℕ → ℕ
two_at f = two_in (byte_at f)

-- ---- marks

-- two letters in ASCII
abbrev pub mark_length : ℕ
mark_length = 2

abbrev pub WT : ℕ × ℕ
WT = (0x57, 0x54)

abbrev pub GV : ℕ × ℕ
GV = (0x47, 0x56)

abbrev pub RK : ℕ × ℕ
RK = (0x52, 0x4B)

abbrev pub KY : ℕ × ℕ
KY = (0x4B, 0x59)

-- a record: its mark, then its bytes
abbrev pub under : ℕ × ℕ → List ℕ → List ℕ
under mark bytes = mark.0 ∷ mark.1 ∷ bytes

-- the mark stands at offset a of the file
unfoldable pub marked : List ℕ → ℕ → ℕ × ℕ → Bool
marked f a mark = eqb (byte_at f a) mark.0 && eqb (byte_at f (a + 1)) mark.1

-- ---- lists in longer ones

-- the list t stands at offset a of the bytes B 0, B 1, ..
pub record Stands (B : ℕ → ℕ) (a : ℕ) (t : List ℕ) : Type 0 where
  pub byte : (i : ℕ) → i < length t → B (a + i) ≡ get_or t i 0

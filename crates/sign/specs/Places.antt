-- Lists of bytes with one place a line: a place is a number in four bytes, the low one first. Assumes nothing.
use Rattle.std.specs.Prelude.{List, [], ◌∷◌, ℕ, zero, suc, ◌+◌, ◌*◌, ◌/◌, ◌%◌, get_or, set}
use Rattle.counting.specs.Widths.{one_byte}

abbrev pub place_bytes : ℕ
place_bytes = 4

-- where the place of a line begins
abbrev pub place_at : ℕ → ℕ
place_at line = place_bytes * line

-- the number of four bytes, and the four bytes of a number
abbrev pub joined : ℕ → ℕ → ℕ → ℕ → ℕ
joined a b c d = a + one_byte * (b + one_byte * (c + one_byte * d))

abbrev pub byte0 : ℕ → ℕ
byte0 x = x % one_byte

abbrev pub byte1 : ℕ → ℕ
byte1 x = x / one_byte % one_byte

abbrev pub byte2 : ℕ → ℕ
byte2 x = x / one_byte / one_byte % one_byte

abbrev pub byte3 : ℕ → ℕ
byte3 x = x / one_byte / one_byte / one_byte

-- the number at a line's place, and the list with a number put there
unfoldable pub number_at : List ℕ → ℕ → ℕ
number_at list line =
    let at = place_at line in
    joined (get_or list at 0) (get_or list (at + 1) 0) (get_or list (at + 2) 0) (get_or list (at + 3) 0)

unfoldable pub with_number : List ℕ → ℕ → ℕ → List ℕ
with_number list line x =
    let at = place_at line in
    set (set (set (set list at (byte0 x)) (at + 1) (byte1 x)) (at + 2) (byte2 x)) (at + 3) (byte3 x)

-- n places that hold x
unfoldable pub filled : ℕ → ℕ → List ℕ
filled zero x = []
filled (suc n) x = byte0 x ∷ byte1 x ∷ byte2 x ∷ byte3 x ∷ filled n x

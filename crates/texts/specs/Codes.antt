-- The code of a line. Assumes nothing.
use Rattle.std.specs.Prelude.{Bool, not, ◌&&◌, ◌||◌, cond, List, [], ◌∷◌, ℕ, ◌+◌, ◌-◌, ◌*◌, ◌/◌, ◌%◌, eqb, length, get_or, take, drop, Option, Some, None}
use Rattle.counting.specs.Below.{any}
use Rattle.counting.specs.Lists.{same, each}
use Rattle.texts.specs.Numbers.{between}

-- ---- hex digits

abbrev pub no_digit : ℕ
no_digit = 16

-- 0 to 9, a to f and A to F; another character is no digit
unfoldable pub hex_value : ℕ → ℕ
hex_value b =
    cond (between 0x30 0x39 b) (b - 0x30)
    (cond (between 0x61 0x66 b) (b - 0x61 + 10)
    (cond (between 0x41 0x46 b) (b - 0x41 + 10) no_digit))

-- pairs of digits: an even number of them, and no other character
unfoldable pub wrong_pairs : List ℕ → Bool
wrong_pairs digits = not (eqb (length digits % 2) 0) || any (length digits) (λ i. eqb (hex_value (get_or digits i 0)) no_digit)

-- the byte of pair i
unfoldable pub pair_byte : List ℕ → ℕ → ℕ
pair_byte digits i = 16 * hex_value (get_or digits (2 * i) 0) + hex_value (get_or digits (2 * i + 1) 0)

-- the bytes of the first k pairs, and of all
unfoldable pub first_pairs : List ℕ → ℕ → List ℕ
first_pairs digits k = each k (λ i. pair_byte digits i ∷ [])

abbrev pub pair_bytes : List ℕ → List ℕ
pair_bytes digits = first_pairs digits (length digits / 2)

-- ---- a line

-- `0x`
abbrev pub hex_sign : List ℕ
hex_sign = 0x30 ∷ 0x78 ∷ []

-- whether a line is in hex, and the digits that it then has
unfoldable pub in_hex : List ℕ → Bool
in_hex l = same (take 2 l) hex_sign

abbrev pub hex_digits : List ℕ → List ℕ
hex_digits l = drop 2 l

unfoldable pub wrong_line : List ℕ → Bool
wrong_line l = in_hex l && wrong_pairs (hex_digits l)

-- the bytes of its pairs, or else the line's bytes as they stand
unfoldable pub code_of : List ℕ → List ℕ
code_of l = cond (in_hex l) (pair_bytes (hex_digits l)) l

-- one more than the most bytes of a code
abbrev pub most_kept : ℕ
most_kept = 33

-- so a code that is too long is still too long as it is kept
unfoldable pub kept : List ℕ → List ℕ
kept l = take most_kept (code_of l)

-- the number of bytes kept
unfoldable pub code_read : List ℕ → Option ℕ
code_read l = cond (wrong_line l) None (Some (length (kept l)))

-- what is stored of it
unfoldable pub code_stored : List ℕ → List ℕ
code_stored l = cond (wrong_line l) [] (kept l)

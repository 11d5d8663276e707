-- Decimal numbers in text, from 0 to the largest that is allowed. Assumes nothing.
use Rattle.std.specs.Prelude.{Bool, not, ◌&&◌, ◌||◌, cond, List, ℕ, zero, suc, ◌+◌, ◌-◌, ◌*◌, eqb, ltb, leb, length, get_or, Option, Some, None}
use Rattle.counting.specs.Below.{any}

-- a byte between two, the two included
abbrev pub between : ℕ → ℕ → ℕ → Bool
between low high b = leb low b && leb b high

-- the character 0
abbrev pub zero_sign : ℕ
zero_sign = 0x30

-- 0 to 9
abbrev pub is_digit : ℕ → Bool
is_digit b = between zero_sign 0x39 b

-- the number that the first i digits of a word stand for
unfoldable pub value_of_first : List ℕ → ℕ → ℕ
value_of_first w zero = 0
value_of_first w (suc i) = 10 * value_of_first w i + (get_or w i 0 - zero_sign)

abbrev pub value_of : List ℕ → ℕ
value_of w = value_of_first w (length w)

-- a word that is no number of at most `most`: without a digit, with another character, or too large
unfoldable pub wrong_number : ℕ → List ℕ → Bool
wrong_number most w = eqb (length w) 0 || any (length w) (λ i. not (is_digit (get_or w i 0))) || ltb most (value_of w)

unfoldable pub number_of : ℕ → List ℕ → Option ℕ
number_of most w = cond (wrong_number most w) None (Some (value_of w))

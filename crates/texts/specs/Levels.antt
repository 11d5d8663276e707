-- Levels in text: numbers that may start with `-`. Assumes nothing.
use Rattle.std.specs.Prelude.{Bool, true, false, cond, List, ℕ, eqb, ℤ, pos, neg_ℤ, get_or, drop, Option, Some, None}
use Rattle.texts.specs.Numbers.{number_of}

abbrev pub minus_sign : ℕ
minus_sign = 0x2D

-- whether a word starts with `-`, as no empty one does
unfoldable pub is_negative : List ℕ → Bool
is_negative w = eqb (get_or w 0 0) minus_sign

-- what then follows, or else the word
unfoldable pub without_sign : List ℕ → List ℕ
without_sign w = cond (is_negative w) (drop 1 w) w

-- the largest number that has 32 bits with either sign
abbrev pub most_level : ℕ
most_level = 2147483647

unfoldable pub signed_of : Bool → ℕ → ℤ
signed_of true size = neg_ℤ (pos size)
signed_of false size = pos size

abbrev pub level_from : Bool → Option ℕ → Option ℤ
level_from negative (Some size) = Some (signed_of negative size)
level_from negative None = None

unfoldable pub level_of : List ℕ → Option ℤ
level_of w = level_from (is_negative w) (number_of most_level (without_sign w))

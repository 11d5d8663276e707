-- Levels and ages as text, and the columns that show them. Assumes nothing.
use Rattle.std.specs.Prelude.{List, [], ◌∷◌, ◌++◌, ℕ, suc, ◌+◌, ◌/◌, ◌%◌, ℤ, pos, negsuc, Option, Some, None}
use Rattle.directory.specs.Listing.{blank, digit, decimal}
use Rattle.rows.specs.declared.Side.TheVariants.{Left}
use Rattle.rows.specs.declared.Value.{Value}
use Rattle.rows.specs.declared.Value.TheVariants.{Level, Age}
use Rattle.rows.specs.Filling.{filled}

-- ---- characters

abbrev point : ℕ
point = 0x2E

abbrev pub colon : ℕ
colon = 0x3A

abbrev pub minus_sign : ℕ
minus_sign = 0x2D

-- " m"
abbrev pub metre_sign : List ℕ
metre_sign = blank ∷ 0x6D ∷ []

-- two blanks
abbrev pub gap : List ℕ
gap = blank ∷ blank ∷ []

-- ---- numbers below 100 and below 1,000, zeros in front of them too

unfoldable pub two_digits : ℕ → List ℕ
two_digits x = digit (x / 10) ∷ digit (x % 10) ∷ []

unfoldable pub three_digits : ℕ → List ℕ
three_digits x = digit (x / 100) ∷ two_digits (x % 100)

-- ---- a level and an age

-- millimetres as metres with three decimals
unfoldable pub metres : ℕ → List ℕ
metres x = decimal (x / 1000) ++ point ∷ three_digits (x % 1000) ++ metre_sign

-- `pos n` is n, `negsuc k` is -(k + 1)
unfoldable pub level_text : ℤ → List ℕ
level_text (pos n) = metres n
level_text (negsuc k) = minus_sign ∷ metres (suc k)

-- seconds as hours, minutes and seconds
unfoldable pub age_text : ℕ → List ℕ
age_text age = decimal (age / 3600) ++ colon ∷ two_digits (age / 60 % 60) ++ colon ∷ two_digits (age % 60)

-- `-` where there is nothing to show
unfoldable pub value_text : Option Value → List ℕ
value_text None = minus_sign ∷ []
value_text (Some (Level level)) = level_text level
value_text (Some (Age age)) = age_text age

-- ---- a column

unfoldable pub column : ℕ → Option Value → List ℕ
column width value = gap ++ filled Left width (value_text value)

-- the longest value is `-2147483.648 m`, and no column is wider
abbrev pub longest_value : ℕ
longest_value = 14

abbrev pub widest : ℕ
widest = longest_value

abbrev pub longest_column : ℕ
longest_column = 2 + longest_value

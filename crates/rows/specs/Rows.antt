-- The rows of the sign: a code, the level and the age of its line's last report, and a word. Assumes nothing.
use Rattle.std.specs.Prelude.{Bool, true, false, not, ◌&&◌, ◌||◌, cond, List, [], ◌∷◌, ◌++◌, ℕ, ◌+◌, ◌-◌, eqb, ltb, leb, length, get_or, Option, Some, None, Ok, Err}
use Rattle.counting.specs.Below.{any}
use Rattle.directory.specs.Listing.{blank, decimal, hex}
use Rattle.directory.specs.Refusals.{number_of}
use Rattle.sign.specs.declared.Answer.TheVariants.{Never, Fresh, Stale}
use Rattle.sign.specs.Rules.{Last, Asked}
use Rattle.texts.specs.Numbers.{between}
use Rattle.texts.specs.Codes.{hex_sign, in_hex}
use Rattle.rows.specs.declared.Side.TheVariants.{Right}
use Rattle.rows.specs.declared.Value.{Value}
use Rattle.rows.specs.declared.Value.TheVariants.{Level, Age}
use Rattle.rows.specs.declared.Seen.{Seen}
use Rattle.rows.specs.Filling.{filled}
use Rattle.rows.specs.Values.{gap, column, longest_column}

-- ---- the code

-- a character that can be seen
abbrev pub visible : ℕ → Bool
visible b = between 0x21 0x7E b

-- what stands at place i has other bytes on both sides, and no blank before it
unfoldable pub lone : List ℕ → ℕ → Bool
lone code i = ltb 0 i && (ltb (i + 1) (length code) && not (eqb (get_or code (i - 1) 0) blank))

-- byte i of a code can be read: it can be seen, or it is one blank between others
unfoldable pub readable : List ℕ → ℕ → Bool
readable code i = let b = get_or code i 0 in visible b || (eqb b blank && lone code i)

-- a code is shown as it stands if all its bytes can be read and it does not start with `0x`
unfoldable pub plain : List ℕ → Bool
plain code = not (in_hex code || any (length code) (λ i. not (readable code i)))

-- otherwise in hex, so that no two codes look alike
unfoldable pub code_text : List ℕ → List ℕ
code_text code = cond (plain code) code (hex_sign ++ hex code)

abbrev code_width : ℕ
code_width = 32

unfoldable pub code_column : List ℕ → List ℕ
code_column code = filled Right code_width (code_text code)

-- ---- the last report

-- there is something to show where the answer is fresh or stale
abbrev pub tells : Asked → Bool
tells (Ok (Some Never)) = false
tells (Ok (Some (Fresh level))) = true
tells (Ok (Some (Stale level age))) = true
tells (Ok None) = false
tells (Err why) = false

-- the level and the age of a line's last report at a moment
unfoldable pub seen_of : Last → Asked → ℕ → Option Seen
seen_of None answer moment = None
seen_of (Some last) answer moment = cond (tells answer && leb last.time moment) (Some (record { level = last.level; age = moment - last.time })) None

abbrev level_width : ℕ
level_width = 9

abbrev age_width : ℕ
age_width = 13

unfoldable pub columns : Option Value → Option Value → List ℕ
columns level age = column level_width level ++ column age_width age

unfoldable pub seen_text : Option Seen → List ℕ
seen_text None = columns None None
seen_text (Some seen) = columns (Some (Level seen.level)) (Some (Age seen.age))

-- ---- the word

-- "never", "fresh", "stale", "unknown", "refused "
abbrev pub never_word : List ℕ
never_word = 0x6E ∷ 0x65 ∷ 0x76 ∷ 0x65 ∷ 0x72 ∷ []

abbrev pub fresh_word : List ℕ
fresh_word = 0x66 ∷ 0x72 ∷ 0x65 ∷ 0x73 ∷ 0x68 ∷ []

abbrev pub stale_word : List ℕ
stale_word = 0x73 ∷ 0x74 ∷ 0x61 ∷ 0x6C ∷ 0x65 ∷ []

abbrev pub unknown_word : List ℕ
unknown_word = 0x75 ∷ 0x6E ∷ 0x6B ∷ 0x6E ∷ 0x6F ∷ 0x77 ∷ 0x6E ∷ []

abbrev pub refused_word : List ℕ
refused_word = 0x72 ∷ 0x65 ∷ 0x66 ∷ 0x75 ∷ 0x73 ∷ 0x65 ∷ 0x64 ∷ blank ∷ []

unfoldable pub refused_text : ℕ → List ℕ
refused_text number = refused_word ++ decimal number

unfoldable pub word_text : Asked → List ℕ
word_text (Ok (Some Never)) = never_word
word_text (Ok (Some (Fresh level))) = fresh_word
word_text (Ok (Some (Stale level age))) = stale_word
word_text (Ok None) = unknown_word
word_text (Err why) = refused_text (number_of why.reason)

-- ---- the row

abbrev newline : ℕ
newline = 0x0A

unfoldable pub row_text : List ℕ → Last → Asked → ℕ → List ℕ
row_text code last answer moment = code_column code ++ seen_text (seen_of last answer moment) ++ gap ++ word_text answer ++ newline ∷ []

-- how long its parts are at most, for a code of at most 32 bytes: `0x` and 32 pairs of digits, two columns, two blanks, `refused ` and three digits, and a newline
abbrev pub longest_code : ℕ
longest_code = 66

abbrev pub longest_word : ℕ
longest_word = 11

abbrev pub longest_row : ℕ
longest_row = longest_code + longest_column + longest_column + 2 + longest_word + 1

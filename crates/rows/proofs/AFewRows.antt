-- A few rows, computed as one theorem. Assumes nothing.
use Rattle.std.specs.Prelude.{◌≡◌, refl, Bool, true, not, List, [], ◌∷◌, ◌++◌, ℕ, pos, negsuc, Some, Ok}
use Rattle.counting.specs.Below as Below
use Rattle.counting.specs.Lists as Lists
use Rattle.counting.specs.Lists.{same, every}
use Rattle.directory.specs.Listing.{digit, digits, decimal, hex}
use Rattle.directory.specs.declared.Reason.TheVariants.{EarlierNow}
use Rattle.directory.specs.Refusals.{refused}
use Rattle.sign.specs.declared.Answer.TheVariants.{Never, Fresh, Stale}
use Rattle.sign.specs.Rules.{heard, never_heard}
use Rattle.texts.specs.Codes.{in_hex}
use Rattle.rows.specs.Filling.{blanks, filled}
use Rattle.rows.specs.Values.{two_digits, three_digits, metres, level_text, age_text, value_text, column}
use Rattle.rows.specs.Rows.{lone, readable, plain, code_text, code_column, seen_of, columns, seen_text, refused_text, word_text, row_text}

-- ---- levels in millimetres, ages in seconds

pub level_says : List Bool
level_says =
    -- `0.000 m`, `-0.001 m`, `-20.000 m`, `20.000 m`, `0.734 m`
    same (level_text (pos 0)) (0x30 ∷ 0x2E ∷ 0x30 ∷ 0x30 ∷ 0x30 ∷ 0x20 ∷ 0x6D ∷ [])
    ∷ same (level_text (negsuc 0)) (0x2D ∷ 0x30 ∷ 0x2E ∷ 0x30 ∷ 0x30 ∷ 0x31 ∷ 0x20 ∷ 0x6D ∷ [])
    ∷ same (level_text (negsuc 19999)) (0x2D ∷ 0x32 ∷ 0x30 ∷ 0x2E ∷ 0x30 ∷ 0x30 ∷ 0x30 ∷ 0x20 ∷ 0x6D ∷ [])
    ∷ same (level_text (pos 20000)) (0x32 ∷ 0x30 ∷ 0x2E ∷ 0x30 ∷ 0x30 ∷ 0x30 ∷ 0x20 ∷ 0x6D ∷ [])
    ∷ same (level_text (pos 734)) (0x30 ∷ 0x2E ∷ 0x37 ∷ 0x33 ∷ 0x34 ∷ 0x20 ∷ 0x6D ∷ [])
    ∷ []

pub age_says : List Bool
age_says =
    -- `0:00:00`, `0:00:59`, `0:01:00`, `0:59:59`, `1:00:00`, `1193046:28:15`
    same (age_text 0) (0x30 ∷ 0x3A ∷ 0x30 ∷ 0x30 ∷ 0x3A ∷ 0x30 ∷ 0x30 ∷ [])
    ∷ same (age_text 59) (0x30 ∷ 0x3A ∷ 0x30 ∷ 0x30 ∷ 0x3A ∷ 0x35 ∷ 0x39 ∷ [])
    ∷ same (age_text 60) (0x30 ∷ 0x3A ∷ 0x30 ∷ 0x31 ∷ 0x3A ∷ 0x30 ∷ 0x30 ∷ [])
    ∷ same (age_text 3599) (0x30 ∷ 0x3A ∷ 0x35 ∷ 0x39 ∷ 0x3A ∷ 0x35 ∷ 0x39 ∷ [])
    ∷ same (age_text 3600) (0x31 ∷ 0x3A ∷ 0x30 ∷ 0x30 ∷ 0x3A ∷ 0x30 ∷ 0x30 ∷ [])
    ∷ same (age_text 4294967295) (0x31 ∷ 0x31 ∷ 0x39 ∷ 0x33 ∷ 0x30 ∷ 0x34 ∷ 0x36 ∷ 0x3A ∷ 0x32 ∷ 0x38 ∷ 0x3A ∷ 0x31 ∷ 0x35 ∷ [])
    ∷ []

-- ---- codes

-- `K9`, `A B`, `0x1`, and the last in hex: `0x307831`
k9 : List ℕ
k9 = 0x4B ∷ 0x39 ∷ []

pub code_says : List Bool
code_says =
    same (code_text k9) k9
    ∷ same (code_text (0x41 ∷ 0x20 ∷ 0x42 ∷ [])) (0x41 ∷ 0x20 ∷ 0x42 ∷ [])
    ∷ same (code_text (0x30 ∷ 0x78 ∷ 0x31 ∷ [])) (0x30 ∷ 0x78 ∷ 0x33 ∷ 0x30 ∷ 0x37 ∷ 0x38 ∷ 0x33 ∷ 0x31 ∷ [])
    -- the first and the last byte that can be seen, and those beside them
    ∷ plain (0x21 ∷ 0x7E ∷ [])
    ∷ not (plain (0x20 ∷ []))
    ∷ not (plain (0x7F ∷ []))
    -- a blank at an end, and two in a row
    ∷ not (plain (0x20 ∷ 0x41 ∷ []))
    ∷ not (plain (0x41 ∷ 0x20 ∷ []))
    ∷ not (plain (0x41 ∷ 0x20 ∷ 0x20 ∷ 0x42 ∷ []))
    ∷ []

-- ---- whole rows

-- `   -0.120 m`, and a dash in the same place
shallow : List ℕ
shallow = blanks 3 ++ 0x2D ∷ 0x30 ∷ 0x2E ∷ 0x31 ∷ 0x32 ∷ 0x30 ∷ 0x20 ∷ 0x6D ∷ []

none : List ℕ
none = blanks 10 ++ 0x2D ∷ []

-- `          0:01:30`, and a dash in the same place
ninety : List ℕ
ninety = blanks 8 ++ 0x30 ∷ 0x3A ∷ 0x30 ∷ 0x31 ∷ 0x3A ∷ 0x33 ∷ 0x30 ∷ []

no_age : List ℕ
no_age = blanks 14 ++ 0x2D ∷ []

-- `K9`, filled to 32 columns
start : List ℕ
start = k9 ++ blanks 30

pub row_says : List Bool
row_says =
    -- fresh
    same (row_text k9 (heard (negsuc 119) 1000) (Ok (Some (Fresh (negsuc 119)))) 1090) (start ++ shallow ++ ninety ++ 0x20 ∷ 0x20 ∷ 0x66 ∷ 0x72 ∷ 0x65 ∷ 0x73 ∷ 0x68 ∷ 0x0A ∷ [])
    -- stale
    ∷ same (row_text k9 (heard (negsuc 119) 1000) (Ok (Some (Stale (negsuc 119) 90))) 1090) (start ++ shallow ++ ninety ++ 0x20 ∷ 0x20 ∷ 0x73 ∷ 0x74 ∷ 0x61 ∷ 0x6C ∷ 0x65 ∷ 0x0A ∷ [])
    -- never
    ∷ same (row_text k9 never_heard (Ok (Some Never)) 1090) (start ++ none ++ no_age ++ 0x20 ∷ 0x20 ∷ 0x6E ∷ 0x65 ∷ 0x76 ∷ 0x65 ∷ 0x72 ∷ 0x0A ∷ [])
    -- refused 19
    ∷ same (row_text k9 (heard (negsuc 119) 1000) (refused EarlierNow 0) 999) (start ++ none ++ no_age ++ 0x20 ∷ 0x20 ∷ 0x72 ∷ 0x65 ∷ 0x66 ∷ 0x75 ∷ 0x73 ∷ 0x65 ∷ 0x64 ∷ 0x20 ∷ 0x31 ∷ 0x39 ∷ 0x0A ∷ [])
    ∷ []

pub a_few_rows : every (λ b. b) (level_says ++ age_says ++ code_says ++ row_says) ≡ true
unfolding level_says age_says code_says row_says k9 shallow none ninety no_age start lone readable Below.any Lists.same Lists.every digit digits decimal hex in_hex filled two_digits three_digits metres level_text age_text value_text column plain code_text code_column seen_of columns seen_text refused_text word_text row_text
a_few_rows = refl

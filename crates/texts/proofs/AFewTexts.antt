-- A few texts, and what is read of them, computed as one theorem. Assumes nothing.
use Rattle.std.specs.Prelude.{◌≡◌, refl, Bool, true, not, List, [], ◌∷◌, ◌++◌, ℕ, eqb, ℤ, pos, negsuc, length, replicate, Option, Some, None, Result, Ok, Err}
use Rattle.counting.specs.Below as Below
use Rattle.counting.specs.Lists as Lists
use Rattle.counting.specs.Lists.{same, every}
use Rattle.texts.specs.declared.Report.{Report}
use Rattle.texts.specs.declared.Codes.{Codes}
use Rattle.texts.specs.declared.WrongLine.{WrongLine}
use Rattle.texts.specs.declared.WrongWord.{WrongWord}
use Rattle.texts.specs.Parts.{before}
use Rattle.texts.specs.Lines.{from_line, no_line, without_return, line}
use Rattle.texts.specs.Words.{from_word, no_word, word}
use Rattle.texts.specs.Numbers.{value_of_first, wrong_number, number_of}
use Rattle.texts.specs.Levels.{is_negative, without_sign, signed_of, level_of}
use Rattle.texts.specs.Codes.{hex_value, wrong_pairs, pair_byte, first_pairs, in_hex, wrong_line, code_of, kept, code_read}
use Rattle.texts.specs.Reports.{report_from, report_of}
use Rattle.texts.specs.Reading.{lines_read, lines_right, run_to, ends_to, run_of, ends_of, codes_of, most_weight, words_read, words_right, values_to, values_of, weights_of}

-- ---- answers as numbers: first whether it is wrong

number_says : Option ℕ → List ℕ
number_says (Some x) = 0 ∷ x ∷ []
number_says None = 1 ∷ []

codes_say : Result Codes WrongLine → List ℕ
codes_say (Ok codes) = 0 ∷ codes.count ∷ codes.size ∷ []
codes_say (Err wrong) = 1 ∷ wrong.0 ∷ []

weights_say : Result ℕ WrongWord → List ℕ
weights_say (Ok n) = 0 ∷ n ∷ []
weights_say (Err wrong) = 1 ∷ wrong.0 ∷ []

-- of a report also the bytes of its code, and whether its level is below zero with one less than its size
signed_says : ℤ → List ℕ
signed_says (pos x) = 0 ∷ x ∷ []
signed_says (negsuc k) = 1 ∷ k ∷ []

report_says : Option Report → List ℕ
report_says (Some report) = 0 ∷ report.size ∷ signed_says report.level ++ report.time ∷ []
report_says None = 1 ∷ []

-- ---- the texts

-- `BA`, `B B` with a carriage return, and `0x4aFf`, each with a newline
three : List ℕ
three = 0x42 ∷ 0x41 ∷ 0x0A ∷ 0x42 ∷ 0x20 ∷ 0x42 ∷ 0x0D ∷ 0x0A ∷ 0x30 ∷ 0x78 ∷ 0x34 ∷ 0x61 ∷ 0x46 ∷ 0x66 ∷ 0x0A ∷ []

-- `0xG1` and `0x123`
letter : List ℕ
letter = 0x30 ∷ 0x78 ∷ 0x47 ∷ 0x31 ∷ []

odd : List ℕ
odd = 0x30 ∷ 0x78 ∷ 0x31 ∷ 0x32 ∷ 0x33 ∷ []

-- ` 1 20`, a tab, `65535`, a newline, `007`, a carriage return and a newline
four : List ℕ
four = 0x20 ∷ 0x31 ∷ 0x20 ∷ 0x32 ∷ 0x30 ∷ 0x09 ∷ 0x36 ∷ 0x35 ∷ 0x35 ∷ 0x33 ∷ 0x35 ∷ 0x0A ∷ 0x30 ∷ 0x30 ∷ 0x37 ∷ 0x0D ∷ 0x0A ∷ []

-- `65536` and `-2`
large : List ℕ
large = 0x36 ∷ 0x35 ∷ 0x35 ∷ 0x33 ∷ 0x36 ∷ []

negative : List ℕ
negative = 0x2D ∷ 0x32 ∷ []

-- `K9`, `-120`, `4294967295`, `4294967296` and `0x4B39`, each behind a blank
k9 : List ℕ
k9 = 0x20 ∷ 0x4B ∷ 0x39 ∷ []

shallow : List ℕ
shallow = 0x20 ∷ 0x2D ∷ 0x31 ∷ 0x32 ∷ 0x30 ∷ []

last : List ℕ
last = 0x20 ∷ 0x34 ∷ 0x32 ∷ 0x39 ∷ 0x34 ∷ 0x39 ∷ 0x36 ∷ 0x37 ∷ 0x32 ∷ 0x39 ∷ 0x35 ∷ []

late : List ℕ
late = 0x20 ∷ 0x34 ∷ 0x32 ∷ 0x39 ∷ 0x34 ∷ 0x39 ∷ 0x36 ∷ 0x37 ∷ 0x32 ∷ 0x39 ∷ 0x36 ∷ []

hex_k9 : List ℕ
hex_k9 = 0x20 ∷ 0x30 ∷ 0x78 ∷ 0x34 ∷ 0x42 ∷ 0x33 ∷ 0x39 ∷ []

-- ---- what is so

pub line_says : List Bool
line_says =
    same (line three 0) (0x42 ∷ 0x41 ∷ [])
    ∷ same (line three 1) (0x42 ∷ 0x20 ∷ 0x42 ∷ [])
    ∷ same (code_of (line three 2)) (0x4A ∷ 0xFF ∷ [])
    ∷ no_line three 3
    ∷ not (no_line (three ++ letter) 3)
    ∷ same (line (three ++ letter) 3) letter
    ∷ not (no_line (0x0A ∷ []) 0)
    ∷ no_line (0x0A ∷ []) 1
    ∷ no_line [] 0
    ∷ wrong_line letter
    ∷ wrong_line odd
    ∷ not (wrong_line (0x30 ∷ 0x78 ∷ []))
    ∷ eqb (length (kept (replicate 40 0x41))) 33
    ∷ []

pub read_says : List Bool
read_says =
    same (codes_say (codes_of three)) (0 ∷ 3 ∷ 7 ∷ [])
    ∷ same (run_of three) (0x42 ∷ 0x41 ∷ 0x42 ∷ 0x20 ∷ 0x42 ∷ 0x4A ∷ 0xFF ∷ [])
    ∷ same (ends_of three) (2 ∷ 5 ∷ 7 ∷ [])
    ∷ same (codes_say (codes_of (three ++ letter))) (1 ∷ 3 ∷ [])
    ∷ same (weights_say (weights_of four)) (0 ∷ 4 ∷ [])
    ∷ same (values_of four) (1 ∷ 20 ∷ 65535 ∷ 7 ∷ [])
    ∷ same (weights_say (weights_of (four ++ large))) (1 ∷ 4 ∷ [])
    ∷ same (weights_say (weights_of [])) (0 ∷ 0 ∷ [])
    ∷ same (number_says (number_of most_weight negative)) (1 ∷ [])
    ∷ same (number_says (number_of most_weight [])) (1 ∷ [])
    ∷ same (number_says (number_of most_weight (0x30 ∷ []))) (0 ∷ 0 ∷ [])
    ∷ []

pub reports_say : List Bool
reports_say =
    same (report_says (report_of (k9 ++ shallow ++ last))) (0 ∷ 2 ∷ 1 ∷ 119 ∷ 4294967295 ∷ [])
    ∷ same (report_says (report_of (hex_k9 ++ last ++ shallow))) (1 ∷ [])
    ∷ same (report_says (report_of (hex_k9 ++ 0x09 ∷ 0x30 ∷ last ++ 0x20 ∷ []))) (0 ∷ 2 ∷ 0 ∷ 0 ∷ 4294967295 ∷ [])
    ∷ same (report_says (report_of (k9 ++ shallow ++ late))) (1 ∷ [])
    ∷ same (report_says (report_of (k9 ++ shallow))) (1 ∷ [])
    ∷ same (report_says (report_of (k9 ++ shallow ++ last ++ k9))) (1 ∷ [])
    ∷ same (report_says (report_of (k9 ++ 0x20 ∷ 0x2D ∷ last))) (1 ∷ [])
    ∷ same (report_says (report_of [])) (1 ∷ [])
    ∷ []

pub a_few_texts : every (λ b. b) (line_says ++ read_says ++ reports_say) ≡ true
unfolding signed_says report_says k9 shallow last late hex_k9 reports_say is_negative without_sign signed_of level_of code_read report_from report_of number_says codes_say weights_say three letter odd four large negative line_says read_says Below.any Below.lowest Lists.same Lists.each Lists.every before from_line no_line without_return line from_word no_word word value_of_first wrong_number number_of hex_value wrong_pairs pair_byte first_pairs in_hex wrong_line code_of kept lines_read lines_right run_to ends_to codes_of words_read words_right values_to weights_of
a_few_texts = refl

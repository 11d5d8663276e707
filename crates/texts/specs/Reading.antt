-- What is read of a text of codes and of a text of weights: the answer, and the numbers stored. Assumes nothing.
use Rattle.std.specs.Prelude.{cond, List, [], ◌∷◌, ℕ, suc, ◌*◌, ltb, length, Result, Ok, Err}
use Rattle.counting.specs.Below.{lowest}
use Rattle.counting.specs.Lists.{each}
use Rattle.texts.specs.declared.Codes.{Codes}
use Rattle.texts.specs.declared.WrongLine.{WrongLine}
use Rattle.texts.specs.declared.WrongWord.{WrongWord}
use Rattle.texts.specs.Lines.{line, no_line}
use Rattle.texts.specs.Words.{word, no_word}
use Rattle.texts.specs.Numbers.{value_of, wrong_number}
use Rattle.texts.specs.Codes.{kept, most_kept, wrong_line}

-- ---- codes, one a line

-- one more than the most codes
abbrev pub most_lines : ℕ
most_lines = 1025

-- how many of the first 1,025 lines there are
unfoldable pub lines_read : List ℕ → ℕ
lines_read text = lowest most_lines (no_line text)

-- the first of them that is wrong, or their number where none is
unfoldable pub lines_right : List ℕ → ℕ
lines_right text = lowest (lines_read text) (λ k. wrong_line (line text k))

-- the codes of the first k lines one after the other
unfoldable pub run_to : List ℕ → ℕ → List ℕ
run_to text k = each k (λ i. kept (line text i))

-- where each of them ends
unfoldable pub ends_to : List ℕ → ℕ → List ℕ
ends_to text k = each k (λ i. length (run_to text (suc i)) ∷ [])

-- the same up to the first wrong line
abbrev pub run_of : List ℕ → List ℕ
run_of text = run_to text (lines_right text)

abbrev pub ends_of : List ℕ → List ℕ
ends_of text = ends_to text (lines_right text)

-- the first wrong line, or how many codes there are and the bytes of all
unfoldable pub codes_of : List ℕ → Result Codes WrongLine
codes_of text = cond (ltb (lines_right text) (lines_read text)) (Err (record { 0 = lines_right text })) (Ok (record { count = lines_read text; size = length (run_of text) }))

-- the room that the codes take at most
abbrev pub most_run : ℕ
most_run = most_kept * most_lines

-- ---- weights, with blanks between them

-- one more than the most weights
abbrev pub most_words : ℕ
most_words = 97

abbrev pub most_weight : ℕ
most_weight = 65535

-- how many of the first 97 words there are
unfoldable pub words_read : List ℕ → ℕ
words_read text = lowest most_words (no_word text)

-- the first of them that is no number, or how many there are where all are
unfoldable pub words_right : List ℕ → ℕ
words_right text = lowest (words_read text) (λ k. wrong_number most_weight (word text k))

-- the numbers of the first k words
unfoldable pub values_to : List ℕ → ℕ → List ℕ
values_to text k = each k (λ i. value_of (word text i) ∷ [])

-- the same up to the first that is no number
abbrev pub values_of : List ℕ → List ℕ
values_of text = values_to text (words_right text)

-- the first word that is no number, or how many there are
unfoldable pub weights_of : List ℕ → Result ℕ WrongWord
weights_of text = cond (ltb (words_right text) (words_read text)) (Err (record { 0 = words_right text })) (Ok (words_read text))

-- A report in a line of text: three words, its code, its level and its time. Assumes nothing.
use Rattle.std.specs.Prelude.{cond, List, ℕ, ℤ, Option, Some, None}
use Rattle.texts.specs.declared.Report.{Report}
use Rattle.texts.specs.Words.{word, no_word}
use Rattle.texts.specs.Numbers.{number_of}
use Rattle.texts.specs.Codes.{code_read}
use Rattle.texts.specs.Levels.{level_of}

-- a time has 32 bits
abbrev pub most_time : ℕ
most_time = 4294967295

-- each of the three has to be right; a word that is missing is empty, and no level and no time
unfoldable pub report_from : Option ℕ → Option ℤ → Option ℕ → Option Report
report_from None level time = None
report_from (Some size) None time = None
report_from (Some size) (Some level) None = None
report_from (Some size) (Some level) (Some time) = Some (record { size = size; level = level; time = time })

-- and there is no fourth
unfoldable pub report_of : List ℕ → Option Report
report_of l = cond (no_word l 3) (report_from (code_read (word l 0)) (level_of (word l 1)) (number_of most_time (word l 2))) None

-- The lists of the sign after the reports of a text. Assumes nothing.
use Rattle.std.specs.Prelude.{List, [], ◌∷◌, ◌++◌, ℕ, zero, suc, length, Option, Some, None}
use Rattle.counting.specs.Below.{lowest}
use Rattle.texts.specs.declared.Report.{Report}
use Rattle.texts.specs.Lines.{line, no_line}
use Rattle.texts.specs.Words.{word}
use Rattle.texts.specs.Codes.{kept}
use Rattle.texts.specs.Reports.{report_of}
use Rattle.sign.specs.Rules.{a_report}
use Rattle.sign.specs.Keeping.{Lists}
use Rattle.sign.specs.Calls.{after_report}
use Rattle.sign.specs.Trace.{Call}
use Rattle.sign.specs.Trace.Call.{report}

-- a report of a code is brought to the sign of a file f, and a line that is no report changes nothing
unfoldable pub after_read : List ℕ → List ℕ → Option Report → Lists → Lists
after_read f code (Some r) S = after_report f (a_report code r.level r.time) S
after_read f code None S = S

-- the code is that of the line's first word
unfoldable pub after_line : List ℕ → List ℕ → Lists → Lists
after_line f l S = after_read f (kept (word l 0)) (report_of l) S

-- the first k lines of a text, one after the other
unfoldable pub after_lines : List ℕ → List ℕ → ℕ → Lists → Lists
after_lines f text zero S = S
after_lines f text (suc k) S = after_line f (line text k) (after_lines f text k S)

-- how many lines it has: no more than bytes
unfoldable pub lines_in : List ℕ → ℕ
lines_in text = lowest (suc (length text)) (no_line text)

-- and all of them
unfoldable pub after_text : List ℕ → List ℕ → Lists → Lists
after_text f text S = after_lines f text (lines_in text) S

-- ---- the same as calls of the sign

unfoldable pub calls_read : List ℕ → Option Report → List Call
calls_read code (Some r) = report (a_report code r.level r.time) ∷ []
calls_read code None = []

unfoldable pub calls_to : List ℕ → ℕ → List Call
calls_to text zero = []
calls_to text (suc k) = let l = line text k in calls_to text k ++ calls_read (kept (word l 0)) (report_of l)

abbrev pub calls_in : List ℕ → List Call
calls_in text = calls_to text (lines_in text)

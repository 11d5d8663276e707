-- The whole sign as text: a row for each line of a file. Assumes nothing.
use Rattle.std.specs.Prelude.{List, ℕ, ◌*◌}
use Rattle.counting.specs.Lists.{each}
use Rattle.directory.specs.Sizes.{most_codes}
use Rattle.directory.specs.Calls.{show_of}
use Rattle.sign.specs.Rules.{a_question}
use Rattle.sign.specs.Keeping.{Lists, heard_at}
use Rattle.sign.specs.Calls.{ask_of}
use Rattle.rows.specs.Rows.{row_text, longest_row}

-- the row of a line: its code, its last report as the lists have it, and what asking for that code answers
unfoldable pub row_of : List ℕ → ℕ → ℕ → Lists → ℕ → List ℕ
row_of f moment limit S line = let code = show_of f line in row_text code (heard_at S line) (ask_of f (a_question code moment limit) S) moment

-- the rows of the lines 0 to n - 1
unfoldable pub sign_text : List ℕ → ℕ → ℕ → ℕ → Lists → List ℕ
sign_text f n moment limit S = each n (row_of f moment limit S)

abbrev pub longest_sign : ℕ
longest_sign = most_codes * longest_row

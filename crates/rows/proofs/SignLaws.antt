-- The row of a line by what the calls give. Assumes nothing.
use Rattle.std.specs.Prelude.{◌≡◌, List, ℕ}
use Rattle.directory.specs.Calls.{show_of}
use Rattle.sign.specs.Rules.{Last, Asked, a_question}
use Rattle.sign.specs.Keeping.{Lists, heard_at}
use Rattle.sign.specs.Calls.{ask_of}
use Rattle.rows.specs.Rows.{row_text}
use Rattle.rows.specs.Signs.{row_of}

pub row_of_lem : (f : List ℕ) {code : List ℕ} {last : Last} {answer : Asked} (moment limit : ℕ) (S : Lists) (line : ℕ) → code ≡ show_of f line → last ≡ heard_at S line → answer ≡ ask_of f (a_question code moment limit) S → row_text code last answer moment ≡ row_of f moment limit S line
unfolding row_of
row_of_lem f moment limit S line c l a = rw (l, a, c)

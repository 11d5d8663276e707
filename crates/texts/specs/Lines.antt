-- The lines of a text. Assumes nothing.
use Rattle.std.specs.Prelude.{Bool, ◌&&◌, cond, List, ℕ, zero, suc, ◌-◌, eqb, ltb, length, get_or, take, drop}
use Rattle.texts.specs.Parts.{before, since}

abbrev newline : ℕ
newline = 0x0A

abbrev pub return : ℕ
return = 0x0D

abbrev pub is_newline : ℕ → Bool
is_newline b = eqb b newline

-- the text from line k on: a newline ends a line
unfoldable pub from_line : List ℕ → ℕ → List ℕ
from_line text zero = text
from_line text (suc k) = drop 1 (since is_newline (from_line text k))

-- there is no line k where nothing is left: so a last line without a newline is one, and a final newline begins none
unfoldable pub no_line : List ℕ → ℕ → Bool
no_line text k = eqb (length (from_line text k)) 0

-- a carriage return just before the end of a line is not part of it
unfoldable pub without_return : List ℕ → List ℕ
without_return l = cond (ltb 0 (length l) && eqb (get_or l (length l - 1) 0) return) (take (length l - 1) l) l

unfoldable pub line : List ℕ → ℕ → List ℕ
line text k = without_return (before is_newline (from_line text k))

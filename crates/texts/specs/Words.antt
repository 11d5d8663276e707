-- The words of a text, which blanks separate. Assumes nothing.
use Rattle.std.specs.Prelude.{Bool, not, ◌||◌, List, ℕ, zero, suc, eqb, length}
use Rattle.texts.specs.Parts.{before, since}

-- a tab, a newline, a carriage return or a space
abbrev pub is_blank : ℕ → Bool
is_blank b = eqb b 0x09 || eqb b 0x0A || eqb b 0x0D || eqb b 0x20

abbrev pub not_blank : ℕ → Bool
not_blank b = not (is_blank b)

-- the text from word k on
unfoldable pub from_word : List ℕ → ℕ → List ℕ
from_word text zero = since not_blank text
from_word text (suc k) = since not_blank (since is_blank (from_word text k))

-- there is no word k where nothing is left
unfoldable pub no_word : List ℕ → ℕ → Bool
no_word text k = eqb (length (from_word text k)) 0

unfoldable pub word : List ℕ → ℕ → List ℕ
word text k = before is_blank (from_word text k)

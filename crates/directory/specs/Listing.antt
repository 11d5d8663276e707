-- The text that the lister writes: document 01, below its cases. Assumes nothing.
use Rattle.std.specs.Prelude.{true, false, cond, List, [], ◌∷◌, ◌++◌, ℕ, zero, suc, ◌+◌, ◌-◌, ◌/◌, ◌%◌, ltb}
use Rattle.counting.specs.Lists.{each}
use Rattle.directory.specs.Kind.{Kind}
use Rattle.directory.specs.Refusals.{number_of, first}
use Rattle.directory.specs.File.{header_in}
use Rattle.directory.specs.Opening.{open_refusals}
use Rattle.directory.specs.Showing.{shown}

-- ---- numbers as text, in ASCII

abbrev pub blank : ℕ
blank = 0x20

abbrev newline : ℕ
newline = 0x0A

-- a digit below 16, in lowercase
unfoldable pub digit : ℕ → ℕ
digit d = cond (ltb d 10) (0x30 + d) (0x61 + (d - 10))

-- a number in decimal, at most k + 1 digits of it
unfoldable pub digits : ℕ → ℕ → List ℕ
digits zero x = digit (x % 10) ∷ []
digits (suc k) x = elim (ltb x 10) [ true ↦ digit x ∷ [] | false ↦ digits k (x / 10) ++ digit (x % 10) ∷ [] ]

-- no number has more digits than it counts, but for 0
unfoldable pub decimal : ℕ → List ℕ
decimal x = digits x x

unfoldable pub hex : List ℕ → List ℕ
hex [] = []
hex (b ∷ t) = digit (b / 16) ∷ digit (b % 16) ∷ hex t

-- "refused"
abbrev refused_word : List ℕ
refused_word = 0x72 ∷ 0x65 ∷ 0x66 ∷ 0x75 ∷ 0x73 ∷ 0x65 ∷ 0x64 ∷ []

-- ---- the text

-- a line number, one blank, the code in lowercase hex and a newline
unfoldable pub listed_line : ℕ → List ℕ → List ℕ
listed_line l t = decimal l ++ blank ∷ hex t ++ newline ∷ []

-- `refused`, a blank, the number, a blank, the place and a newline
unfoldable pub refused_line : ℕ → ℕ → List ℕ
refused_line number place = refused_word ++ blank ∷ decimal number ++ blank ∷ decimal place ++ newline ∷ []

unfoldable pub listing : Kind → List ℕ → List ℕ
listing K f = let h = header_in f in first (each h.n (λ l. listed_line l (shown K f l))) (λ reason place. refused_line (number_of reason) place) (open_refusals K h f)

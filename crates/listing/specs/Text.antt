-- The lister's text by what opening gives, and the room that it takes. Assumes nothing.
use Rattle.std.specs.Prelude.{◌≡◌, List, ℕ, ◌*◌, ◌≤◌, length, take, Ok, Err}
use Rattle.counting.specs.Lists.{each}
use Rattle.directory.specs.declared.Refused.{Refused}
use Rattle.directory.specs.Sizes.{most_codes}
use Rattle.directory.specs.Refusals.{number_of}
use Rattle.directory.specs.Answers.{Opening}
use Rattle.directory.specs.Listing.{listed_line, refused_line}
use Rattle.directory.specs.Calls.{show_of}

-- the lines 0 to n - 1 of a file
unfoldable pub lines : List ℕ → ℕ → List ℕ
lines f n = each n (λ l. listed_line l (show_of f l))

-- the line of a refusal, by its reason's number and its place
abbrev pub refusal_line : Refused → List ℕ
refusal_line why = refused_line (number_of why.reason) why.place

abbrev pub text_of : List ℕ → Opening → List ℕ
text_of f (Ok h) = lines f h.n
text_of f (Err why) = refusal_line why

-- four digits, a blank, 32 bytes of two digits each, and a newline
abbrev pub longest_line : ℕ
longest_line = 70

abbrev pub longest_listing : ℕ
longest_listing = most_codes * longest_line

-- so many bytes stand at the start of a buffer; the second part follows from the first, and is said too so that lending them needs no proof of its own
abbrev pub Counts : ℕ → List ℕ → Type 0
Counts size text = (size ≤ length text) × (size ≡ length (take size text))

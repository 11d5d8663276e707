-- Showing a line: the code's bytes as a part of the caller's file. Assumes nothing.
use Rattle.std.specs.Prelude.{◌≡◌, not, ◌||◌, cond, List, ℕ, ◌+◌, ◌≤◌, ◌<◌, ltb, take, drop}
use Rattle.std.specs.Borrow.{Bor}
use Rattle.directory.specs.declared.Part.{Part}
use Rattle.directory.specs.declared.Reason.{Reason}
use Rattle.directory.specs.Sizes.{Header}
use Rattle.directory.specs.Codes.{wrong_length}
use Rattle.directory.specs.Kind.{Kind}
use Rattle.directory.specs.Refusals.{first, Given}
use Rattle.directory.specs.File.{header_in, code_at, key_length}
use Rattle.directory.specs.Whole.{Framed}
use Rattle.directory.specs.Opening.{header_refusals}

-- the empty part is the file's empty beginning
abbrev pub empty_part : Part
empty_part = record { start = 0; size = 0 }

abbrev pub bytes_of : List ℕ → Part → List ℕ
bytes_of f part = take part.size (drop part.start f)

-- a slice is this part of the file's slice: it has those bytes, and it starts in the same block, so many bytes further on
pub record IsPart (slice file : Bor (List ℕ)) (part : Part) : Type 0 where
  pub bytes : slice.now ≡ bytes_of file.now part
  pub block : slice.ref_ptr.0 ≡ file.ref_ptr.0
  pub from : slice.ref_ptr.1 ≡ part.start + file.ref_ptr.1

-- the code of line l; nothing where the line is n or more, or the stored length is 0 or over 32
unfoldable pub key_part : Kind → Header → List ℕ → ℕ → Part
key_part K h f l =
    let k = key_length K h f l in
    cond (not (ltb l h.n) || wrong_length K.positions k) empty_part (record { start = code_at K h l; size = k })

-- nothing where 9, 10 or 11 applies
unfoldable pub shown_part : Kind → List ℕ → ℕ → Part
shown_part K f l = let h = header_in f in first (key_part K h f l) (λ reason place. empty_part) (header_refusals K h f)

unfoldable pub shown : Kind → List ℕ → ℕ → List ℕ
shown K f l = bytes_of f (shown_part K f l)

-- ---- the same as facts

-- a line shows nothing where 9, 10 or 11 applies, the line is n or more, or the stored length is 0 or over 32
pub data ShowsNothing (K : Kind) (f : List ℕ) (l : ℕ) : Type 0 where
  refused : (reason : Reason) (place : ℕ) → Given (header_refusals K (header_in f) f) reason place → ShowsNothing K f l
  past_last : (header_in f).n ≤ l → ShowsNothing K f l
  length_zero : key_length K (header_in f) f l ≡ 0 → ShowsNothing K f l
  length_over : K.positions < key_length K (header_in f) f l → ShowsNothing K f l

-- otherwise it shows the code that is stored there
pub record ShowsCode (K : Kind) (f : List ℕ) (l : ℕ) : Type 0 where
  pub framed : Framed K (header_in f) f
  pub below : l < (header_in f).n
  pub some : 1 ≤ key_length K (header_in f) f l
  pub most : key_length K (header_in f) f l ≤ K.positions

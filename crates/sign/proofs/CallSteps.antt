-- Reporting and asking, step by step, as the code goes through them. Assumes nothing.
use Rattle.std.specs.Prelude.{◌≡◌, refl, Bool, true, List, ℕ, ◌<◌, Option, Some, Ok, Err}
use Rattle.std.proofs.Common.{sym, ap, ◌∙◌, arith}
use Rattle.std.proofs.lemmas.Bool.{not-false}
use Rattle.directory.specs.declared.Refused.{Refused}
use Rattle.directory.specs.Refusals.{first}
use Rattle.directory.specs.Answers.{Opening, Found}
use Rattle.directory.proofs.RefusalLaws.{unless_ok}
use Rattle.directory.specs.Calls.{header_of, lookup_of}
use Rattle.directory.proofs.EveryFile.{a_line_that_is_given_is_below_the_headers_n, a_refused_header_is_refused_to_every_code}
use Rattle.sign.specs.Rules.{Question, answered, limit_allowed}
use Rattle.sign.specs.Keeping.{Lists, fits, Room, last_at}
use Rattle.sign.proofs.KeepingLaws.{fits_room}
use Rattle.sign.specs.Calls.{lines_of, lines_in, checks, gated, entered, on_line, ask_of}

-- ---- a header that is refused is refused to every code; a line that is given is one of the file's lines

pub header_refused : (f code : List ℕ) (why : Refused) → header_of f ≡ Err why → lookup_of f code ≡ Err why
header_refused f code why = a_refused_header_is_refused_to_every_code f code why.reason why.place

pub line-below : (f code : List ℕ) (line : ℕ) → lookup_of f code ≡ Ok (Some line) → line < lines_in f
unfolding lines_in
line-below f code line e = go (header_of f) refl
  where
    go : (h : Opening) → header_of f ≡ h → line < lines_of (header_of f)
    go (Ok h) i = rw i (a_line_that_is_given_is_below_the_headers_n f code h.n h.r h.v line i e)
    go (Err why) i = let w = sym e ∙ header_refused f code why i in absurd (let z : ◌≡◌ {A = ℕ} 0 1 = cc in omega arith)

-- ---- a call that goes on: looking up gave the line, and no check applied

pub record Entered (f code : List ℕ) (limited fitting : Bool) (line : ℕ) : Type 0 where
  pub found : lookup_of f code ≡ Ok (Some line)
  pub limit_right : limited ≡ true
  pub lists_fit : fitting ≡ true

pub entered_in : (f code : List ℕ) (limited fitting : Bool) (line : ℕ) → entered f code limited fitting ≡ Ok (Some line) → Entered f code limited fitting line
unfolding entered gated
entered_in f code limited fitting line e = go (lookup_of f code) refl e
  where
    go : (found : Found) → lookup_of f code ≡ found → gated found (checks limited fitting) ≡ Ok (Some line) → Entered f code limited fitting line
    go (Ok found) i e = let w = (unless_ok found (checks limited fitting) (Some line)).0 e in record { found = i ∙ ap Ok w.0; limit_right = not-false _ w.1.0; lists_fit = not-false _ w.1.1.0 }
    go (Err why) i e = absurd (let z : ◌≡◌ {A = ℕ} 0 1 = cc in omega arith)

-- what was found goes on where the limit is right and the lists fit
pub enter_found : (f code : List ℕ) (limited fitting : Bool) {found : Option ℕ} → lookup_of f code ≡ Ok found → limited ≡ true → fitting ≡ true → entered f code limited fitting ≡ Ok found
unfolding entered gated first
enter_found f code limited fitting e t h = rw (e, t, h)

-- then the lists have its place
pub entered_room : (f code : List ℕ) (limited : Bool) (S : Lists) (line : ℕ) → entered f code limited (fits (lines_in f) S) ≡ Ok (Some line) → Room line S.levels S.times
entered_room f code limited S line e =
    let w = entered_in f code limited (fits (lines_in f) S) line e in
    fits_room (lines_in f) S line w.lists_fit (line-below f code line w.found)

-- ---- a question at its line

pub ask_line : (f : List ℕ) (S : Lists) (q : Question) (line : ℕ) → entered f q.code (limit_allowed q.limit) (fits (lines_in f) S) ≡ Ok (Some line) → ask_of f q S ≡ answered (last_at S line) q.now q.limit
unfolding ask_of on_line
ask_line f S q line e = rw e

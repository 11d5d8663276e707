-- What reporting and asking give back, and the lists after a report: the definitions that the calls' contracts cite. Assumes nothing.
use Rattle.std.specs.Prelude.{Bool, true, not, List, [], ◌∷◌, ℕ, Option, Some, None, Result, Ok, Err}
use Rattle.directory.specs.declared.Reason.TheVariants.{WrongLimit, WrongLists}
use Rattle.directory.specs.declared.Refused.{Refused}
use Rattle.directory.specs.Refusals.{Refusal, ok_unless}
use Rattle.directory.specs.Answers.{Opening, Found}
use Rattle.directory.specs.Calls.{header_of, lookup_of}
use Rattle.sign.specs.Rules.{Report, Question, Reported, Asked, refusal, told, answered, limit_allowed}
use Rattle.sign.specs.Keeping.{Lists, fits, last_at, kept}

-- the lines of a file by its header; a file whose header is refused has none
abbrev pub lines_of : Opening → ℕ
lines_of (Ok h) = h.n
lines_of (Err why) = 0

unfoldable pub lines_in : List ℕ → ℕ
lines_in f = lines_of (header_of f)

-- ---- the way to a line

-- the sign's own checks: 22 the limit, which only asking brings, and 23 the length of the lists
abbrev pub checks : Bool → Bool → List Refusal
checks limited fitting = refusal WrongLimit (not limited) ∷ refusal WrongLists (not fitting) ∷ []

-- what looking up refuses is refused first, then what the checks refuse; then comes Unknown, or the line
unfoldable pub gated : Found → List Refusal → Found
gated (Ok found) table = ok_unless found table
gated (Err why) table = Err why

unfoldable pub entered : List ℕ → List ℕ → Bool → Bool → Found
entered f code limited fitting = gated (lookup_of f code) (checks limited fitting)

-- a line goes on; that the code is Unknown, or a refusal, is the answer
unfoldable pub on_line : {A : Type 0} → (ℕ → Result (Option A) Refused) → Found → Result (Option A) Refused
on_line rule (Ok (Some line)) = rule line
on_line rule (Ok None) = Ok None
on_line rule (Err why) = Err why

-- ---- the calls, of any bytes f and any lists S

unfoldable pub report_of : List ℕ → Report → Lists → Reported
report_of f q S = on_line (λ line. told (last_at S line) line q.level q.time) (entered f q.code true (fits (lines_in f) S))

unfoldable pub after_report : List ℕ → Report → Lists → Lists
after_report f q S = kept (report_of f q S) q.level q.time S

unfoldable pub ask_of : List ℕ → Question → Lists → Asked
ask_of f q S = on_line (λ line. answered (last_at S line) q.now q.limit) (entered f q.code (limit_allowed q.limit) (fits (lines_in f) S))

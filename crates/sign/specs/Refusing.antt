-- All refusals of reporting and of asking in their order, each call's in one table. Assumes nothing.
use Rattle.std.specs.Prelude.{true, List, [], ◌∷◌, ◌++◌, ℕ, Some, None, Ok, Err}
use Rattle.directory.specs.Refusals.{Refusal}
use Rattle.directory.specs.Answers.{Found}
use Rattle.directory.specs.Calls.{lookup_of}
use Rattle.sign.specs.Rules.{Report, Question, report_refusals, ask_refusals, limit_allowed}
use Rattle.sign.specs.Keeping.{Lists, fits, last_at}
use Rattle.sign.specs.Calls.{lines_in, checks}

-- what looking up refuses (9, 10, 11, 9, 16, 13), with its reason and place
unfoldable pub lookup_refusal : Found → List Refusal
lookup_refusal (Ok found) = []
lookup_refusal (Err why) = record { reason = why.reason; applies = true; place = why.place } ∷ []

-- the refusals of a line, where there is one
unfoldable pub at_line : (ℕ → List Refusal) → Found → List Refusal
at_line rows (Ok (Some line)) = rows line
at_line rows (Ok None) = []
at_line rows (Err why) = []

-- looking up's, then the sign's checks, then those of the line
unfoldable pub in_order : Found → List Refusal → (ℕ → List Refusal) → List Refusal
in_order found table rows = lookup_refusal found ++ (table ++ at_line rows found)

-- reporting: 9, 10, 11, 9, 16, 13; 23; 17, 18
unfoldable pub report_table : List ℕ → Report → Lists → List Refusal
report_table f q S = in_order (lookup_of f q.code) (checks true (fits (lines_in f) S)) (λ line. report_refusals (last_at S line) q.level q.time)

-- asking: 9, 10, 11, 9, 16, 13; 22, 23; 19
unfoldable pub ask_table : List ℕ → Question → Lists → List Refusal
ask_table f q S = in_order (lookup_of f q.code) (checks (limit_allowed q.limit) (fits (lines_in f) S)) (λ line. ask_refusals (last_at S line) q.now)

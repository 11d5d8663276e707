-- The rules of one line: what its last report makes of a report and of a question. Assumes nothing.
use Rattle.std.specs.Prelude.{Bool, false, not, ◌&&◌, cond, List, [], ◌∷◌, ℕ, ◌-◌, ltb, leb, ℤ, Option, Some, None, Result}
use Rattle.directory.specs.declared.Reason.{Reason}
use Rattle.directory.specs.declared.Reason.TheVariants.{WrongLevel, EarlierTime, EarlierNow}
use Rattle.directory.specs.declared.Refused.{Refused}
use Rattle.directory.specs.Refusals.{Refusal, ok_unless}
use Rattle.sign.specs.declared.Reading.{Reading}
use Rattle.sign.specs.declared.Answer.{Answer}
use Rattle.sign.specs.declared.Answer.TheVariants as answer
use Rattle.sign.specs.Levels.{in_range}

-- what a report brings: a code, a level in millimetres and a time in seconds
pub record Report : Type 0 where
  pub code : List ℕ
  pub level : ℤ
  pub time : ℕ

-- what asking brings: a code, the time now and the limit
pub record Question : Type 0 where
  pub code : List ℕ
  pub now : ℕ
  pub limit : ℕ

abbrev pub a_report : List ℕ → ℤ → ℕ → Report
a_report code level time = record { code = code; level = level; time = time }

abbrev pub a_question : List ℕ → ℕ → ℕ → Question
a_question code now limit = record { code = code; now = now; limit = limit }

-- the last accepted report of a line, with its level and its time, or none: it was never heard
abbrev pub Last : Type 0
Last = Option Reading

abbrev pub heard : ℤ → ℕ → Last
heard level time = Some (record { level = level; time = time })

abbrev pub never_heard : Last
never_heard = None

-- the answers: of reporting the line that was renewed, of asking what the line says, or None where the code is Unknown
abbrev pub Reported : Type 0
Reported = Result (Option ℕ) Refused

abbrev pub Asked : Type 0
Asked = Result (Option Answer) Refused

-- a row of the sign's refusals: none has a place
abbrev pub refusal : Reason → Bool → Refusal
refusal reason applies = record { reason = reason; applies = applies; place = 0 }

-- what a stored level and time mean: a level out of range, that the line was never heard
unfoldable pub last_of : ℤ → ℕ → Last
last_of level time = cond (in_range level) (heard level time) never_heard

-- a time before the last of a line already heard
abbrev pub before_last : ℕ → Last → Bool
before_last time None = false
before_last time (Some last) = ltb time last.time

-- ---- the rule of a report: 17 a level out of range, 18 a time before the last; an equal time replaces

abbrev pub report_refusals : Last → ℤ → ℕ → List Refusal
report_refusals last level time = refusal WrongLevel (not (in_range level)) ∷ refusal EarlierTime (before_last time last) ∷ []

unfoldable pub told : Last → ℕ → ℤ → ℕ → Reported
told last line level time = ok_unless (Some line) (report_refusals last level time)

-- ---- the rule of a question: 19 now before the last; fresh is an age of at most the limit

abbrev pub ask_refusals : Last → ℕ → List Refusal
ask_refusals last now = refusal EarlierNow (before_last now last) ∷ []

abbrev pub judged : Last → ℕ → ℕ → Answer
judged None now limit = answer.Never
judged (Some last) now limit = let age = now - last.time in cond (leb age limit) (answer.Fresh last.level) (answer.Stale last.level age)

unfoldable pub answered : Last → ℕ → ℕ → Asked
answered last now limit = ok_unless (Some (judged last now limit)) (ask_refusals last now)

-- a limit of 1 to 86,400 seconds
unfoldable pub limit_allowed : ℕ → Bool
limit_allowed limit = leb 1 limit && leb limit 86_400

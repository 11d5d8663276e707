-- Calls one after the other: on the sign, and on a plain map from code to last accepted report. Assumes nothing.
use Rattle.std.specs.Prelude.{Bool, true, false, cond, List, [], ◌∷◌, ℕ, Some, None, Ok, Err}
use Rattle.counting.specs.Lists.{same}
use Rattle.sign.specs.Rules.{Report, Question, Last, heard, never_heard, Reported, Asked, told, answered, limit_allowed}
use Rattle.sign.specs.Keeping.{Lists}
use Rattle.sign.specs.Calls.{entered, on_line, report_of, after_report, ask_of}

-- a call with what it brings, and what it gives back
pub data Call : Type 0 where
  report : Report → Call
  ask : Question → Call

pub data Reply : Type 0 where
  reported : Reported → Reply
  asked : Asked → Reply

-- something that can be called: what it gives back, and what it is afterwards
pub record Machine : Type 1 where
  pub State : Type 0
  pub reply : State → Call → Reply
  pub next : State → Call → State

module _ (M : Machine) where
  -- the calls, each with what it gave back
  unfoldable pub log : M.State → List Call → List (Call × Reply)
  log s [] = []
  log s (k ∷ ks) = (k, M.reply s k) ∷ log (M.next s k) ks

  -- what it is after the calls
  unfoldable pub after : M.State → List Call → M.State
  after s [] = s
  after s (k ∷ ks) = after (M.next s k) ks

-- ---- the sign over a file: the lists are lent to each call as the one before left them

module _ (f : List ℕ) where
  unfoldable pub sign_reply : Lists → Call → Reply
  sign_reply S (report q) = reported (report_of f q S)
  sign_reply S (ask q) = asked (ask_of f q S)

  unfoldable pub sign_next : Lists → Call → Lists
  sign_next S (report q) = after_report f q S
  sign_next S (ask q) = S

  abbrev pub sign : Machine
  sign = record { State = Lists; reply = sign_reply; next = sign_next }

-- ---- a plain map from code to last accepted report: it knows no lines and no lists

abbrev pub Map : Type 0
Map = List ℕ → Last

unfoldable pub nothing : Map
nothing code = never_heard

unfoldable pub with : Map → Report → Map
with M q code = cond (same q.code code) (heard q.level q.time) (M code)

unfoldable pub accepted : Reported → Bool
accepted (Ok (Some line)) = true
accepted (Ok None) = false
accepted (Err why) = false

-- the directory says which codes are listed, and has its refusals; the rule of a line is the map's entry for the code
module _ (f : List ℕ) where
  unfoldable pub map_report : Report → Map → Reported
  map_report q M = on_line (λ line. told (M q.code) line q.level q.time) (entered f q.code true true)

  unfoldable pub map_ask : Question → Map → Asked
  map_ask q M = on_line (λ line. answered (M q.code) q.now q.limit) (entered f q.code (limit_allowed q.limit) true)

  unfoldable pub map_reply : Map → Call → Reply
  map_reply M (report q) = reported (map_report q M)
  map_reply M (ask q) = asked (map_ask q M)

  unfoldable pub map_next : Map → Call → Map
  map_next M (report q) = cond (accepted (map_report q M)) (with M q) M
  map_next M (ask q) = M

  abbrev pub plain : Machine
  plain = record { State = Map; reply = map_reply; next = map_next }

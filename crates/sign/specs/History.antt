-- The last accepted report of a code, by the calls that were made and what they gave back. Assumes nothing.
use Rattle.std.specs.Prelude.{◌≡◌, Bool, false, List, [], ◌∷◌, ◌++◌, ℕ, Some, None, Ok, Err}
use Rattle.counting.specs.Lists.{same}
use Rattle.sign.specs.Rules.{Report}
use Rattle.sign.specs.Trace.{Call, Reply}
use Rattle.sign.specs.Trace.Call.{report, ask}
use Rattle.sign.specs.Trace.Reply.{reported, asked}

-- a call and what it gave back
abbrev pub Entry : Type 0
Entry = Call × Reply

-- whether it is a report of this code that was accepted
unfoldable pub accepts : List ℕ → Entry → Bool
accepts code (report q, reported (Ok (Some line))) = same q.code code
accepts code (report q, reported (Ok None)) = false
accepts code (report q, reported (Err why)) = false
accepts code (report q, asked a) = false
accepts code (ask q, r) = false

-- no report of this code was accepted
abbrev pub NoneAccepted : List ℕ → List Entry → Type 0
NoneAccepted code [] = Unit
NoneAccepted code (e ∷ entries) = (accepts code e ≡ false) × NoneAccepted code entries

-- the report was accepted, it is of this code, and since then no other of this code was
pub record LastAccepted (code : List ℕ) (q : Report) (entries : List Entry) : Type 0 where
  pub before : List Entry
  pub line : ℕ
  pub since : List Entry
  pub made : entries ≡ before ++ (report q, reported (Ok (Some line))) ∷ since
  pub its_code : q.code ≡ code
  pub none_since : NoneAccepted code since

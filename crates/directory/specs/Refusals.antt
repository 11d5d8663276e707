-- Refusals in their order: a table of rows, and the first that applies is given. Assumes nothing.
use Rattle.std.specs.Prelude.{◌≡◌, Bool, true, false, cond, List, [], ◌∷◌, ◌++◌, ℕ, Result, Ok, Err}
use Rattle.directory.specs.declared.Reason.{Reason}
use Rattle.directory.specs.declared.Reason.TheVariants as reason
use Rattle.directory.specs.declared.Refused.{Refused}

-- the numbers of documents 01 and 02
abbrev pub number_of : Reason → ℕ
number_of reason.WrongArity = 1
number_of reason.WrongPartSize = 2
number_of reason.WrongWeights = 3
number_of reason.TooManyCodes = 4
number_of reason.WrongList = 5
number_of reason.ShortBuffer = 6
number_of reason.RepeatedCode = 7
number_of reason.Cyclic = 8
number_of reason.WrongSize = 9
number_of reason.WrongMark = 10
number_of reason.WrongHeader = 11
number_of reason.WrongValue = 12
number_of reason.WrongRank = 13
number_of reason.WrongKey = 14
number_of reason.StrayCode = 15
number_of reason.WrongCode = 16
number_of reason.WrongLevel = 17
number_of reason.EarlierTime = 18
number_of reason.EarlierNow = 19
number_of reason.WrongLimit = 22
number_of reason.WrongLists = 23

-- the refusal for a reason at a place, and the answer that it is
abbrev pub refused_at : Reason → ℕ → Refused
refused_at reason place = record { reason = reason; place = place }

abbrev pub refused : {A : Type 0} → Reason → ℕ → Result A Refused
refused reason place = Err (refused_at reason place)

-- a row of document 01's table: the reason, whether it is to be given, and the place
pub record Refusal : Type 0 where
  pub reason : Reason
  pub applies : Bool
  pub place : ℕ

-- what the first row that applies gives, and `ok` where none does
unfoldable pub first : {A : Type 0} → A → (Reason → ℕ → A) → List Refusal → A
first ok refuse [] = ok
first ok refuse (row ∷ table) = cond row.applies (refuse row.reason row.place) (first ok refuse table)

-- success with x where no row applies, and else the refusal of the first that does
abbrev pub ok_unless : {A : Type 0} → A → List Refusal → Result A Refused
ok_unless x table = first (Ok x) refused table

-- ---- the same as facts

-- no row applies
abbrev pub NoneApplies : List Refusal → Type 0
NoneApplies [] = Unit
NoneApplies (row ∷ table) = (row.applies ≡ false) × NoneApplies table

-- the table gives this reason and place: they are those of a row that applies, and no row before it does
pub record Given (table : List Refusal) (reason : Reason) (place : ℕ) : Type 0 where
  pub before : List Refusal
  pub row : Refusal
  pub after : List Refusal
  pub rows : table ≡ before ++ row ∷ after
  pub passed : NoneApplies before
  pub applies : row.applies ≡ true
  pub its_reason : row.reason ≡ reason
  pub its_place : row.place ≡ place

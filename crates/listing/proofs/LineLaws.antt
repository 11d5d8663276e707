-- How long the lines of the text are. Assumes nothing.
use Rattle.std.specs.Prelude.{◌≡◌, List, ℕ, ◌+◌, ◌<◌, length}
use Rattle.std.proofs.Common.{arith, length-append}
use Rattle.directory.specs.declared.Reason.{Reason}
use Rattle.directory.specs.declared.Reason.TheVariants.{WrongArity, WrongPartSize, WrongWeights, TooManyCodes, WrongList, ShortBuffer, RepeatedCode, Cyclic, WrongSize, WrongMark, WrongHeader, WrongValue, WrongRank, WrongKey, StrayCode, WrongCode, WrongLevel, EarlierTime, EarlierNow, WrongLimit, WrongLists}
use Rattle.directory.specs.Refusals.{number_of}
use Rattle.directory.specs.Listing.{decimal, hex, listed_line, refused_line}

pub listed_line-length : (l : ℕ) (t : List ℕ) → length (listed_line l t) ≡ length (decimal l) + length (hex t) + 2
unfolding listed_line
listed_line-length l t = simp length-append (omega arith)

pub refused_line-length : (number place : ℕ) → length (refused_line number place) ≡ length (decimal number) + length (decimal place) + 10
unfolding refused_line
refused_line-length number place = simp length-append (omega arith)

-- the number of a reason has at most two digits
pub number_small : (k : Reason) → number_of k < 100
number_small k = elim k as (λ k. number_of k < 100) [ WrongArity ↦ omega arith | WrongPartSize ↦ omega arith | WrongWeights ↦ omega arith | TooManyCodes ↦ omega arith | WrongList ↦ omega arith | ShortBuffer ↦ omega arith | RepeatedCode ↦ omega arith | Cyclic ↦ omega arith | WrongSize ↦ omega arith | WrongMark ↦ omega arith | WrongHeader ↦ omega arith | WrongValue ↦ omega arith | WrongRank ↦ omega arith | WrongKey ↦ omega arith | StrayCode ↦ omega arith | WrongCode ↦ omega arith | WrongLevel ↦ omega arith | EarlierTime ↦ omega arith | EarlierNow ↦ omega arith | WrongLimit ↦ omega arith | WrongLists ↦ omega arith ]

-- what the goals of the lines need
pub ruleset lengths = (listed_line-length, refused_line-length)

-- Looking up a code in any bytes: the refusals 9, 10, 11, 9 and 16, and what is found. Assumes nothing.
use Rattle.std.specs.Prelude.{Bool, ◌&&◌, cond, List, [], ◌∷◌, ◌++◌, ℕ, eqb, length, Some, None, Ok}
use Rattle.counting.specs.Lists.{same}
use Rattle.directory.specs.declared.Lead.{Lead}
use Rattle.directory.specs.declared.Lead.TheVariants.{Nowhere, ToLine, PastLast}
use Rattle.directory.specs.Sizes.{Header}
use Rattle.directory.specs.Codes.{wrong_length}
use Rattle.directory.specs.Kind.{Kind}
use Rattle.directory.specs.declared.Reason.TheVariants.{WrongCode, WrongRank}
use Rattle.directory.specs.Refusals.{Refusal, first, refused}
use Rattle.directory.specs.Answers.{Found}
use Rattle.directory.specs.File.{header_in, key_length, stored_code, lead_in}
use Rattle.directory.specs.Opening.{header_refusals}

module _ (K : Kind) (h : Header) (f t : List ℕ) where
  unfoldable pub lookup_refusals : List Refusal
  lookup_refusals = header_refusals K h f ++ record { reason = WrongCode; applies = wrong_length K.positions (length t); place = 0 } ∷ []

  -- the KY record of line l has the code's length and bytes
  unfoldable pub holds_code : ℕ → Bool
  holds_code l = eqb (key_length K h f l) (length t) && same (stored_code K h f l) t

  -- what is found where the code leads; a line of n or more gives 13 with the rank entry's number
  unfoldable pub found : Lead → Found
  found Nowhere = Ok None
  found (ToLine l) = cond (holds_code l) (Ok (Some l)) (Ok None)
  found (PastLast b) = refused WrongRank b

unfoldable pub lookup : Kind → List ℕ → List ℕ → Found
lookup K f t = let h = header_in f in first (found K h f t (lead_in K h f t)) refused (lookup_refusals K h f t)

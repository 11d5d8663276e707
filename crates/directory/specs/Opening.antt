-- Opening: the refusals 9 to 15 in their order, and the answer. Assumes nothing.
use Rattle.std.specs.Prelude.{Bool, not, ◌||◌, List, [], ◌∷◌, ◌++◌, ℕ, ◌+◌, ◌-◌, eqb, ltb, length}
use Rattle.counting.specs.Below.{any, lowest}
use Rattle.directory.specs.Sizes.{Header, header_allowed}
use Rattle.directory.specs.Codes.{wrong_length}
use Rattle.directory.specs.Kind.{Kind}
use Rattle.directory.specs.Bytes.{byte_at, WT, GV, RK, KY, marked}
use Rattle.directory.specs.declared.Reason.TheVariants.{WrongSize, WrongMark, WrongHeader, WrongKey, StrayCode}
use Rattle.directory.specs.Refusals.{Refusal, ok_unless}
use Rattle.directory.specs.Answers.{Opening}
use Rattle.directory.specs.Values.{ranks_at, table_refusals}
use Rattle.directory.specs.Leads.{leads_to}
use Rattle.directory.specs.File.{header_length, weights_at, values_at, key_at, code_at, file_length, header_in, table_in, key_length, stored_code, lead_in}

module _ (K : Kind) (h : Header) (f : List ℕ) where
  open K use {mark, positions}
  open h use {n}

  -- what every call on a file looks at first: under 7 bytes, the first mark, the header's numbers, the length that they call for
  unfoldable pub header_refusals : List Refusal
  header_refusals =
      record { reason = WrongSize; applies = ltb (length f) header_length; place = 0 }
      ∷ record { reason = WrongMark; applies = not (marked f 0 mark); place = 0 }
      ∷ record { reason = WrongHeader; applies = not (header_allowed h); place = 0 }
      ∷ record { reason = WrongSize; applies = not (eqb (length f) (file_length K h)); place = 0 }
      ∷ []

  -- ---- the other marks, in file order

  unfoldable pub wrong_mark : ℕ → ℕ × ℕ → Refusal
  wrong_mark at mark = record { reason = WrongMark; applies = not (marked f at mark); place = at }

  unfoldable pub key_unmarked : ℕ → Bool
  key_unmarked l = not (marked f (key_at K h l) KY)

  unfoldable pub mark_refusals : List Refusal
  mark_refusals =
      wrong_mark (weights_at K h) WT
      ∷ wrong_mark (values_at K h) GV
      ∷ wrong_mark (values_at K h + ranks_at h) RK
      ∷ record { reason = WrongMark; applies = any n key_unmarked; place = key_at K h (lowest n key_unmarked) }
      ∷ []

  -- ---- the KY records

  -- 14: a length of 0 or over 32, or filling not zero
  unfoldable pub filling_set : ℕ → Bool
  filling_set l = any (positions - key_length K h f l) (λ i. not (eqb (byte_at f (code_at K h l + key_length K h f l + i)) 0))

  unfoldable pub key_wrong : ℕ → Bool
  key_wrong l = wrong_length positions (key_length K h f l) || filling_set l

  -- 15: the code stored at line l does not lead to it
  unfoldable pub astray : ℕ → Bool
  astray l = not (leads_to l (lead_in K h f (stored_code K h f l)))

  unfoldable pub key_refusals : List Refusal
  key_refusals =
      record { reason = WrongKey; applies = any n key_wrong; place = lowest n key_wrong }
      ∷ record { reason = StrayCode; applies = any n astray; place = lowest n astray }
      ∷ []

  -- ---- all of them

  -- the records after the header
  unfoldable pub record_refusals : List Refusal
  record_refusals = mark_refusals ++ (table_refusals h (table_in K h f) ++ key_refusals)

  unfoldable pub open_refusals : List Refusal
  open_refusals = header_refusals ++ record_refusals

-- ---- the answer

-- the header alone, without a look at the rest
unfoldable pub header : Kind → List ℕ → Opening
header K f = let h = header_in f in ok_unless h (header_refusals K h f)

unfoldable pub opening : Kind → List ℕ → Opening
opening K f = let h = header_in f in ok_unless h (open_refusals K h f)

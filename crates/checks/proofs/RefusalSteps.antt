-- The answer by a table of refusals, row by row: a row that applies is given, any other is passed. Assumes nothing.
use Rattle.std.specs.Prelude.{◌≡◌, refl, Bool, true, false, List, [], ◌∷◌, ℕ, Result, Some, None, Ok, Err}
use Rattle.std.specs.List.{range_with_len, find}
use Rattle.std.proofs.Common.{ap, ◌∙◌}
use Rattle.counting.specs.Below.{any, lowest}
use Rattle.directory.specs.declared.Reason.{Reason}
use Rattle.directory.specs.declared.Refused.{Refused}
use Rattle.directory.specs.Refusals.{Refusal, refused, first, ok_unless}
use Rattle.counting.proofs.RangeLaws.{found_lowest, missed_any}

-- a row that a search decides: some number below n passes, and the lowest gives the place
abbrev pub searched : (ℕ → Bool) → ℕ → Reason → (ℕ → ℕ) → Refusal
searched p n reason place = record { reason = reason; applies = any n p; place = place (lowest n p) }

module _ {A : Type 0} (x : A) where
  pub ok_at_end : Ok x ≡ ok_unless x []
  unfolding first
  ok_at_end = refl

  module _ (row : Refusal) (table : List Refusal) where
    pub row_given : row.applies ≡ true → refused row.reason row.place ≡ ok_unless x (row ∷ table)
    unfolding first
    row_given t = rw t

    pub row_passed : {o : Result A Refused} → row.applies ≡ false → o ≡ ok_unless x table → o ≡ ok_unless x (row ∷ table)
    unfolding first
    row_passed t e = rw t e

    -- by what was said of the row alone
    pub row_refused : {why : Refused} → Err why ≡ ok_unless x (row ∷ []) → Err why ≡ ok_unless x (row ∷ table)
    unfolding first
    row_refused {why} e = go row.applies refl
      where
        go : (b : Bool) → row.applies ≡ b → Err why ≡ ok_unless x (row ∷ table)
        go true t = rw t (rw t at e)
        go false t = let f : Err why ≡ Ok x = rw t at e in cc

    pub row_ok : {o : Result A Refused} → Ok x ≡ ok_unless x (row ∷ []) → o ≡ ok_unless x table → o ≡ ok_unless x (row ∷ table)
    unfolding first
    row_ok {o} e d = go row.applies refl
      where
        go : (b : Bool) → row.applies ≡ b → o ≡ ok_unless x (row ∷ table)
        go true t = let f : Ok x ≡ refused row.reason row.place = rw t at e in cc
        go false t = rw t d

  module _ (p : ℕ → Bool) (n : ℕ) (reason : Reason) (place : ℕ → ℕ) (table : List Refusal) where
    pub found_refused : {l : ℕ} → Some l ≡ find p (range_with_len 0 n) → refused reason (place l) ≡ ok_unless x (searched p n reason place ∷ table)
    found_refused e = let w = found_lowest p n e in ap (λ l. refused reason (place l)) w.1 ∙ row_given (searched p n reason place) table w.0

    pub missed_passed : {o : Result A Refused} → None ≡ find p (range_with_len 0 n) → o ≡ ok_unless x table → o ≡ ok_unless x (searched p n reason place ∷ table)
    missed_passed e = row_passed (searched p n reason place) table (missed_any p n e)

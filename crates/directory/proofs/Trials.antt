-- What a call gives on any input, each a test of the definitions that the contracts cite. Assumes nothing.
use Rattle.std.specs.Prelude.{Bool, List, [], ◌∷◌, ℕ, eqb}
use Rattle.counting.specs.Lists.{same}
use Rattle.directory.specs.Building.{Lent}
use Rattle.directory.specs.Answers.{Opening, built_numbers, opening_numbers, found_numbers}
use Rattle.directory.specs.Calls.{length_of, build_of, buffer_after_of, header_of, open_of, lookup_of, show_part_of, listing_of}
use Rattle.directory.specs.Computing.{computing}

pub data Trial : Type 0 where
  -- building gives this number, place and most codes waiting at once, and leaves this buffer
  answers : Lent → ℕ → ℕ → ℕ → Trial
  leaves : Lent → List ℕ → Trial
  -- the length of the file for n, r and v
  measures : ℕ → ℕ → ℕ → ℕ → Trial
  -- the header of these bytes gives n, r and v, or this number and place
  reads : List ℕ → ℕ → ℕ → ℕ → Trial
  stops : List ℕ → ℕ → ℕ → Trial
  -- opening these bytes gives n, r and v, or this number and place
  opens : List ℕ → ℕ → ℕ → ℕ → Trial
  fails : List ℕ → ℕ → ℕ → Trial
  -- looking a code up in these bytes gives a line, Unknown, or this number and place
  finds : List ℕ → List ℕ → ℕ → Trial
  misses : List ℕ → List ℕ → Trial
  rejects : List ℕ → List ℕ → ℕ → ℕ → Trial
  -- showing a line of these bytes gives the part with this start and size
  shows : List ℕ → ℕ → ℕ → ℕ → Trial
  -- the lister writes this text for these bytes
  prints : List ℕ → List ℕ → Trial

-- n, r and v with the number and place 0, or a refusal's number and place with n, r and v 0
is_open : Opening → ℕ → ℕ → ℕ → Bool
is_open o n r v = let k = opening_numbers o in same (k.0 ∷ k.1 ∷ k.2 ∷ k.3 ∷ k.4 ∷ []) (0 ∷ 0 ∷ n ∷ r ∷ v ∷ [])

is_shut : Opening → ℕ → ℕ → Bool
is_shut o number place = let k = opening_numbers o in same (k.0 ∷ k.1 ∷ k.2 ∷ k.3 ∷ k.4 ∷ []) (number ∷ place ∷ 0 ∷ 0 ∷ 0 ∷ [])

looked : List ℕ → List ℕ → List ℕ
looked f t = let o = found_numbers (lookup_of f t) in o.0 ∷ o.1 ∷ o.2 ∷ o.3 ∷ []

unfoldable pub is_so : Trial → Bool
unfolding is_open is_shut looked computing
is_so (answers I number place most) = let b = built_numbers (build_of I) in same (b.0 ∷ b.1 ∷ b.2 ∷ []) (number ∷ place ∷ most ∷ [])
is_so (leaves I bytes) = same (buffer_after_of I) bytes
is_so (measures n r v size) = eqb (length_of n r v) size
is_so (reads f n r v) = is_open (header_of f) n r v
is_so (stops f number place) = is_shut (header_of f) number place
is_so (opens f n r v) = is_open (open_of f) n r v
is_so (fails f number place) = is_shut (open_of f) number place
is_so (finds f t l) = same (looked f t) (0 ∷ 0 ∷ 0 ∷ l ∷ [])
is_so (misses f t) = same (looked f t) (1 ∷ 0 ∷ 0 ∷ 0 ∷ [])
is_so (rejects f t number place) = same (looked f t) (2 ∷ number ∷ place ∷ 0 ∷ [])
is_so (shows f l start size) = let p = show_part_of f l in same (p.start ∷ p.size ∷ []) (start ∷ size ∷ [])
is_so (prints f text) = same (listing_of f) text

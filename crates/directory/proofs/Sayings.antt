-- What a worked case can say of a build and of the file that it wrote, each a test of the definitions that the contracts cite. Assumes nothing.
use Rattle.std.specs.Prelude.{Ok, Err, Some, None, Bool, true, false, ◌&&◌, List, [], ◌∷◌, ◌++◌, map, ℕ, ◌+◌, eqb, length, take, drop}
use Rattle.counting.specs.Below.{lowest, those}
use Rattle.counting.specs.Lists.{same}
use Rattle.graph.specs.Peeling.{removal_list}
use Rattle.graph.specs.Assignment.{values, landing, assigned_below}
use Rattle.directory.specs.Sizes.{Header, vertex_count, value_bytes, rank_entries}
use Rattle.directory.specs.Bytes.{mark_length}
use Rattle.directory.specs.Kind.{HD, vertex}
use Rattle.directory.specs.Values.{value_in, rank_in}
use Rattle.directory.specs.File.{values_at, weight_in, table_in, header_in}
use Rattle.directory.specs.Building.{Lent, header, code_of, graph, line_of, length_needed, weight}
use Rattle.directory.specs.Answers.{Built, Opening, Found, built_numbers}
use Rattle.directory.specs.Calls.{build_of, buffer_after_of, open_of, lookup_of, show_of, listing_of}
use Rattle.directory.specs.Refusals.{number_of}

pub data Saying : Type 0 where
  -- building is refused with this number and place, and no byte of the buffer changes
  refuses : ℕ → ℕ → Saying
  -- building succeeds: a file of so many bytes stands at the start of the buffer, the bytes after it are unchanged, and it opens with the n, r and v that were lent
  builds : ℕ → Saying
  -- and gives this as the most codes that wait at once
  waits : ℕ → Saying
  -- a code and its vertices
  names : List ℕ → List ℕ → Saying
  -- the codes in the order of their removal
  peels : List (List ℕ) → Saying
  -- the values of the vertices, as assigned and as read from the file
  holds_values : List ℕ → Saying
  -- the bytes of the GV record, and the rank entries
  packs : List ℕ → Saying
  ranks : List ℕ → Saying
  -- a listed code's line: by the method, by looking it up in the file, and by showing that line of the file
  lines : List ℕ → ℕ → Saying
  -- a code that is Unknown in the file
  unknown : List ℕ → Saying
  -- a code's landing vertex by the file's values, and the values of its vertices there
  lands : List ℕ → ℕ → Saying
  meets : List ℕ → List ℕ → Saying
  -- the number of assigned vertices below a code's landing vertex
  passes : List ℕ → ℕ → Saying
  -- the code that a line of the file shows
  shows : ℕ → List ℕ → Saying
  -- what the lister writes, line by line
  prints : List (List ℕ) → Saying

-- ---- the tests

is_done : Built → Bool
is_done (Ok most) = true
is_done (Err why) = false

is_refused : ℕ → ℕ → Built → Bool
is_refused number place (Ok most) = false
is_refused number place (Err why) = eqb (number_of why.reason) number && eqb why.place place

is_opened : Header → Opening → Bool
is_opened h (Ok g) = eqb g.n h.n && eqb g.r h.r && eqb g.v h.v
is_opened h (Err why) = false

is_at : ℕ → Found → Bool
is_at l (Ok (Some k)) = eqb k l
is_at l (Ok None) = false
is_at l (Err why) = false

is_unknown : Found → Bool
is_unknown (Ok (Some l)) = false
is_unknown (Ok None) = true
is_unknown (Err why) = false

-- 0, 1, .. k-1
up_to : ℕ → List ℕ
up_to k = those k (λ i. true)

same_codes : List (List ℕ) → List (List ℕ) → Bool
same_codes [] [] = true
same_codes [] (t ∷ l) = false
same_codes (s ∷ k) [] = false
same_codes (s ∷ k) (t ∷ l) = same s t && same_codes k l

joined : List (List ℕ) → List ℕ
joined [] = []
joined (t ∷ l) = t ++ joined l

-- the file at the start of the buffer afterwards
unfoldable pub written : Lent → List ℕ
written I = take (length_needed HD I) (buffer_after_of I)

-- of code t in file f: its vertices, the values there, and its landing vertex
vertex_in : List ℕ → List ℕ → ℕ → ℕ
vertex_in f t = let h = header_in f in vertex HD h.v (weight_in HD h f) t

value_at : List ℕ → ℕ → ℕ
value_at f = value_in (table_in HD (header_in f) f)

landing_in : List ℕ → List ℕ → ℕ
landing_in f t = landing (header_in f).r (value_at f) (vertex_in f t)

-- whether it is true of what is lent and of the file f that was written
unfoldable pub is_true : Lent → List ℕ → Saying → Bool
unfolding is_done is_refused is_opened is_at is_unknown up_to same_codes joined vertex_in value_at landing_in
is_true I f (refuses number place) = is_refused number place (build_of I) && same (buffer_after_of I) I.buffer
is_true I f (builds size) =
    is_done (build_of I)
    && eqb (length f) size
    && same (drop size (buffer_after_of I)) (drop size I.buffer)
    && eqb (length (buffer_after_of I)) (length I.buffer)
    && is_opened (header HD I) (open_of f)
is_true I f (waits most) = let b = built_numbers (build_of I) in same (b.0 ∷ b.1 ∷ b.2 ∷ []) (0 ∷ 0 ∷ most ∷ [])
is_true I f (names t vertices) = same (map (vertex HD I.v (weight HD I) t) (up_to I.r)) vertices
is_true I f (peels codes) = same_codes (map (code_of HD I) (removal_list (graph HD I))) codes
is_true I f (holds_values list) =
    let all = up_to (vertex_count (header HD I)) in
    same (map (values (graph HD I)) all) list && same (map (value_at f) all) list
is_true I f (packs bytes) = let h = header HD I in same (take (value_bytes h) (drop (values_at HD h + mark_length) f)) bytes
is_true I f (ranks entries) = let h = header HD I in same (map (rank_in h (table_in HD h f)) (up_to (rank_entries h))) entries
is_true I f (lines t l) =
    let k = lowest (length I.ends) (λ k. same (code_of HD I k) t) in
    eqb (line_of HD I k) l && is_at l (lookup_of f t) && same (show_of f l) t
is_true I f (unknown t) = is_unknown (lookup_of f t)
is_true I f (lands t x) = eqb (landing_in f t) x
is_true I f (meets t list) = same (map (λ j. value_at f (vertex_in f t j)) (up_to I.r)) list
is_true I f (passes t k) = eqb (assigned_below I.r (value_at f) (landing_in f t)) k
is_true I f (shows l t) = same (show_of f l) t
is_true I f (prints text) = same (listing_of f) (joined text)

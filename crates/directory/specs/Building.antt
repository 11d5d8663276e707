-- Building: the graph of a code list, the file, the refusals 1 to 8 in their order, the answer and the buffer afterwards. Assumes nothing.
use Rattle.std.specs.Prelude.{◌≡◌, Bool, not, ◌||◌, List, [], ◌∷◌, ◌++◌, ℕ, ◌*◌, eqb, ltb, length, get_or, drop, Ok}
use Rattle.counting.specs.Below.{any, lowest}
use Rattle.graph.specs.Graph.{Graph}
use Rattle.graph.specs.Peeling.{number_left}
use Rattle.graph.specs.Waiting.{most_waiting}
use Rattle.graph.specs.Group.{Group}
use Rattle.graph.specs.Assignment.{values, line, edge_of_line}
use Rattle.directory.specs.Sizes.{Header, arity_allowed, part_allowed, codes_allowed, vertex_count}
use Rattle.directory.specs.Codes.{code, wrong_code, run_missed, repeated}
use Rattle.directory.specs.Kind.{Kind, vertex}
use Rattle.directory.specs.declared.Reason.TheVariants.{WrongArity, WrongPartSize, WrongWeights, TooManyCodes, WrongList, ShortBuffer, RepeatedCode, Cyclic}
use Rattle.directory.specs.Refusals.{Refusal, first, ok_unless}
use Rattle.directory.specs.Answers.{Built}
use Rattle.directory.specs.File.{file, file_length}

-- what is lent
pub record Lent : Type 0 where
  pub run : List ℕ
  pub ends : List ℕ
  pub r : ℕ
  pub v : ℕ
  pub weights : List ℕ
  pub buffer : List ℕ

abbrev pub lent : List ℕ → List ℕ → ℕ → ℕ → List ℕ → List ℕ → Lent
lent run ends r v weights buffer = record { run = run; ends = ends; r = r; v = v; weights = weights; buffer = buffer }

-- an answer of success, whatever number it gives
abbrev pub Succeeds : Built → Type 0
Succeeds b = (most : ℕ) × (b ≡ Ok most)

module _ (K : Kind) (I : Lent) where
  open K use {positions}
  open I use {run, ends, r, v, weights, buffer}

  -- the number of codes is the number of ends
  abbrev pub header : Header
  header = record { n = length ends; r = r; v = v }

  abbrev n : ℕ
  n = length ends

  unfoldable pub weight : ℕ → ℕ
  weight i = get_or weights i 0

  unfoldable pub code_of : ℕ → List ℕ
  code_of k = code run ends k

  -- ---- the graph: code k names its r vertices

  unfoldable pub graph : Graph
  graph = record { edges = n; arity = r; vertices = vertex_count header; vertex_of = λ k j. vertex K v weight (code_of k) j }

  -- the group of demand 3, S k saying whether code k of the list is in it
  abbrev pub GroupOfCodes : (ℕ → Bool) → Type 0
  GroupOfCodes S = Group graph S

  -- ---- the file

  unfoldable pub line_of : ℕ → ℕ
  line_of k = line graph k

  -- the code of line l
  unfoldable pub key : ℕ → List ℕ
  key l = code_of (edge_of_line graph l)

  unfoldable pub file_of : List ℕ
  file_of = file K header weight (values graph) key

  abbrev pub length_needed : ℕ
  length_needed = file_length K header

  -- ---- the answer

  -- 1 to 6, of what is lent
  unfoldable pub lent_refusals : List Refusal
  lent_refusals =
      record { reason = WrongArity; applies = not (arity_allowed r); place = 0 }
      ∷ record { reason = WrongPartSize; applies = not (part_allowed r v); place = 0 }
      ∷ record { reason = WrongWeights; applies = not (eqb (length weights) (positions * r)); place = 0 }
      ∷ record { reason = TooManyCodes; applies = not (codes_allowed n); place = 0 }
      ∷ record { reason = WrongList; applies = any n (wrong_code positions run ends) || run_missed run ends; place = lowest n (wrong_code positions run ends) }
      ∷ record { reason = ShortBuffer; applies = ltb (length buffer) length_needed; place = length_needed }
      ∷ []

  -- 7 and 8, of the codes and of their graph
  abbrev repeated_code : Refusal
  repeated_code = record { reason = RepeatedCode; applies = any n (repeated code_of); place = lowest n (repeated code_of) }

  abbrev cyclic : Refusal
  cyclic = record { reason = Cyclic; applies = not (eqb (number_left graph) 0); place = number_left graph }

  unfoldable pub graph_refusals : List Refusal
  graph_refusals = repeated_code ∷ cyclic ∷ []

  unfoldable pub build_refusals : List Refusal
  build_refusals = lent_refusals ++ graph_refusals

  -- success gives the most codes that wait at once
  unfoldable pub build : Built
  build = ok_unless (most_waiting graph) build_refusals

  -- the buffer afterwards: the file at its start and the bytes after it unchanged; on refusal no byte changes
  unfoldable pub buffer_after : List ℕ
  buffer_after = first (file_of ++ drop length_needed buffer) (λ reason place. buffer) build_refusals

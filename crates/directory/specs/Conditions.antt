-- What building asks for, number by number, and the places of 5, 7 and 8, as facts: document 01, "Numbers given back". Assumes nothing.
use Rattle.std.specs.Prelude.{◌≡◌, ◌⊎◌, ◌≢◌, Bool, ℕ, ◌*◌, ◌≤◌, ◌<◌, length}
use Rattle.graph.specs.Graph.{size}
use Rattle.directory.specs.Sizes.{most_vertices, most_codes}
use Rattle.directory.specs.Codes.{start, Runs}
use Rattle.directory.specs.Kind.{Kind}
use Rattle.directory.specs.Building.{Lent, code_of, graph, GroupOfCodes, length_needed}

module _ (K : Kind) (I : Lent) where
  open K use {positions}
  open I use {run, ends, r, v, weights, buffer}

  -- ---- a build is not refused with this number

  -- 1: r is 2 or 3
  abbrev pub ArityRight : Type 0
  ArityRight = (r ≡ 2) ⊎ (r ≡ 3)

  -- 2: v is not 0, and r·v is at most 4,096
  abbrev pub PartRight : Type 0
  PartRight = (1 ≤ v) × (r * v ≤ most_vertices)

  -- 3: the weights are 32·r in number
  abbrev pub WeightsRight : Type 0
  WeightsRight = length weights ≡ positions * r

  -- 4: at most 1,024 codes
  abbrev pub FewCodes : Type 0
  FewCodes = length ends ≤ most_codes

  -- 5: every code runs within the run and has 1 to 32 bytes, and the last end is the run's length
  abbrev pub ListRight : Type 0
  ListRight = ((k : ℕ) → k < length ends → Runs positions run ends k) × (start ends (length ends) ≡ length run)

  -- 6: the buffer is not shorter than the file
  abbrev pub RoomEnough : Type 0
  RoomEnough = length_needed K I ≤ length buffer

  -- ---- the place is p

  -- 5: the lowest code that does not run so; n where all do, and the last end misses the run's length
  pub record FirstWrong (p : ℕ) : Type 0 where
    pub most : p ≤ length ends
    pub before : (k : ℕ) → k < p → Runs positions run ends k
    pub wrong : p < length ends → Runs positions run ends p → ⊥
    pub missed : p ≡ length ends → start ends (length ends) ≢ length run

  -- 7: the lowest code that equals an earlier one
  pub record FirstRepeated (p : ℕ) : Type 0 where
    pub inside : p < length ends
    pub repeats : (i : ℕ) × (i < p) × (code_of K I i ≡ code_of K I p)
    pub before : (i k : ℕ) → i < k → k < p → code_of K I i ≢ code_of K I k

  -- 8: the size of the largest group; some group has it, and none is larger
  pub record LargestGroup (p : ℕ) : Type 0 where
    pub attained : (S : ℕ → Bool) × GroupOfCodes K I S × (size (graph K I) S ≡ p)
    pub most : (S : ℕ → Bool) → GroupOfCodes K I S → size (graph K I) S ≤ p

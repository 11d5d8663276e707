-- What a build is lent, as facts: all within the limits of document 01, a buffer large enough, and different codes. Assumes nothing.
use Rattle.std.specs.Prelude.{◌≡◌, ◌≢◌, ℕ, ◌*◌, ◌≤◌, ◌<◌, length}
use Rattle.directory.specs.Codes.{start, Runs}
use Rattle.directory.specs.Kind.{Kind}
use Rattle.directory.specs.Building.{Lent, header, code_of, length_needed}
use Rattle.directory.specs.Whole.{Sized}

module _ (K : Kind) (I : Lent) where
  open K use {positions}
  open I use {run, ends, r, weights, buffer}

  -- arity, part size, weights and codes are within the sizes, the last end is the length of the run, and the file fits the buffer
  pub record WithinLimits : Type 0 where
    pub sizes : Sized (header K I)
    pub weighed : length weights ≡ positions * r
    pub codes : (k : ℕ) → k < length ends → Runs positions run ends k
    pub run_ends : start ends (length ends) ≡ length run
    pub room : length_needed K I ≤ length buffer

  -- no code equals an earlier one
  abbrev pub Different : Type 0
  Different = (i k : ℕ) → i < k → k < length ends → code_of K I i ≢ code_of K I k

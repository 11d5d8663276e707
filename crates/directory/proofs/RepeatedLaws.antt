-- Equal codes are a group, so where no code is left over none equals an earlier one. Assumes nothing.
use Rattle.std.specs.Prelude.{◌≡◌, false, ℕ, ◌≤◌, ◌<◌, length}
use Rattle.std.proofs.Math.Path.{ap}
use Rattle.std.proofs.Common.{arith}
use Rattle.counting.specs.Below.{any}
use Rattle.graph.specs.Peeling.{number_left}
use Rattle.graph.proofs.GroupLaws.{twins_left}
use Rattle.directory.specs.Codes.{repeated}
use Rattle.directory.specs.Kind.{Kind, vertex}
use Rattle.directory.specs.Building.{Lent, weight, code_of, graph}
use Rattle.directory.specs.Lending.{Different}
use Rattle.directory.proofs.LendingLaws.{different_back}

module _ (K : Kind) (I : Lent) where
  open I use {ends, v}

  equal_left : (i k : ℕ) → i < k → k < length ends → code_of K I i ≡ code_of K I k → 1 ≤ number_left (graph K I)
  unfolding graph
  equal_left i k l m e = twins_left (graph K I) i k (λ d. omega arith) (omega arith) m (λ j a. ap (λ t. vertex K v (weight K I) t j) e)

  none_equal : number_left (graph K I) ≡ 0 → Different K I
  none_equal z i k l m e = omega (arith, equal_left i k l m e)

  pub none_repeated : number_left (graph K I) ≡ 0 → any (length ends) (repeated (code_of K I)) ≡ false
  none_repeated z = different_back K I (none_equal z)

-- The waiting queue of a build: what ever enters it are different codes, and they are few. Assumes nothing.
use Rattle.std.proofs.Common.{sym, ⊎_elim, arith}
use Rattle.std.specs.Prelude.{◌≢◌, ℕ, ◌≤◌, ◌<◌, length, get_or}
use Rattle.counting.proofs.TestLaws.{lt?}
use Rattle.counting.proofs.OccurrenceLaws.{occurrences-get_or, occurrences_apart}
use Rattle.graph.specs.Run.{ever_waiting}
use Rattle.graph.proofs.PeelingLaws.{ever_waiting_once, ever_waiting_edges, ever_waiting_most}
use Rattle.directory.specs.Sizes.{most_codes}
use Rattle.directory.specs.Kind.{Kind}
use Rattle.directory.specs.Building.{Lent, code_of, graph}
use Rattle.directory.specs.Lending.{WithinLimits, Different}

module _ (K : Kind) (I : Lent) where
  -- the code that enters it after i others
  abbrev entering : ℕ → ℕ
  entering i = get_or (ever_waiting (graph K I)) i 0

  entering-below : (i : ℕ) → i < length (ever_waiting (graph K I)) → entering i < length I.ends
  unfolding graph
  entering-below i l = ever_waiting_edges (graph K I) _ (occurrences-get_or (ever_waiting (graph K I)) i l)

  pub waiting_different : Different K I → (i k : ℕ) → i < k → k < length (ever_waiting (graph K I)) → code_of K I (entering i) ≢ code_of K I (entering k)
  waiting_different d i k l m e =
      ⊎_elim
      (λ (b : entering i < entering k). d (entering i) (entering k) b (entering-below k m) e)
      (λ (b : entering k ≤ entering i). d (entering k) (entering i) (omega (arith, b, apart)) (entering-below i (omega arith)) (sym e))
      (lt? (entering i) (entering k))
    where
      apart : entering i ≢ entering k
      apart = occurrences_apart (ever_waiting (graph K I)) (ever_waiting_once (graph K I)) i k l m

  pub waiting_places : WithinLimits K I → length (ever_waiting (graph K I)) ≤ most_codes
  unfolding graph
  waiting_places w = omega (arith, ever_waiting_most (graph K I), w.sizes.few)

-- The run of the peeling, moment by moment: what is removed and what waits, and which edges ever joined the queue. Assumes nothing.
use Rattle.std.specs.Prelude.{List, [], ◌∷◌, ◌++◌, ℕ, zero, suc, length, drop}
use Rattle.graph.specs.Graph.{Graph}
use Rattle.graph.specs.Peeling.{first_waiting, follow_all}

-- a moment of the run: so much is removed, and these wait
pub data Reached (G : Graph) : List ℕ → List ℕ → Type 0 where
  start : Reached G [] (first_waiting G)
  step : {removed : List ℕ} {front : ℕ} {waiting : List ℕ}
      → Reached G removed (front ∷ waiting)
      → Reached G (removed ++ front ∷ []) (follow_all G (removed ++ front ∷ []) front G.arity waiting)

module _ (G : Graph) where
  open G use {edges, arity}

  -- the edges that join the queue in the next k steps, in the order in which they join: after each step what stands behind those that waited before it
  unfoldable pub joining : ℕ → List ℕ → List ℕ → List ℕ
  joining zero removed waiting = []
  joining (suc k) removed [] = []
  joining (suc k) removed (front ∷ waiting) =
      let removed' = removed ++ front ∷ [] in
      let waiting' = follow_all G removed' front arity waiting in
      drop (length waiting) waiting' ++ joining k removed' waiting'

  -- all that ever waited in the whole run
  unfoldable pub ever_waiting : List ℕ
  ever_waiting = first_waiting G ++ joining edges [] (first_waiting G)

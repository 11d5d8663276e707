-- The most edges that wait at once: document 02, request b. Assumes nothing.
use Rattle.std.specs.Prelude.{◌≡◌, List, [], ◌∷◌, ◌++◌, ℕ, zero, suc, ◌≤◌, length}
use Rattle.counting.specs.Larger.{larger}
use Rattle.graph.specs.Graph.{Graph}
use Rattle.graph.specs.Peeling.{first_waiting, follow_all}
use Rattle.graph.specs.Run.{Reached}

module _ (G : Graph) where
  open G use {edges, arity}

  -- the most that wait now or after any of the next k steps; a step takes the front edge and lets those that follow it join
  unfoldable pub most_from : ℕ → List ℕ → List ℕ → ℕ
  most_from zero removed waiting = length waiting
  most_from (suc k) removed [] = 0
  most_from (suc k) removed (front ∷ waiting) =
      let removed' = removed ++ front ∷ [] in
      larger (length (front ∷ waiting)) (most_from k removed' (follow_all G removed' front arity waiting))

  -- the most that wait at once, counted after the start and after each step
  unfoldable pub most_waiting : ℕ
  most_waiting = most_from edges [] (first_waiting G)

  -- at some moment of the run so many wait
  abbrev pub SoManyWait : ℕ → Type 0
  SoManyWait many = (removed : List ℕ) × (waiting : List ℕ) × Reached G removed waiting × (length waiting ≡ many)

  -- a count that is kept from step to step has come to `most`, with k steps to go
  pub record Counted (k : ℕ) (removed waiting : List ℕ) (most : ℕ) : Type 0 where
    pub now : length waiting ≤ most
    pub rest : larger most (most_from k removed waiting) ≡ most_waiting

-- The most edges that wait at once: no moment of the run has more, some moment has as many, and a count that is kept from step to step comes to it. Assumes nothing.
use Rattle.std.specs.Prelude.{◌≡◌, length}
use Rattle.std.proofs.Math.Path.{refl, sym}
use Rattle.std.proofs.Common.{◌∙◌}
use Rattle.std.proofs.Math.Logic.{⊎_elim}
use mathlib.Core.List.{List, [], ◌∷◌, ◌++◌}
use Prim.Native.Nat.{ℕ, zero, suc, ◌+◌, ◌-◌, ◌≤◌}
use native.Mathlib.Omega.{arith}
use Rattle.std.proofs.Math.ListN.{length-append}
use Rattle.counting.specs.Larger.{larger}
use Rattle.counting.proofs.LargerLaws.{larger-first, larger_second, larger_either, larger-both, larger_of_two}
use Rattle.graph.specs.Graph.{Graph}
use Rattle.graph.specs.Peeling.{first_waiting, follow_all}
use Rattle.graph.specs.Run.{Reached, start, step}
use Rattle.graph.specs.Waiting.{most_from, most_waiting, SoManyWait, Counted}
use Rattle.graph.proofs.PeelingLaws.{reached_room}

module _ (G : Graph) where
  open G use {edges, arity}

  -- ---- from a moment on

  from_now : (k : ℕ) (removed waiting : List ℕ) → length waiting ≤ most_from G k removed waiting
  unfolding most_from
  from_now zero removed waiting = omega arith
  from_now (suc k) removed [] = omega arith
  from_now (suc k) removed (front ∷ waiting) = (larger-both (length (front ∷ waiting)) _).0

  from_none : (k : ℕ) (removed : List ℕ) → most_from G k removed [] ≡ 0
  unfolding most_from
  from_none zero removed = refl
  from_none (suc k) removed = refl

  from_attained : (k : ℕ) {removed waiting : List ℕ} → Reached G removed waiting → SoManyWait G (most_from G k removed waiting)
  unfolding most_from
  from_attained zero r = (_, _, r, refl)
  from_attained (suc k) {waiting = []} r = (_, _, r, refl)
  from_attained (suc k) {waiting = (front ∷ waiting)} r =
      ⊎_elim
      (λ h. (_, _, r, sym h))
      (λ h. let m = from_attained k (step r) in (m.0, m.1, m.2, m.3 ∙ sym h))
      (larger_either (length (front ∷ waiting)) _)

  -- the further the moment, the less there is to come
  from_reached : {removed waiting : List ℕ} → Reached G removed waiting → (k : ℕ) → length removed + k ≡ edges → most_from G k removed waiting ≤ most_waiting G
  unfolding most_from most_waiting
  from_reached start k e = let i : k ≡ edges = omega (arith, e) in rw i (omega arith)
  from_reached (step {removed} {front} {waiting} r) k e =
      let all = from_reached r (suc k) (omega (arith, length-append removed (front ∷ []))) in
      omega (arith, all, (larger-both (length (front ∷ waiting)) (most_from G k (removed ++ front ∷ []) (follow_all G (removed ++ front ∷ []) front arity waiting))).1)

  -- ---- in the whole run

  -- no more wait at any moment
  pub most_bound : {removed waiting : List ℕ} → Reached G removed waiting → length waiting ≤ most_waiting G
  most_bound {removed} {waiting} r =
      let k = edges - length removed in
      omega (arith, from_now k removed waiting, from_reached r k (omega (arith, reached_room G r)))

  -- and so many do at some moment
  pub most_attained : SoManyWait G (most_waiting G)
  unfolding most_waiting
  most_attained = from_attained edges start

  -- they are at most as many as there are edges
  pub most_edges : most_waiting G ≤ edges
  most_edges = omega (arith, most_attained.3, reached_room G most_attained.2)

  -- ---- a count that is kept from step to step

  pub counted_start : Counted G edges [] (first_waiting G) (length (first_waiting G))
  unfolding most_waiting
  counted_start = record { now = omega arith; rest = larger_second _ _ (from_now edges [] (first_waiting G)) }

  pub counted_step : {k : ℕ} {removed : List ℕ} {front : ℕ} {waiting : List ℕ} {most : ℕ} → Counted G (suc k) removed (front ∷ waiting) most → let waiting' = follow_all G (removed ++ front ∷ []) front arity waiting in Counted G k (removed ++ front ∷ []) waiting' (larger most (length waiting'))
  unfolding most_from
  counted_step {k} {removed} {front} {waiting} {most} c =
      let removed' = removed ++ front ∷ [] in
      let waiting' = follow_all G removed' front arity waiting in
      record { now = (larger-both most (length waiting')).1; rest = larger_of_two most _ _ _ (from_now k removed' waiting') c.now ∙ c.rest }

  pub counted-end : {k : ℕ} {removed : List ℕ} {most : ℕ} → Counted G k removed [] most → most ≡ most_waiting G
  counted-end {k} {removed} {most} c = sym (larger-first most _ (omega (arith, from_none k removed))) ∙ c.rest

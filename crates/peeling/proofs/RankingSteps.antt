-- One turn of ranking the vertices: the rank entry where a block starts, and the place of what is noted at an assigned vertex. Assumes nothing.
-- W, N, R and K stand for the arrays of values, of edges noted, of rank entries and of keys.
use Rattle.std.specs.Prelude.{◌≡◌, ◌≢◌, List, ℕ, ◌+◌, ◌*◌, ◌/◌, ◌%◌, ◌≤◌, ◌<◌, length, get_or, set}
use Rattle.std.proofs.Common.{◌∙◌, get_or-set_same, get_or-set_other, below_more, ne_eqb, eq-eqb, ⊎_elim}
use Rattle.std.proofs.Math.Path.{ap}
use native.Mathlib.Omega.{arith}
use Rattle.counting.proofs.TestLaws.{eq?}
use Rattle.counting.proofs.CountLaws.{count_in, count_out, count_most, rank_less}
use Rattle.counting.specs.Holds.{Holds}
use Rattle.counting.proofs.HoldsLaws.{holds_more}
use Rattle.graph.specs.Assignment.{assigned, assigned_below, block_size, blocks, rank_entry}
use Rattle.peeling.specs.Ranking.{Placed, Keyed}

-- ---- how many are assigned below a vertex

module _ (r : ℕ) (value : ℕ → ℕ) (y : ℕ) where
  pub assigned_most : assigned_below r value y ≤ y
  unfolding assigned_below
  assigned_most = count_most y (λ x. assigned r (value x))

  pub assigned_counts : value y ≢ r → assigned_below r value (y + 1) ≡ assigned_below r value y + 1
  unfolding assigned_below
  assigned_counts d = count_in y (λ x. assigned r (value x)) (rw (ne_eqb (value y) r d))

  pub unassigned_counts_not : value y ≡ r → assigned_below r value (y + 1) ≡ assigned_below r value y
  unfolding assigned_below
  unassigned_counts_not i = count_out y (λ x. assigned r (value x)) (rw (eq-eqb (value y) r i))

  -- by the value: an assigned vertex is counted
  pub counts_next : {count count' : ℕ} → count ≡ assigned_below r value y → (value y ≢ r → count' ≡ count + 1) → (value y ≡ r → count' ≡ count) → count' ≡ assigned_below r value (y + 1)
  counts_next c more same =
      ⊎_elim
      (λ (i : value y ≡ r). omega (arith, same i, unassigned_counts_not i))
      (λ (d : value y ≢ r). omega (arith, more d, assigned_counts d))
      (eq? (value y) r)

  pub assigned-below : value y ≢ r → (k : ℕ) → y < k → assigned_below r value y < assigned_below r value k
  unfolding assigned_below
  assigned-below d k l = rank_less k (λ x. assigned r (value x)) y l (rw (ne_eqb (value y) r d))

-- ---- the rank entries

-- a block starts below the number of vertices
pub block_start : (m b : ℕ) → b < blocks m → block_size * b < m
block_start m b l = omega arith

module _ (r : ℕ) (value : ℕ → ℕ) (x : ℕ) (R : List ℕ) (h : Holds (blocks x) (rank_entry r value) R) where
  pub ranks_more : {count : ℕ} → count ≡ assigned_below r value x → x % block_size ≡ 0 → x / block_size < length R → Holds (blocks (x + 1)) (rank_entry r value) (set R (x / block_size) count)
  unfolding rank_entry
  ranks_more c z l =
      let here : blocks x ≡ x / block_size = omega arith in
      let next : blocks (x + 1) ≡ x / block_size + 1 = omega arith in
      let first : x ≡ block_size * (x / block_size) = omega arith in
      rw next (holds_more (x / block_size) (rank_entry r value) R _ (rw here at h) l (c ∙ ap (assigned_below r value) first))

  pub ranks_same : x % block_size ≢ 0 → Holds (blocks (x + 1)) (rank_entry r value) R
  ranks_same d = let next : blocks (x + 1) ≡ blocks x = omega arith in rw next h

-- ---- the keys

module _ {r : ℕ} {W N R K : List ℕ} (p : Placed r W N R K) {x : ℕ} (l : x < length W) where
  abbrev below : ℕ → ℕ
  below = assigned_below r (λ i. get_or W i 0)

  pub key-place : get_or W x 0 ≢ r → below x < length K
  key-place d = omega (arith, assigned-below r (λ i. get_or W i 0) x d (length W) l, p.room)

  module _ (K' : List ℕ) (same : length K' ≡ length K) (k : Keyed x r W N K') where
    pub keys_more : {count : ℕ} → count ≡ below x → get_or W x 0 ≢ r → Keyed (x + 1) r W N (set K' count (get_or N x 0))
    keys_more c d =
        rw c
        (below_more _ x
        (λ y m a. get_or-set_other K' (below x) (below y) _ 0 (λ i. omega (arith, i, assigned-below r (λ i. get_or W i 0) y a x m)) ∙ k y m a)
        (λ a. get_or-set_same K' (below x) _ 0 (omega (arith, key-place d))))

    pub keys_same : get_or W x 0 ≡ r → Keyed (x + 1) r W N K'
    keys_same i = below_more _ x k (λ d. absurd (d i))

    -- by the value: what is noted at an assigned vertex gets its place
    pub keys_next : {count : ℕ} {K″ : List ℕ} → count ≡ below x → (get_or W x 0 ≢ r → K″ ≡ set K' count (get_or N x 0)) → (get_or W x 0 ≡ r → K″ ≡ K') → Keyed (x + 1) r W N K″
    keys_next c more same =
        ⊎_elim
        (λ (i : get_or W x 0 ≡ r). rw (same i) (keys_same i))
        (λ (d : get_or W x 0 ≢ r). rw (more d) (keys_more c d))
        (eq? (get_or W x 0) r)

-- The records GV and RK, of any bytes T from the mark of GV on: the refusals 12 and 13 as facts, and the line that right rank entries give. Assumes nothing.
use Rattle.std.specs.Prelude.{◌≡◌, true, ℕ, ◌+◌, ◌-◌, ◌*◌, ◌/◌, ◌%◌, ◌≤◌, ◌<◌}
use Rattle.std.proofs.Math.Path.{sym, ap}
use Rattle.std.proofs.Common.{◌∙◌, arith}
use Rattle.std.proofs.Math.Bool.{not}
use borrow.Author.Tests.{ltb-false, le-ltb, eqb-true, eq-eqb, not-false}
use Rattle.counting.proofs.TestLaws.{or_neither, or_neither_second, or_none}
use Rattle.counting.specs.Below.{count, any}
use Rattle.counting.proofs.CountLaws.{rank_less}
use Rattle.counting.proofs.SearchLaws.{any_none, any_false}
use Rattle.graph.proofs.RankLaws.{below_block}
use Rattle.graph.specs.Assignment.{assigned, assigned_below, block_size, rank_entry}
use Rattle.directory.specs.Sizes.{Header, vertex_count, value_bytes, rank_entries}
use Rattle.directory.specs.Refusals.{NoneApplies}
use Rattle.directory.specs.Values.{value_in, rank_in, value_over, spare_set, rank_wrong, total_wrong, table_refusals, line_in}

module _ (h : Header) (T : ℕ → ℕ) where
  open h use {n, r}

  -- ---- neither 12 nor 13 applies

  module _ (none : NoneApplies (table_refusals h T)) where
    pub values_most : (x : ℕ) → x < vertex_count h → value_in T x ≤ r
    unfolding table_refusals value_over
    values_most x l = ltb-false _ _ (any_false (vertex_count h) (value_over h T) (or_neither (any (vertex_count h) (value_over h T)) (spare_set h T) none.0) x l)

    pub spare_zero_lem : (i : ℕ) → i < 4 * value_bytes h - vertex_count h → value_in T (vertex_count h + i) ≡ 0
    unfolding table_refusals spare_set
    spare_zero_lem i l = eqb-true _ 0 (not-false _ (any_false _ _ (or_neither_second (any (vertex_count h) (value_over h T)) _ none.0) i l))

    pub ranks_right : (b : ℕ) → b < rank_entries h → rank_in h T b ≡ rank_entry r (value_in T) b
    unfolding table_refusals rank_wrong
    ranks_right b l = eqb-true _ _ (not-false _ (any_false (rank_entries h) (rank_wrong h T) (or_neither (any (rank_entries h) (rank_wrong h T)) (total_wrong h T) none.1.0) b l))

    pub total_right : assigned_below r (value_in T) (vertex_count h) ≡ n
    unfolding table_refusals total_wrong
    total_right = eqb-true _ _ (not-false _ (or_neither_second (any (rank_entries h) (rank_wrong h T)) _ none.1.0))

  -- and back
  module _
      (values : (x : ℕ) → x < vertex_count h → value_in T x ≤ r)
      (spare : (i : ℕ) → i < 4 * value_bytes h - vertex_count h → value_in T (vertex_count h + i) ≡ 0)
      (ranks : (b : ℕ) → b < rank_entries h → rank_in h T b ≡ rank_entry r (value_in T) b)
      (total : assigned_below r (value_in T) (vertex_count h) ≡ n)
    where
      pub table_none : NoneApplies (table_refusals h T)
      unfolding table_refusals value_over spare_set rank_wrong total_wrong
      table_none = (
        or_none (any_none (vertex_count h) _ (λ x l. le-ltb _ _ (values x l))) (any_none _ _ (λ i l. ap not (eq-eqb _ _ (spare i l)))),
        (or_none (any_none (rank_entries h) _ (λ b l. ap not (eq-eqb _ _ (ranks b l)))) (ap not (eq-eqb _ _ total)), tt),
      )

  -- ---- the line of a vertex

  -- with right rank entries the line that looking up computes is the number of assigned vertices below, ..
  pub line-below : ((b : ℕ) → b < rank_entries h → rank_in h T b ≡ rank_entry r (value_in T) b) → (y : ℕ) → y < vertex_count h → line_in h T y ≡ assigned_below r (value_in T) y
  unfolding line_in
  line-below ranks y l = ap (λ k. k + count (y % block_size) (λ i. assigned r (value_in T (block_size * (y / block_size) + i)))) (ranks (y / block_size) (omega arith)) ∙ sym (below_block r (value_in T) y)

  -- .. which is below n where the vertex is assigned and n are in all
  pub line_few : assigned_below r (value_in T) (vertex_count h) ≡ n → (y : ℕ) → y < vertex_count h → assigned r (value_in T y) ≡ true → assigned_below r (value_in T) y < n
  unfolding assigned_below
  line_few total y l t = rw (← total) (rank_less (vertex_count h) (λ x. assigned r (value_in T x)) y l t)

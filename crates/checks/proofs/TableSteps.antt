-- The values, the spare bits, the rank entries and the total: the answer by what was found. Assumes nothing.
use Rattle.std.specs.Prelude.{◌≡◌, ◌≢◌, not, true, false, ◌||◌, List, ℕ, ◌+◌, ◌*◌, Result, Option, Some, None, Ok}
use Rattle.std.specs.List.{range_with_len, find}
use Rattle.std.proofs.Common.{sym, ap, ◌∙◌, arith, eq-eqb, ne_eqb, zero-add}
use Rattle.counting.proofs.TestLaws.{or_second, or_none}
use Rattle.counting.specs.Below.{bit, count, any}
use Rattle.counting.proofs.BelowLaws.{sum_none, sum_split}
use Rattle.graph.specs.Assignment.{assigned, assigned_below, block_size, rank_entry}
use Rattle.directory.specs.declared.Refused.{Refused}
use Rattle.directory.specs.declared.Reason.TheVariants.{WrongValue, WrongRank}
use Rattle.directory.specs.Sizes.{Header, vertex_count, rank_entries}
use Rattle.directory.specs.Kind.{HD}
use Rattle.directory.specs.Values.{value_in, rank_in, value_over, spare_set, rank_wrong, total_wrong, table_refusals}
use Rattle.directory.specs.File.{weights_at, values_at, table_in}
use Rattle.directory.specs.Refusals.{refused, ok_unless}
use Rattle.records.specs.Standing.{bytes_from, values_from}
use Rattle.counting.proofs.RangeLaws.{found_lowest, missed_any, missed_lowest}
use Rattle.checks.proofs.RefusalSteps.{ok_at_end, row_given, row_passed}

-- ---- rank entries, of any values

module _ (r : ℕ) (value : ℕ → ℕ) where
  pub rank_none : rank_entry r value 0 ≡ 0
  unfolding rank_entry assigned_below
  rank_none = sum_none (λ x. bit (assigned r (value x)))

  -- the next entry counts the block too
  pub rank_next : (b : ℕ) → rank_entry r value (b + 1) ≡ rank_entry r value b + count block_size (λ i. assigned r (value (block_size * b + i)))
  unfolding rank_entry assigned_below
  rank_next b = let e : block_size * (b + 1) ≡ block_size * b + block_size = omega arith in ap (assigned_below r value) e ∙ sum_split (block_size * b) block_size (λ x. bit (assigned r (value x)))

  pub below_from_none : (m : ℕ) → count m (λ i. assigned r (value (0 + i))) ≡ assigned_below r value m
  unfolding assigned_below
  below_from_none m = simp zero-add

module _ (h : Header) (f : List ℕ) where
  abbrev T : ℕ → ℕ
  T = table_in HD h f

  -- the assigned values are counted where they stand
  pub counted_there : (at k from c : ℕ) → at ≡ values_from h.r → c ≡ count k (λ i. assigned h.r (value_in (bytes_from f at) (from + i))) → c ≡ count k (λ i. assigned h.r (value_in T (from + i)))
  unfolding table_in values_at weights_at
  counted_there at k from c i e = e ∙ ap (λ a. count k (λ j. assigned h.r (value_in (bytes_from f a) (from + j)))) i

  pub rank_is_wrong : (b : ℕ) → rank_in h T b ≢ rank_entry h.r (value_in T) b → rank_wrong h T b ≡ true
  unfolding rank_wrong
  rank_is_wrong b d = ap not (ne_eqb _ _ d)

  pub rank_is_right : (b : ℕ) → rank_in h T b ≡ rank_entry h.r (value_in T) b → rank_wrong h T b ≡ false
  unfolding rank_wrong
  rank_is_right b e = ap not (eq-eqb _ _ e)

  -- ---- the answer

  abbrev answer : Result Unit Refused
  answer = ok_unless tt (table_refusals h T)

  abbrev over_found : Option ℕ
  over_found = find (value_over h T) (range_with_len 0 (vertex_count h))

  abbrev wrong_found : Option ℕ
  wrong_found = find (rank_wrong h T) (range_with_len 0 (rank_entries h))

  pub value_refused : {x : ℕ} → Some x ≡ over_found → refused WrongValue x ≡ answer
  unfolding table_refusals
  value_refused e = let w = found_lowest (value_over h T) _ e in ap (λ x. refused WrongValue x) w.1 ∙ row_given tt _ _ (rw w.0)

  module _ (none_over : None ≡ over_found) where
    pub spare_refused : true ≡ spare_set h T → refused WrongValue (vertex_count h) ≡ answer
    unfolding table_refusals
    spare_refused t = ap (λ x. refused WrongValue x) (missed_lowest (value_over h T) _ none_over) ∙ row_given tt _ _ (or_second (any (vertex_count h) (value_over h T)) _ (sym t))

    module _ (spare : false ≡ spare_set h T) where
      values_right : any (vertex_count h) (value_over h T) || spare_set h T ≡ false
      values_right = or_none (missed_any (value_over h T) _ none_over) (sym spare)

      pub rank_refused : {b : ℕ} → Some b ≡ wrong_found → refused WrongRank b ≡ answer
      unfolding table_refusals
      rank_refused e = let w = found_lowest (rank_wrong h T) _ e in ap (λ b. refused WrongRank b) w.1 ∙ row_passed tt _ _ values_right (row_given tt _ _ (rw w.0))

      module _ (none_wrong : None ≡ wrong_found) (c : ℕ) (e : c ≡ assigned_below h.r (value_in T) (vertex_count h)) where
        pub total_refused : c ≢ h.n → refused WrongRank (rank_entries h) ≡ answer
        unfolding table_refusals total_wrong
        total_refused d =
            ap (λ b. refused WrongRank b) (missed_lowest (rank_wrong h T) _ none_wrong)
            ∙ row_passed tt _ _ values_right (row_given tt _ _ (or_second (any (rank_entries h) (rank_wrong h T)) _ (rw (← e) (ap not (ne_eqb c h.n d)))))

        pub table_passed : c ≡ h.n → Ok tt ≡ answer
        unfolding table_refusals total_wrong
        table_passed d = row_passed tt _ _ values_right (row_passed tt _ _ (or_none (missed_any (rank_wrong h T) _ none_wrong) (rw (← e) (ap not (eq-eqb c h.n d)))) (ok_at_end tt))

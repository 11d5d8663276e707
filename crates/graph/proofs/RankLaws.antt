-- Landing vertices, counts and rank entries by any values: values that agree give the same, and the rank entry of a block tells what stands below it. Assumes nothing.
use Rattle.std.specs.Prelude.{◌≡◌, ℕ, ◌+◌, ◌*◌, ◌/◌, ◌%◌, ◌≤◌, ◌<◌}
use Rattle.std.proofs.Common.{sym, ap, ◌∙◌, mod-lt}
use Rattle.std.proofs.Math.Nat.{div-add-mod}
use Rattle.counting.specs.Below.{bit, count}
use Rattle.counting.proofs.BelowLaws.{sum_equal, sum_split}
use Rattle.graph.specs.Assignment.{assigned, landing, assigned_below, block_size, rank_entry}

-- edges with the same r vertices, by values that agree on them
pub landing_equal : (r : ℕ) (value stored vertex named : ℕ → ℕ) → 1 ≤ r → ((j : ℕ) → j < r → vertex j ≡ named j) → ((j : ℕ) → j < r → value (named j) ≡ stored (named j)) → landing r value vertex ≡ landing r stored named
unfolding landing
landing_equal r value stored vertex named some vertices values =
    vertices _ (mod-lt _ some) ∙ ap (λ s. named (s % r)) (sum_equal r (λ j. value (vertex j)) (λ j. stored (named j)) (λ j l. ap value (vertices j l) ∙ values j l))

pub below_equal : (r : ℕ) (value stored : ℕ → ℕ) (y : ℕ) → ((x : ℕ) → x < y → value x ≡ stored x) → assigned_below r value y ≡ assigned_below r stored y
unfolding assigned_below
below_equal r value stored y same = sum_equal y _ _ (λ x l. ap (λ k. bit (assigned r k)) (same x l))

-- as many stand below y as below its block, and from there on
pub below_block : (r : ℕ) (value : ℕ → ℕ) (y : ℕ) → assigned_below r value y ≡ rank_entry r value (y / block_size) + count (y % block_size) (λ i. assigned r (value (block_size * (y / block_size) + i)))
unfolding assigned_below rank_entry
below_block r value y = ap (assigned_below r value) (sym (div-add-mod y block_size)) ∙ sum_split (block_size * (y / block_size)) (y % block_size) (λ x. bit (assigned r (value x)))

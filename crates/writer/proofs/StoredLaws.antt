-- How long stored numbers and values are, and that under their mark they are the record WT, GV or RK. Assumes nothing.
use Rattle.std.specs.Prelude.{◌≡◌, refl, List, [], ◌∷◌, ℕ, ◌+◌, ◌*◌, ◌/◌, length, get_or}
use Rattle.std.proofs.Common.{ap, arith}
use Rattle.counting.specs.Lists.{each}
use Rattle.counting.specs.Holds.{Holds}
use Rattle.counting.proofs.EachLaws.{each_equal, length-each}
use Rattle.graph.specs.Assignment.{rank_entry}
use Rattle.directory.specs.Sizes.{Header, vertex_count, rank_entries}
use Rattle.directory.specs.Bytes.{two, WT, GV, RK, under}
use Rattle.directory.specs.Kind.{HD}
use Rattle.directory.specs.Values.{value_record, rank_record}
use Rattle.directory.specs.File.{weight_record}
use Rattle.writer.specs.Stored.{twos, byte_of, fours}

-- the first k numbers, and all
pub twos_before : (k : ℕ) (x : ℕ → ℕ) → length (each k (λ i. two (x i))) ≡ 2 * k
twos_before k x = length-each 2 k (λ i. two (x i)) (λ i l. refl)

pub twos_length : (numbers : List ℕ) → length (twos numbers) ≡ 2 * length numbers
unfolding twos
twos_length numbers = twos_before (length numbers) (λ i. get_or numbers i 0)

-- the first k bytes of the values, and all
pub fours_before : (k : ℕ) (b : ℕ → ℕ) → length (each k (λ i. b i ∷ [])) ≡ k
fours_before k b = omega (arith, length-each 1 k (λ i. b i ∷ []) (λ i l. refl))

pub fours_length : (values : List ℕ) → length (fours values) ≡ (length values + 3) / 4
unfolding fours
fours_length values = fours_before ((length values + 3) / 4) (byte_of values)

module _ (h : Header) where
  pub weights_recorded : (weights : List ℕ) → length weights ≡ HD.positions * h.r → under WT (twos weights) ≡ weight_record HD h (λ i. get_or weights i 0)
  unfolding twos weight_record
  weights_recorded weights long = rw long

  pub values_recorded : (values : List ℕ) → length values ≡ vertex_count h → under GV (fours values) ≡ value_record h (λ x. get_or values x 0)
  unfolding fours value_record
  values_recorded values long = rw long

  pub ranks_recorded : (value : ℕ → ℕ) (rank : List ℕ) → length rank ≡ rank_entries h → Holds (rank_entries h) (rank_entry h.r value) rank → under RK (twos rank) ≡ rank_record h value
  unfolding twos rank_record
  ranks_recorded value rank long holds = rw long (ap (under RK) (each_equal (rank_entries h) _ _ (λ b l. ap two (holds b l))))

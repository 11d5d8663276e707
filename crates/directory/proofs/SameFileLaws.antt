-- Files are equal where their weights, values and codes are: what these are past the last does not matter. Assumes nothing.
use Rattle.std.specs.Prelude.{◌≡◌, List, [], ◌∷◌, ℕ, ◌*◌, ◌≤◌, ◌<◌}
use Rattle.std.proofs.Math.Path.{ap}
use Rattle.std.proofs.Math.Logic.{⊎_elim}
use Rattle.std.proofs.Common.{arith, lt-ltb, le-ltb}
use Rattle.counting.proofs.TestLaws.{lt?}
use Rattle.counting.proofs.EachLaws.{each_equal}
use Rattle.graph.specs.Assignment.{block_size, rank_entry}
use Rattle.graph.proofs.RankLaws.{below_equal}
use Rattle.directory.specs.Sizes.{Header, vertex_count, value_bytes, rank_entries}
use Rattle.directory.specs.Kind.{Kind}
use Rattle.directory.specs.Bytes.{two}
use Rattle.directory.specs.Values.{packed, spare_zero, value_record, rank_record, table_records}
use Rattle.directory.specs.File.{weight_record, key_record, file}

module _ (h : Header) (value stored : ℕ → ℕ) (equal : (x : ℕ) → x < vertex_count h → value x ≡ stored x) where
  open h use {r}

  abbrev m : ℕ
  m = vertex_count h

  spare_equal : (x : ℕ) → spare_zero m value x ≡ spare_zero m stored x
  unfolding spare_zero
  spare_equal x = ⊎_elim (λ (l : x < m). rw (lt-ltb x m l) (equal x l)) (λ (l : m ≤ x). rw (le-ltb x m l)) (lt? x m)

  packed_equal : (b : ℕ) → packed (spare_zero m value) b ≡ packed (spare_zero m stored) b
  unfolding packed
  packed_equal b = rw (spare_equal (4 * b), spare_equal _, spare_equal _, spare_equal _)

  rank_equal : (b : ℕ) → b < rank_entries h → rank_entry r value b ≡ rank_entry r stored b
  unfolding rank_entry
  rank_equal b l = below_equal r value stored (block_size * b) (λ x a. equal x (omega arith))

  same-table : table_records h value ≡ table_records h stored
  unfolding table_records value_record rank_record
  same-table = rw (each_equal (value_bytes h) _ (λ b. packed (spare_zero m stored) b ∷ []) (λ b l. ap (λ x. x ∷ []) (packed_equal b)), each_equal (rank_entries h) _ (λ b. two (rank_entry r stored b)) (λ b l. ap two (rank_equal b l)))

module _ (K : Kind) (h : Header) where
  open K use {positions}
  open h use {n, r}

  pub same-file : (weight lent value stored : ℕ → ℕ) (key code : ℕ → List ℕ) → ((i : ℕ) → i < positions * r → weight i ≡ lent i) → ((x : ℕ) → x < vertex_count h → value x ≡ stored x) → ((l : ℕ) → l < n → key l ≡ code l) → file K h weight value key ≡ file K h lent stored code
  unfolding file weight_record
  same-file weight lent value stored key code w x k =
      rw (each_equal (positions * r) _ (λ i. two (lent i)) (λ i l. ap two (w i l)), same-table h value stored x, each_equal n _ (λ l. key_record K h (code l)) (λ l m. ap (key_record K h) (k l m)))

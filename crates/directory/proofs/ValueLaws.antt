-- What is written is read back, of the records GV and RK: each value, the spare bits and each rank entry. Assumes nothing.
use Rattle.std.specs.Prelude.{◌≡◌, Bool, [], ◌∷◌, ℕ, zero, suc, ◌+◌, ◌-◌, ◌*◌, ◌/◌, ◌%◌, ◌^◌, ◌≤◌, ◌<◌, length}
use Rattle.std.proofs.Math.Path.{refl, ap}
use Rattle.std.proofs.Common.{◌∙◌, add-zero, lt-ltb, le-ltb, ltb-true}
use Rattle.std.proofs.Math.Bool.{true, false, cond}
use Rattle.std.proofs.Math.Nat.{zero-add, div-add-mod}
use native.Mathlib.Omega.{arith}
use Rattle.std.proofs.Math.Dec.{ltb}
use Rattle.std.proofs.Math.ListN.{length-append}
use Rattle.counting.proofs.EachLaws.{length-each}
use Rattle.graph.specs.Assignment.{rank_entry}
use Rattle.directory.specs.Sizes.{Header, vertex_count, value_bytes, rank_entries}
use Rattle.directory.specs.Bytes.{two, mark_length, Stands}
use Rattle.directory.proofs.BytesLaws.{stands_first, stands_rest, stands_in_record, twos_read}
use Rattle.directory.specs.Values.{packed, spare_zero, value_in, value_record, rank_record, table_records, ranks_at, table_size, rank_in}

-- ---- four values in a byte: two bits hold at most 3

pub packed_back : (value : ℕ → ℕ) → ((x : ℕ) → value x ≤ 3) → (b i : ℕ) → i < 4 → packed value b / 2 ^ (2 * i) % 4 ≡ value (4 * b + i)
unfolding packed
packed_back value small b zero l = rw add-zero (omega (arith, small (4 * b), small (4 * b + 1), small (4 * b + 2), small (4 * b + 3)))
packed_back value small b (suc zero) l = omega (arith, small (4 * b), small (4 * b + 1), small (4 * b + 2), small (4 * b + 3))
packed_back value small b (suc (suc zero)) l = omega (arith, small (4 * b), small (4 * b + 1), small (4 * b + 2), small (4 * b + 3))
packed_back value small b (suc (suc (suc zero))) l = omega (arith, small (4 * b), small (4 * b + 1), small (4 * b + 2), small (4 * b + 3))
packed_back value small b (suc (suc (suc (suc i)))) l = absurd (omega arith)

-- ---- the values of m vertices, and zero after them

module _ (m : ℕ) (value : ℕ → ℕ) where
  pub spare_zero-vertex : (x : ℕ) → x < m → spare_zero m value x ≡ value x
  unfolding spare_zero
  spare_zero-vertex x l = rw (lt-ltb x m l)

  pub spare_zero_spare : (x : ℕ) → m ≤ x → spare_zero m value x ≡ 0
  unfolding spare_zero
  spare_zero_spare x l = rw (le-ltb x m l)

  pub spare_zero_small : ((x : ℕ) → x < m → value x ≤ 3) → (x : ℕ) → spare_zero m value x ≤ 3
  unfolding spare_zero
  spare_zero_small small x = go (ltb x m) refl
    where
      go : (b : Bool) → ltb x m ≡ b → cond b (value x) 0 ≤ 3
      go true t = small x (ltb-true x m t)
      go false t = omega arith

module _ (h : Header) (value : ℕ → ℕ) where
  open h use {r}

  abbrev m : ℕ
  m = vertex_count h

  -- ---- the two records, one after the other

  values_length : length (value_record h value) ≡ ranks_at h
  unfolding value_record ranks_at
  values_length = omega (arith, length-each 1 (value_bytes h) (λ b. packed (spare_zero m value) b ∷ []) (λ b l. refl))

  ranks_length : length (rank_record h value) ≡ mark_length + 2 * rank_entries h
  unfolding rank_record
  ranks_length = omega (arith, length-each 2 (rank_entries h) (λ b. two (rank_entry r value b)) (λ b l. refl))

  pub table-length : length (table_records h value) ≡ table_size h
  unfolding table_records table_size
  table-length = omega (arith, length-append (value_record h value) (rank_record h value), values_length, ranks_length)

  module _ {B : ℕ → ℕ} {a : ℕ} (here : Stands B a (table_records h value)) where
    pub values_stand : Stands B a (value_record h value)
    unfolding table_records
    values_stand = stands_first (value_record h value) (rank_record h value) here

    pub ranks_stand : Stands B (a + ranks_at h) (rank_record h value)
    unfolding table_records
    ranks_stand = stands_rest (value_record h value) (rank_record h value) values_length here

  -- ---- what is read of any bytes T that begin with them

  module _ {T : ℕ → ℕ} (here : Stands T 0 (table_records h value)) where
    pub rank_back : (b : ℕ) → b < rank_entries h → rank_in h T b ≡ rank_entry r value b
    unfolding rank_in rank_record
    rank_back b l = rw zero-add at (twos_read (rank_entries h) (rank_entry r value) (ranks_stand here) b l)

    byte_back : (b : ℕ) → b < value_bytes h → T (mark_length + b) ≡ packed (spare_zero m value) b
    unfolding value_record
    byte_back b l =
        let place : 0 + (mark_length + 1 * b) + 0 ≡ mark_length + b = omega arith in
        rw place at ((stands_in_record 1 (value_bytes h) (λ b. packed (spare_zero m value) b ∷ []) (λ b l. refl) (values_stand here) b l).byte 0 (omega arith))

    module _ (small : (x : ℕ) → x < m → value x ≤ 3) where
      -- every place, of a vertex or spare
      pub place_back : (x : ℕ) → x < 4 * value_bytes h → value_in T x ≡ spare_zero m value x
      unfolding value_in
      place_back x l =
          rw (byte_back (x / 4) (omega arith))
          (packed_back (spare_zero m value) (spare_zero_small m value small) (x / 4) (x % 4) (omega arith) ∙ ap (spare_zero m value) (div-add-mod x 4))

      pub value_back : (x : ℕ) → x < m → value_in T x ≡ value x
      value_back x l = place_back x (omega arith) ∙ spare_zero-vertex m value x l

      pub spare_back : (i : ℕ) → i < 4 * value_bytes h - m → value_in T (m + i) ≡ 0
      spare_back i l = place_back (m + i) (omega arith) ∙ spare_zero_spare m value (m + i) (omega arith)

-- The records GV and RK: the values of the vertices, two bits each, and the rank entries; and the line that they give: document 01, "The directory file" and "Numbers given back". Assumes nothing.
use Rattle.std.specs.Prelude.{Bool, not, ◌||◌, cond, List, [], ◌∷◌, ◌++◌, ℕ, ◌+◌, ◌-◌, ◌*◌, ◌/◌, ◌%◌, ◌^◌, eqb, ltb}
use Rattle.counting.specs.Below.{count, any, lowest}
use Rattle.counting.specs.Lists.{each}
use Rattle.graph.specs.Assignment.{assigned, assigned_below, block_size, rank_entry}
use Rattle.directory.specs.Sizes.{Header, vertex_count, value_bytes, rank_entries}
use Rattle.directory.specs.Bytes.{two, two_in, mark_length, GV, RK, under}
use Rattle.directory.specs.declared.Reason.TheVariants.{WrongValue, WrongRank}
use Rattle.directory.specs.Refusals.{Refusal}

-- ---- what is written

-- four values in a byte, the first in the lowest bits
unfoldable pub packed : (ℕ → ℕ) → ℕ → ℕ
packed value b = value (4 * b) + 4 * value (4 * b + 1) + 16 * value (4 * b + 2) + 64 * value (4 * b + 3)

-- the value of each of m vertices, and zero for the spare bits
unfoldable pub spare_zero : ℕ → (ℕ → ℕ) → ℕ → ℕ
spare_zero m value x = cond (ltb x m) (value x) 0

-- the two bits of place x, the spare ones too, of any bytes T 0, T 1, .. from the mark of GV on
unfoldable pub value_in : (ℕ → ℕ) → ℕ → ℕ
value_in T x = T (mark_length + x / 4) / 2 ^ (2 * (x % 4)) % 4

module _ (h : Header) where
  open h use {n, r}

  abbrev m : ℕ
  m = vertex_count h

  unfoldable pub value_record : (ℕ → ℕ) → List ℕ
  value_record value = under GV (each (value_bytes h) (λ b. packed (spare_zero m value) b ∷ []))

  unfoldable pub rank_record : (ℕ → ℕ) → List ℕ
  rank_record value = under RK (each (rank_entries h) (λ b. two (rank_entry r value b)))

  unfoldable pub table_records : (ℕ → ℕ) → List ℕ
  table_records value = value_record value ++ rank_record value

  -- RK stands after GV; the offset from the mark of GV on, and the length of both
  unfoldable pub ranks_at : ℕ
  ranks_at = mark_length + value_bytes h

  unfoldable pub table_size : ℕ
  table_size = ranks_at + (mark_length + 2 * rank_entries h)

  -- ---- what is read

  module _ (T : ℕ → ℕ) where
    unfoldable pub rank_in : ℕ → ℕ
    rank_in b = two_in T (ranks_at + (mark_length + 2 * b))

    -- 12: a value over r, or spare bits set
    unfoldable pub value_over : ℕ → Bool
    value_over x = ltb r (value_in T x)

    unfoldable pub spare_set : Bool
    spare_set = any (4 * value_bytes h - m) (λ i. not (eqb (value_in T (m + i)) 0))

    -- 13: a rank entry is wrong, or the assigned vertices are not n in all
    unfoldable pub rank_wrong : ℕ → Bool
    rank_wrong b = not (eqb (rank_in b) (rank_entry r (value_in T) b))

    unfoldable pub total_wrong : Bool
    total_wrong = not (eqb (assigned_below r (value_in T) m) n)

    -- the lowest such vertex, m for spare bits; the lowest such entry, ceil(m/64) for the total
    unfoldable pub table_refusals : List Refusal
    table_refusals =
        record { reason = WrongValue; applies = any m value_over || spare_set; place = lowest m value_over }
        ∷ record { reason = WrongRank; applies = any (rank_entries h) rank_wrong || total_wrong; place = lowest (rank_entries h) rank_wrong }
        ∷ []

    -- the line of an assigned vertex y: the rank entry of its block, and the stored values other than r from the start of the block up to y
    unfoldable pub line_in : ℕ → ℕ
    line_in y = rank_in (y / block_size) + count (y % block_size) (λ i. assigned r (value_in T (block_size * (y / block_size) + i)))

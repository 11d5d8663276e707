-- The directory file: its records one after the other, where they stand, and what is read of any bytes: document 01, "The directory file". Assumes nothing.
use Rattle.std.specs.Prelude.{List, ◌∷◌, ◌++◌, ℕ, ◌+◌, ◌-◌, ◌*◌, length, take, drop, replicate}
use Rattle.counting.specs.Lists.{each}
use Rattle.directory.specs.declared.Lead.{Lead}
use Rattle.directory.specs.Sizes.{Header}
use Rattle.directory.specs.Bytes.{two, byte_at, two_at, mark_length, WT, KY, under}
use Rattle.directory.specs.Kind.{Kind, vertex}
use Rattle.directory.specs.Values.{table_records, table_size}
use Rattle.directory.specs.Leads.{lead_of}

-- the mark and n (2 bytes), r (1), v (2)
abbrev pub header_length : ℕ
header_length = 7

-- the mark and the length (1) before the code in a KY record
abbrev pub key_head : ℕ
key_head = mark_length + 1

module _ (K : Kind) (h : Header) where
  open K use {mark, positions}
  open h use {n, r, v}

  -- ---- what is written

  unfoldable pub header_record : List ℕ
  header_record = under mark (two n ++ r ∷ two v)

  unfoldable pub weight_record : (ℕ → ℕ) → List ℕ
  weight_record weight = under WT (each (positions * r) (λ i. two (weight i)))

  -- length (1), then the code and zero after it
  unfoldable pub key_record : List ℕ → List ℕ
  key_record t = under KY (length t ∷ t ++ replicate (positions - length t) 0)

  -- the file with these weights and values, and a KY record for each code, in line order
  unfoldable pub file : (ℕ → ℕ) → (ℕ → ℕ) → (ℕ → List ℕ) → List ℕ
  file weight value key = header_record ++ (weight_record weight ++ (table_records h value ++ each n (λ l. key_record (key l))))

  -- ---- where the records stand

  unfoldable pub weights_at : ℕ
  weights_at = header_length

  unfoldable pub values_at : ℕ
  values_at = weights_at + (mark_length + 2 * (positions * r))

  unfoldable pub keys_at : ℕ
  keys_at = values_at + table_size h

  -- the KY record of line l, and the code in it
  unfoldable pub key_at : ℕ → ℕ
  key_at l = keys_at + (key_head + positions) * l

  unfoldable pub code_at : ℕ → ℕ
  code_at l = key_at l + key_head

  unfoldable pub file_length : ℕ
  file_length = key_at n

  -- ---- what is read, of any bytes f

  module _ (f : List ℕ) where
    unfoldable pub weight_in : ℕ → ℕ
    weight_in i = two_at f (weights_at + (mark_length + 2 * i))

    -- the bytes from the mark of GV on
    unfoldable pub table_in : ℕ → ℕ
    table_in i = byte_at f (values_at + i)

    -- the length and the code stored at line l
    unfoldable pub key_length : ℕ → ℕ
    key_length l = byte_at f (key_at l + mark_length)

    unfoldable pub stored_code : ℕ → List ℕ
    stored_code l = take (key_length l) (drop (code_at l) f)

    -- where code t leads in this file
    unfoldable pub lead_in : List ℕ → Lead
    lead_in t = lead_of h table_in (vertex K v weight_in t)

unfoldable pub header_in : List ℕ → Header
header_in f = record { n = two_at f 2; r = byte_at f 4; v = two_at f 5 }

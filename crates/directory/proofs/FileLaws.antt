-- What is written is read back, of a whole file: each record stands at its offset, and what is read there is what was written. Assumes nothing.
use Rattle.std.specs.Prelude.{◌≡◌, List, [], ◌∷◌, ◌++◌, ℕ, ◌+◌, ◌-◌, ◌*◌, ◌≤◌, ◌<◌, replicate}
use Rattle.std.proofs.Math.Path.{refl, ap}
use Rattle.std.proofs.Common.{◌∙◌, zero-add, arith}
use Rattle.std.proofs.Math.ListN.{length, length-append}
use Rattle.std.proofs.lemmas.List.{length-replicate, get_or-replicate}
use Rattle.counting.specs.Lists.{each}
use Rattle.counting.proofs.EachLaws.{place_inside, length-each}
use Rattle.directory.specs.Sizes.{Header}
use Rattle.directory.specs.Bytes.{two, byte_at, mark_length, KY, Stands}
use Rattle.directory.proofs.BytesLaws.{two_back, stands_itself, stands_first, stands_rest, stands_part, twos_read, mark_read, part_read}
use Rattle.directory.specs.Kind.{Kind}
use Rattle.directory.specs.Values.{value_record, rank_record, table_records}
use Rattle.directory.proofs.ValueLaws.{table-length, values_stand, ranks_stand}
use Rattle.directory.specs.File.{key_head, header_record, weight_record, key_record, file, weights_at, values_at, keys_at, key_at, code_at, file_length, weight_in, table_in, key_length, stored_code, header_in}
use Rattle.directory.specs.Whole.{Sized, Framed, Marks, Key}

module _ (K : Kind) (h : Header) (weight value : ℕ → ℕ) (key : ℕ → List ℕ) where
  open K use {positions}
  open h use {n, r, v}

  abbrev f : List ℕ
  f = file K h weight value key

  -- ---- the header, the weights and the table, each before all that follows it

  abbrev key_records : List ℕ
  key_records = each n (λ l. key_record K h (key l))

  abbrev from_table : List ℕ
  from_table = table_records h value ++ key_records

  abbrev from_weights : List ℕ
  from_weights = weight_record K h weight ++ from_table

  header_stands : Stands (byte_at f) 0 (header_record K h)
  unfolding file
  header_stands = stands_first (header_record K h) from_weights (stands_itself f)

  from_weights_lem : Stands (byte_at f) (weights_at K h) from_weights
  unfolding file weights_at header_record
  from_weights_lem = stands_rest (header_record K h) from_weights refl (stands_itself f)

  weights_stand : Stands (byte_at f) (weights_at K h) (weight_record K h weight)
  weights_stand = stands_first (weight_record K h weight) from_table from_weights_lem

  weights_length : length (weight_record K h weight) ≡ mark_length + 2 * (positions * r)
  unfolding weight_record
  weights_length = omega (arith, length-each 2 (positions * r) (λ i. two (weight i)) (λ i l. refl))

  from_table_lem : Stands (byte_at f) (values_at K h) from_table
  unfolding values_at
  from_table_lem = stands_rest (weight_record K h weight) from_table weights_length from_weights_lem

  table_stands : Stands (byte_at f) (values_at K h) (table_records h value)
  table_stands = stands_first (table_records h value) key_records from_table_lem

  -- ---- they are read back

  pub header_back : header_in f ≡ h
  unfolding header_in file header_record
  header_back = λ i. record { n = two_back n i; r = r; v = two_back v i }

  pub weight_back : (i : ℕ) → i < positions * r → weight_in K h f i ≡ weight i
  unfolding weight_in weight_record
  weight_back = twos_read (positions * r) weight weights_stand

  -- so what `ValueLaws` says is read of a table is read of this one
  pub table_back : Stands (table_in K h f) 0 (table_records h value)
  unfolding table_in
  table_back = record { byte = λ i l. ap (λ b. byte_at f (values_at K h + b)) (zero-add i) ∙ table_stands.byte i l }

  -- ---- the KY records, of codes that are not too long

  module _ (short : (l : ℕ) → l < n → length (key l) ≤ positions) where
    abbrev filling : ℕ → List ℕ
    filling l = replicate (positions - length (key l)) 0

    filling-length : (l : ℕ) → length (filling l) ≡ positions - length (key l)
    filling-length l = length-replicate (positions - length (key l)) 0

    key-length : (l : ℕ) → l < n → length (key_record K h (key l)) ≡ key_head + positions
    unfolding key_record
    key-length l m = omega (arith, length-append (key l) (filling l), filling-length l, short l m)

    keys_length : length key_records ≡ (key_head + positions) * n
    keys_length = length-each (key_head + positions) n (λ l. key_record K h (key l)) key-length

    pub file-size : length f ≡ file_length K h
    unfolding file header_record file_length key_at keys_at values_at weights_at
    file-size = omega (arith, length-append (weight_record K h weight) from_table, weights_length, length-append (table_records h value) key_records, table-length h value, keys_length)

    key_stands : (l : ℕ) → l < n → Stands (byte_at f) (key_at K h l) (key_record K h (key l))
    unfolding key_at keys_at
    key_stands = stands_part (key_head + positions) n (λ l. key_record K h (key l)) key-length (stands_rest (table_records h value) key_records (table-length h value) from_table_lem)

    code_stands : (l : ℕ) → l < n → Stands (byte_at f) (code_at K h l) (key l ++ filling l)
    unfolding code_at key_record
    code_stands l m = stands_rest (KY.0 ∷ KY.1 ∷ length (key l) ∷ []) (key l ++ filling l) refl (key_stands l m)

    code_inside : (l : ℕ) → l < n → code_at K h l + length (key l) ≤ length f
    unfolding code_at key_at file_length
    code_inside l m = omega (arith, file-size, short l m, place_inside (key_head + positions) n l (mark_length + positions) m (omega arith))

    pub length_back : (l : ℕ) → l < n → key_length K h f l ≡ length (key l)
    unfolding key_length key_record
    length_back l m = (key_stands l m).byte mark_length (omega arith)

    pub code_back : (l : ℕ) → l < n → stored_code K h f l ≡ key l
    unfolding stored_code
    code_back l m = rw (length_back l m) (part_read f (stands_first (key l) (filling l) (code_stands l m)) (code_inside l m))

    pub filling_back : (l : ℕ) → l < n → (i : ℕ) → i < positions - length (key l) → byte_at f (code_at K h l + length (key l) + i) ≡ 0
    filling_back l m i b = (stands_rest (key l) (filling l) refl (code_stands l m)).byte i (omega (arith, filling-length l)) ∙ get_or-replicate (positions - length (key l)) i 0 0 b

    -- ---- what of `Whole` is about bytes alone

    pub file_framed : Sized h → Framed K h f
    unfolding header_record
    file_framed sizes = record { first_mark = mark_read f header_stands; sizes = sizes; size = file-size }

    pub file_marks : Marks K h f
    unfolding weight_record value_record rank_record key_record
    file_marks =
        record {
          weights = mark_read f weights_stand;
          values = mark_read f (values_stand h value table_stands);
          ranks = mark_read f (ranks_stand h value table_stands);
          keys = λ l m. mark_read f (key_stands l m);
        }

    pub file-key : (l : ℕ) → l < n → 1 ≤ length (key l) → Key K h f l
    file-key l m some =
        record {
          some = omega (arith, length_back l m);
          most = omega (arith, length_back l m, short l m);
          filling = rw (length_back l m) (filling_back l m);
        }

-- Where the records of a file with a header's numbers stand, and that they stand within the file. Assumes nothing.
use Rattle.std.specs.Prelude.{List, ℕ, ◌+◌, ◌*◌, ◌≤◌, ◌<◌, length}
use Rattle.directory.specs.Sizes.{Header, most_vertices, most_codes, value_bytes, rank_entries}
use Rattle.directory.specs.Bytes.{byte_at, two_at, mark_length}
use Rattle.directory.specs.Kind.{HD}
use Rattle.directory.specs.File.{header_length, key_head}

-- the most bytes of a code; so many weights belong to each part
abbrev pub most_bytes : ℕ
most_bytes = HD.positions

-- the bytes of a file from an offset on
abbrev pub bytes_from : List ℕ → ℕ → ℕ → ℕ
bytes_from f at i = byte_at f (at + i)

-- ---- the offsets, as the code computes them

-- weight i
abbrev pub weight_of : List ℕ → ℕ → ℕ
weight_of f i = two_at f (header_length + (mark_length + 2 * i))

-- the values, for an arity
abbrev pub values_from : ℕ → ℕ
values_from r = header_length + (mark_length + 2 * (most_bytes * r))

-- the rank entries
abbrev pub ranks_from : Header → ℕ
ranks_from h = values_from h.r + (mark_length + value_bytes h)

-- the KY record of line l
abbrev pub key_from : Header → ℕ → ℕ
key_from h l = ranks_from h + (mark_length + 2 * rank_entries h) + (key_head + most_bytes) * l

-- and the code in it
abbrev pub code_from : Header → ℕ → ℕ
code_from h l = key_from h l + key_head

-- ---- what the reading functions need

-- r and v are within the sizes
pub record Room (r v : ℕ) : Type 0 where
  pub two : 2 ≤ r
  pub three : r ≤ 3
  pub some : 1 ≤ v
  pub room : r * v ≤ most_vertices

-- and the records before KY stand within the file
pub record Tabled (h : Header) (f : List ℕ) : Type 0 where
  pub room : Room h.r h.v
  pub long : key_from h 0 ≤ length f

-- the KY record of line l, too
pub record Keyed (h : Header) (l : ℕ) (f : List ℕ) : Type 0 where
  pub room : Room h.r h.v
  pub few : l < most_codes
  pub long : key_from h (l + 1) ≤ length f

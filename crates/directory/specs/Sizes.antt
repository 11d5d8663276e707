-- The sizes that document 01 allows: its table "Sizes", and what they come to in a file. Assumes nothing.
use Rattle.std.specs.Prelude.{Bool, ◌&&◌, ◌||◌, ℕ, ◌+◌, ◌*◌, ◌/◌, eqb, ltb, leb}
use Rattle.graph.specs.Assignment.{blocks}
use Rattle.directory.specs.declared.Header as declared

abbrev pub most_vertices : ℕ
most_vertices = 4096

abbrev pub most_codes : ℕ
most_codes = 1024

-- arity r: 2 or 3
unfoldable pub arity_allowed : ℕ → Bool
arity_allowed r = eqb r 2 || eqb r 3

-- part size v: at least 1, with m = r·v at most 4,096
unfoldable pub part_allowed : ℕ → ℕ → Bool
part_allowed r v = ltb 0 v && leb (r * v) most_vertices

-- codes n: 0 to 1,024
unfoldable pub codes_allowed : ℕ → Bool
codes_allowed n = leb n most_codes

-- the numbers of the header: how many codes, the arity and the part size
abbrev pub Header : Type 0
Header = declared.Header

-- the header with the numbers n, r and v
abbrev pub headed : ℕ → ℕ → ℕ → Header
headed n r v = record { n = n; r = r; v = v }

unfoldable pub header_allowed : Header → Bool
header_allowed h = codes_allowed h.n && arity_allowed h.r && part_allowed h.r h.v

-- m, the number of vertices
abbrev pub vertex_count : Header → ℕ
vertex_count h = h.r * h.v

-- ceil(m/4), the bytes of the values, four to a byte
abbrev pub value_bytes : Header → ℕ
value_bytes h = (vertex_count h + 3) / 4

-- ceil(m/64), the rank entries, one for each block of 64 vertices
abbrev pub rank_entries : Header → ℕ
rank_entries h = blocks (vertex_count h)

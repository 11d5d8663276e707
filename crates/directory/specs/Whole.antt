-- What a file has to be to open, as facts: document 01's sizes, marks, values, rank entries and KY records, each said by itself. Assumes nothing.
use Rattle.std.specs.Prelude.{◌≡◌, ◌≢◌, true, List, ℕ, ◌+◌, ◌-◌, ◌*◌, ◌≤◌, ◌<◌, length}
use Rattle.graph.specs.Assignment.{unassigned, landing, assigned_below, rank_entry}
use Rattle.directory.specs.Sizes.{Header, most_vertices, most_codes, vertex_count, value_bytes, rank_entries}
use Rattle.directory.specs.Kind.{Kind, vertex}
use Rattle.directory.specs.Bytes.{byte_at, WT, GV, RK, KY, marked}
use Rattle.directory.specs.Values.{value_in, ranks_at, rank_in}
use Rattle.directory.specs.File.{weights_at, values_at, key_at, code_at, file_length, weight_in, table_in, key_length, stored_code}

-- the numbers of the header are within the sizes
pub record Sized (h : Header) : Type 0 where
  pub two : 2 ≤ h.r
  pub three : h.r ≤ 3
  pub some : 1 ≤ h.v
  pub room : vertex_count h ≤ most_vertices
  pub few : h.n ≤ most_codes

module _ (K : Kind) (h : Header) (f : List ℕ) where
  open K use {mark, positions}
  open h use {n, r, v}

  -- the first mark, the header's numbers, and the length that they call for
  pub record Framed : Type 0 where
    pub first_mark : marked f 0 mark ≡ true
    pub sizes : Sized h
    pub size : length f ≡ file_length K h

  -- the marks of the other 3 + n records
  pub record Marks : Type 0 where
    pub weights : marked f (weights_at K h) WT ≡ true
    pub values : marked f (values_at K h) GV ≡ true
    pub ranks : marked f (values_at K h + ranks_at h) RK ≡ true
    pub keys : (l : ℕ) → l < n → marked f (key_at K h l) KY ≡ true

  -- the value of vertex x as it is stored
  abbrev pub value_of : ℕ → ℕ
  value_of = value_in (table_in K h f)

  -- no value over r, no spare bit set, every rank entry right, and n assigned vertices in all
  pub record Table : Type 0 where
    pub values : (x : ℕ) → x < vertex_count h → value_of x ≤ r
    pub spare : (i : ℕ) → i < 4 * value_bytes h - vertex_count h → value_of (vertex_count h + i) ≡ 0
    pub ranks : (b : ℕ) → b < rank_entries h → rank_in h (table_in K h f) b ≡ rank_entry r value_of b
    pub total : assigned_below r value_of (vertex_count h) ≡ n

  -- the KY record of line l: a length of 1 to 32, and zero after the code
  pub record Key (l : ℕ) : Type 0 where
    pub some : 1 ≤ key_length K h f l
    pub most : key_length K h f l ≤ positions
    pub filling : (i : ℕ) → i < positions - key_length K h f l → byte_at f (code_at K h l + key_length K h f l + i) ≡ 0

  -- the landing vertex of code t by the stored weights and values
  unfoldable pub landing_of : List ℕ → ℕ
  landing_of t = landing r value_of (vertex K v (weight_in K h f) t)

  -- code t leads to line l: its landing vertex is assigned, and l assigned vertices stand below it
  pub record LeadsTo (t : List ℕ) (l : ℕ) : Type 0 where
    pub assigned : value_of (landing_of t) ≢ unassigned r
    pub below : assigned_below r value_of (landing_of t) ≡ l

  pub record Whole : Type 0 where
    pub framed : Framed
    pub marks : Marks
    pub table : Table
    pub keys : (l : ℕ) → l < n → Key l
    pub homes : (l : ℕ) → l < n → LeadsTo (stored_code K h f l) l

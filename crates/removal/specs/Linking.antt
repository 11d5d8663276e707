-- Putting an edge on its vertices and taking it off: what the arrays of degrees and index sums need, and what they have afterwards. Assumes nothing.
use Rattle.std.specs.Prelude.{◌≡◌, List, ℕ, ◌+◌, ◌*◌, ◌≤◌, ◌<◌, eqb, length, get_or}
use Rattle.counting.specs.Below.{count}
use Rattle.counting.specs.Widths.{two_bytes}
use Rattle.removal.specs.Arrays.{vertex_at, Vertices}

-- what four bytes do not hold any more
abbrev pub four_bytes : ℕ
four_bytes = 4294967296

-- how many of the first k vertices of edge e are x
unfoldable pub times : ℕ → ℕ → List ℕ → ℕ → ℕ → ℕ
times r e edges k x = count k (λ j. eqb (vertex_at r edges e j) x)

-- the second arrays have the first k vertices of edge e beside what the first have
pub record Added (r e : ℕ) (edges : List ℕ) (k : ℕ) (degrees sums degrees' sums' : List ℕ) : Type 0 where
  pub to_degrees : (x : ℕ) → get_or degrees' x 0 ≡ get_or degrees x 0 + times r e edges k x
  pub to_sums : (x : ℕ) → get_or sums' x 0 ≡ get_or sums x 0 + times r e edges k x * e

-- there is room to put edge e on its vertices
pub record Room (r e : ℕ) (edges degrees sums : List ℕ) : Type 0 where
  pub edge : e < two_bytes
  pub in_degrees : Vertices r e edges (length degrees)
  pub in_sums : Vertices r e edges (length sums)
  pub degree_fits : (j : ℕ) → j < r → get_or degrees (vertex_at r edges e j) 0 + times r e edges r (vertex_at r edges e j) < two_bytes
  pub sum_fits : (j : ℕ) → j < r → get_or sums (vertex_at r edges e j) 0 + times r e edges r (vertex_at r edges e j) * e < four_bytes

-- edge e is on its vertices, and can be taken off
pub record Enough (r e : ℕ) (edges degrees sums : List ℕ) : Type 0 where
  pub edge : e < two_bytes
  pub in_degrees : Vertices r e edges (length degrees)
  pub in_sums : Vertices r e edges (length sums)
  pub degree_left : (j : ℕ) → j < r → times r e edges r (vertex_at r edges e j) ≤ get_or degrees (vertex_at r edges e j) 0
  pub sum_left : (j : ℕ) → j < r → times r e edges r (vertex_at r edges e j) * e ≤ get_or sums (vertex_at r edges e j) 0

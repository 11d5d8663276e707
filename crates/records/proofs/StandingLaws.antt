-- The records stand where document 01 has them: the offsets that the code computes are those of the definitions. Assumes nothing.
use Rattle.std.specs.Prelude.{◌≡◌, List, ℕ, ◌+◌, ◌*◌, ◌/◌, ◌%◌, ◌≤◌, ◌<◌}
use Rattle.std.proofs.Math.Path.{refl, ap}
use Rattle.std.proofs.Common.{mul-le-mul}
use native.Mathlib.Omega.{arith}
use Rattle.counting.specs.Below.{count}
use Rattle.graph.specs.Assignment.{assigned, block_size}
use Rattle.directory.specs.Sizes.{Header, headed, most_vertices, vertex_count}
use Rattle.directory.specs.Bytes.{byte_at, two_at, mark_length}
use Rattle.directory.specs.Kind.{HD, vertex}
use Rattle.directory.proofs.KindLaws.{vertex-below}
use Rattle.directory.specs.Values.{ranks_at, table_size, value_in, rank_in, line_in}
use Rattle.directory.specs.File.{weights_at, values_at, keys_at, key_at, file_length, weight_in, table_in, key_head, code_at, key_length, stored_code}
use Rattle.directory.specs.LookingUp.{holds_code}
use Rattle.directory.specs.Whole.{landing_of}
use Rattle.records.specs.Standing.{bytes_from, weight_of, values_from, ranks_from, key_from, code_from, Room, Tabled}

module _ (h : Header) where
  open h use {n, r, v}

  pub key_from_lem : (l : ℕ) → key_from h l ≡ key_at HD h l
  unfolding key_at keys_at table_size ranks_at values_at weights_at
  key_from_lem l = omega arith

  pub code_from_lem : (l : ℕ) → code_from h l ≡ code_at HD h l
  unfolding code_at
  code_from_lem l = ap (λ a. a + key_head) (key_from_lem l)

  pub length_from : key_from h n ≡ file_length HD h
  unfolding file_length
  length_from = key_from_lem n

  module _ (f : List ℕ) where
    -- cited by nothing: docs/landings/08-todays-rattle.md names it
    pub weights_from : weight_of f ≡ weight_in HD h f
    unfolding weight_in weights_at
    weights_from = refl

    pub table_from : bytes_from f (values_from r) ≡ table_in HD h f
    unfolding table_in values_at weights_at
    table_from = refl

    pub rank_from : (b : ℕ) → two_at f (ranks_from h + (mark_length + 2 * b)) ≡ rank_in h (table_in HD h f) b
    unfolding rank_in table_in ranks_at values_at weights_at
    rank_from b =
        let low : 7 + (2 + 2 * (32 * r)) + (2 + (r * v + 3) / 4) + (2 + 2 * b) ≡ 7 + (2 + 2 * (32 * r)) + (2 + (r * v + 3) / 4 + (2 + 2 * b)) = omega arith in
        let high : 7 + (2 + 2 * (32 * r)) + (2 + (r * v + 3) / 4) + (2 + 2 * b) + 1 ≡ 7 + (2 + 2 * (32 * r)) + (2 + (r * v + 3) / 4 + (2 + 2 * b) + 1) = omega arith in
        omega (arith, ap (byte_at f) low, ap (byte_at f) high)

    -- the line of vertex y: rank entry k, and c assigned values from the start of the block
    pub line_from : (y k c : ℕ) → k ≡ rank_in h (table_in HD h f) (y / block_size) → c ≡ count (y % block_size) (λ i. assigned r (value_in (bytes_from f (values_from r)) (block_size * (y / block_size) + i))) → k + c ≡ line_in h (table_in HD h f) y
    unfolding line_in
    line_from y k c e d = rw (e, d, table_from)

-- ---- what follows of what the functions need

pub part_most : (r v : ℕ) → Room r v → v ≤ most_vertices
part_most r v s = let a : 1 * v ≤ r * v = mul-le-mul {n₁ = 1} {m₁ = v} {n₂ = r} {m₂ = v} (omega (arith, s.two)) (omega arith) in omega (arith, a, s.room)

-- a part starts at no more than 2 times the largest part size
-- cited by nothing: docs/landings/08-todays-rattle.md names it
pub part-start : (j v : ℕ) → j < 3 → v ≤ most_vertices → j * v ≤ 2 * most_vertices
part-start j v l m = mul-le-mul {n₁ = j} {m₁ = v} {n₂ = 2} {m₂ = most_vertices} (omega arith) m

-- vertex j of a code is one of the r·v
pub vertex_in_lem : (h : Header) (f t : List ℕ) (j : ℕ) → Tabled h f → j < h.r → vertex HD h.v (weight_of f) t j < vertex_count h
vertex_in_lem h f t j s l = vertex-below HD h.v (weight_of f) t s.room.some h.r j l

-- ---- what a file holds for its r and v does not hang on the number of codes

module _ (n m r v : ℕ) (f : List ℕ) where
  pub any_n_rank : (b : ℕ) → rank_in (headed n r v) (table_in HD (headed n r v) f) b ≡ rank_in (headed m r v) (table_in HD (headed m r v) f) b
  unfolding rank_in table_in values_at ranks_at weights_at
  any_n_rank b = refl

  pub any_n_line : (y : ℕ) → line_in (headed n r v) (table_in HD (headed n r v) f) y ≡ line_in (headed m r v) (table_in HD (headed m r v) f) y
  unfolding line_in rank_in table_in values_at ranks_at weights_at
  any_n_line y = refl

  pub any_n_landing : (t : List ℕ) → landing_of HD (headed n r v) f t ≡ landing_of HD (headed m r v) f t
  unfolding landing_of table_in weight_in values_at weights_at
  any_n_landing t = refl

  pub any_n_length : (l : ℕ) → key_length HD (headed n r v) f l ≡ key_length HD (headed m r v) f l
  unfolding key_length key_at keys_at values_at table_size weights_at ranks_at
  any_n_length l = refl

  pub any_n_code : (t : List ℕ) (l : ℕ) → holds_code HD (headed n r v) f t l ≡ holds_code HD (headed m r v) f t l
  unfolding holds_code key_length stored_code key_at code_at keys_at values_at table_size weights_at ranks_at
  any_n_code t l = refl

-- Four values in a byte: put together by shifts and ors they make the sum that the definition has, and their sum is its byte. Assumes nothing.
use Rattle.std.specs.Prelude.{◌≡◌, List, [], ℕ, zero, suc, ◌/◌, drop, ◌+◌, ◌*◌, ◌%◌, ◌^◌, ◌≤◌, ◌<◌, length, get_or}
use Rattle.std.proofs.Common.{zero-add, ap, get_or-take, get_or-drop, sym, ◌∙◌, ⊎_elim, add_comm, arith}
use Rattle.std.proofs.lemmas.List.{get_or_past}
use Rattle.std.specs.Int.Bits.{bit_or, or_shifted_r}
use Rattle.std.specs.Simd.{first_chunks}
use Rattle.counting.proofs.TestLaws.{lt?}
use Rattle.directory.specs.Values.{packed, spare_zero}
use Rattle.writer.specs.Ready.{Small}
use Rattle.writer.specs.Stored.{byte_of}
use Rattle.directory.proofs.ValueLaws.{spare_zero-vertex, spare_zero_spare}

-- bits that stand above those of a lower number are added to it
or_above : (bits x low : ℕ) → low < 2 ^ bits → bit_or low (x * 2 ^ bits) ≡ low + x * 2 ^ bits
or_above bits x low l = or_shifted_r x bits low l ∙ add_comm (x * 2 ^ bits) low

-- cited by nothing: docs/landings/08-todays-rattle.md names it
pub four_in_byte : (a b c d : ℕ) → a ≤ 3 → b ≤ 3 → c ≤ 3 → d ≤ 3 → bit_or (bit_or (bit_or a ((b * 4) % 256)) ((c * 16) % 256)) ((d * 64) % 256) ≡ a + 4 * b + 16 * c + 64 * d
four_in_byte a b c d la lb lc ld =
    let eb : (b * 4) % 256 ≡ b * 4 = omega arith in
    let ec : (c * 16) % 256 ≡ c * 16 = omega arith in
    let ed : (d * 64) % 256 ≡ d * 64 = omega arith in
    rw (eb, ec, ed, or_above 2 b a (omega arith), or_above 4 c (a + b * 4) (omega arith), or_above 6 d (a + b * 4 + c * 16) (omega arith)) (omega arith)

-- the value that is read at place x, and zero past the last one
pub value_read : (values : List ℕ) (x : ℕ) → get_or values x 0 ≡ spare_zero (length values) (λ x. get_or values x 0) x
value_read values x =
    ⊎_elim
    (λ (l : x < length values). sym (spare_zero-vertex _ _ x l))
    (λ (l : length values ≤ x). get_or_past values x 0 l ∙ sym (spare_zero_spare _ _ x l))
    (lt? x (length values))

-- number j of chunk b
chunk_at : (k b : ℕ) (values : List ℕ) → b < k → (j : ℕ) → j < 4 → get_or (get_or (first_chunks 4 k values) b []) j 0 ≡ get_or values (4 * b + j) 0
chunk_at zero b values h j small = absurd (omega arith)
chunk_at (suc k) zero values h j small = rw (zero-add j) (get_or-take 4 values j 0 small)
chunk_at (suc k) (suc b) values h j small =
    let e : 4 + (4 * b + j) ≡ 4 * suc b + j = omega arith in
    chunk_at k b (drop 4 values) (omega arith) j small ∙ get_or-drop 4 values (4 * b + j) 0 ∙ ap (λ x. get_or values x 0) e

pub packed_from : (value : ℕ → ℕ) (b first second third fourth : ℕ) → first ≡ value (4 * b) → second ≡ value (4 * b + 1) → third ≡ value (4 * b + 2) → fourth ≡ value (4 * b + 3) → first + 4 * second + 16 * third + 64 * fourth ≡ packed value b
unfolding packed
packed_from value b first second third fourth e f g h = omega arith

-- a byte whose four values are all there, read as a chunk
module _ (values : List ℕ) (chunks : List (List ℕ)) (front : chunks ≡ first_chunks 4 (length values / 4) values) (b : ℕ) (below : b < length values / 4) where
  abbrev four : List ℕ
  four = get_or chunks b []

  four_at : (j : ℕ) → j < 4 → get_or four j 0 ≡ get_or values (4 * b + j) 0
  four_at j small = ap (λ c. get_or (get_or c b []) j 0) front ∙ chunk_at (length values / 4) b values below j small

  four_small : Small values → (j : ℕ) → j < 4 → get_or four j 0 ≤ 3
  four_small small j h = omega (arith, four_at j h, small (4 * b + j) (omega arith))

  pub all_small : Small values → (get_or four 0 0 ≤ 3) × (get_or four 1 0 ≤ 3) × (get_or four 2 0 ≤ 3) × (get_or four 3 0 ≤ 3)
  all_small small = (four_small small 0 (omega arith), four_small small 1 (omega arith), four_small small 2 (omega arith), four_small small 3 (omega arith))

  value_there : (j : ℕ) → j < 4 → get_or four j 0 ≡ spare_zero (length values) (λ x. get_or values x 0) (4 * b + j)
  value_there j h = four_at j h ∙ value_read values (4 * b + j)

  -- no bits are spare
  pub four_packed : get_or four 0 0 + 4 * get_or four 1 0 + 16 * get_or four 2 0 + 64 * get_or four 3 0 ≡ byte_of values b
  four_packed =
      let first : get_or four 0 0 ≡ spare_zero (length values) (λ x. get_or values x 0) (4 * b) = value_there 0 (omega arith) ∙ ap (spare_zero (length values) (λ x. get_or values x 0)) (omega arith) in
      packed_from (spare_zero (length values) (λ x. get_or values x 0)) b _ _ _ _ first (value_there 1 (omega arith)) (value_there 2 (omega arith)) (value_there 3 (omega arith))

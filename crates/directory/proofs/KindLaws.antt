-- The largest sum, and the vertices of a code each in its own part, as document 01 states them; and which weights they depend on. Assumes nothing.
use Rattle.std.specs.Prelude.{◌≡◌, refl, ◌≢◌, List, ℕ, ◌+◌, ◌*◌, ◌/◌, ◌%◌, ◌≤◌, ◌<◌, length, get_or, replicate}
use Rattle.std.proofs.Common.{sym, ap, ◌∙◌, mul-le-mul, mod-lt, add_comm, arith}
use Rattle.std.proofs.Math.Arith.{digits_lt, digits_div}
use Rattle.counting.specs.Below.{sum}
use Rattle.counting.proofs.BelowLaws.{sum_mono, sum_equal, sum_constant}
use Rattle.counting.proofs.EachLaws.{place_inside}
use Rattle.directory.specs.Kind.{Kind, HD, code_sum, vertex}

abbrev largest_sum : ℕ
largest_sum = 534_765_600

-- no sum of a code of at most 32 bytes under weights of two bytes is larger, ..
pub sum_most : (weight : ℕ → ℕ) (t : List ℕ) (j : ℕ) → ((i : ℕ) → weight i ≤ 65_535) → ((i : ℕ) → get_or t i 0 ≤ 255) → length t ≤ 32 → code_sum HD weight t j ≤ largest_sum
unfolding code_sum
sum_most weight t j w b l =
    let part : (i : ℕ) → (get_or t i 0 + 0) * weight (32 * j + i) ≤ 255 * 65_535 = λ i. let c : get_or t i 0 + 0 ≤ 255 = omega (arith, b i) in mul-le-mul c (w (32 * j + i)) in
    omega (arith, sum_mono (length t) (λ i. (get_or t i 0 + 0) * weight (32 * j + i)) (λ i. 255 * 65_535) (λ i m. part i), sum_constant (length t) (255 * 65_535))

-- .. and one is as large
pub sum_reached : code_sum HD (λ i. 65_535) (replicate 32 255) 0 ≡ largest_sum
unfolding code_sum sum
sum_reached = refl

module _ (K : Kind) (v : ℕ) (weight : ℕ → ℕ) (t : List ℕ) (some : 1 ≤ v) where
  -- vertex j stands in part j, ..
  pub vertex-part : (j : ℕ) → vertex K v weight t j / v ≡ j
  unfolding vertex
  vertex-part j = rw (add_comm (code_sum K weight t j % v) (j * v)) (digits_div j (mod-lt (code_sum K weight t j) some))

  -- .. so it is below r·v, ..
  pub vertex-below : (r j : ℕ) → j < r → vertex K v weight t j < r * v
  unfolding vertex
  vertex-below r j l = rw (add_comm (code_sum K weight t j % v) (j * v)) (digits_lt l (mod-lt (code_sum K weight t j) some))

  -- .. and the vertices of one code always differ
  pub vertices_differ : (j k : ℕ) → j ≢ k → vertex K v weight t j ≢ vertex K v weight t k
  vertices_differ j k d e = d (sym (vertex-part j) ∙ ap (λ x. x / v) e ∙ vertex-part k)

-- weights that agree on the r parts give a code the same r vertices
pub vertex_equal : (K : Kind) (r v : ℕ) (weight stored : ℕ → ℕ) (t : List ℕ) → length t ≤ K.positions → ((i : ℕ) → i < K.positions * r → weight i ≡ stored i) → (j : ℕ) → j < r → vertex K v weight t j ≡ vertex K v stored t j
unfolding vertex code_sum
vertex_equal K r v weight stored t short same j l =
    ap (λ s. s % v + j * v) (sum_equal (length t) _ _ (λ i m. ap (λ w. (get_or t i 0 + K.plus) * w) (same (K.positions * j + i) (place_inside K.positions r j i l (omega arith)))))

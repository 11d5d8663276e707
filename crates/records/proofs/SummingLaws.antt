-- One turn of the loop that adds up the sums of a code, under any weights, and the vertices that they give. Assumes nothing.
use Rattle.std.specs.Prelude.{◌≡◌, refl, List, ℕ, ◌+◌, ◌*◌, ◌%◌, ◌≤◌, ◌<◌, length}
use Rattle.std.proofs.Math.Path.{ap}
use Rattle.std.proofs.Common.{◌∙◌, mul-le-mul}
use native.Mathlib.Omega.{arith}
use Rattle.std.proofs.Math.ListN.{get_or}
use Rattle.counting.specs.Below.{sum}
use Rattle.counting.proofs.BelowLaws.{sum-next}
use Rattle.counting.specs.Widths.{one_byte, two_bytes}
use Rattle.directory.specs.Kind.{HD, code_sum, vertex}
use Rattle.records.specs.Standing.{most_bytes}

-- a byte times a weight is at most this
abbrev pub largest_term : ℕ
largest_term = 16_711_425

-- the first i terms of the sum of code t for part j
unfoldable pub terms_of : (ℕ → ℕ) → List ℕ → ℕ → ℕ → ℕ
terms_of weight t j i = sum i (λ i. (get_or t i 0 + HD.plus) * weight (most_bytes * j + i))

-- s has them
pub record Begun (weight : ℕ → ℕ) (t : List ℕ) (j i s : ℕ) : Type 0 where
  pub terms : s ≡ terms_of weight t j i
  pub most : s ≤ largest_term * i

pub term_most : {b w : ℕ} → b < one_byte → w < two_bytes → b * w ≤ largest_term
term_most h k = mul-le-mul {n₂ = 255} {m₂ = 65535} (omega arith) (omega arith)

module _ {weight : ℕ → ℕ} {t : List ℕ} {j : ℕ} where
  pub begun_none : Begun weight t j 0 0
  unfolding terms_of sum
  begun_none = record { terms = refl; most = omega arith }

  -- byte b and weight w are the next
  pub begun_next : {i s b w : ℕ} → Begun weight t j i s → b ≡ get_or t i 0 → b < one_byte → w ≡ weight (most_bytes * j + i) → w < two_bytes → Begun weight t j (i + 1) (s + b * w)
  unfolding terms_of
  begun_next {i = i} {s = s} {b = b} {w = w} g e h d k =
      let a : b ≡ get_or t i 0 + 0 = omega arith in
      let n : sum (i + 1) (λ i. (get_or t i 0 + 0) * weight (most_bytes * j + i)) ≡ sum i (λ i. (get_or t i 0 + 0) * weight (most_bytes * j + i)) + b * w = sum-next i (λ i. (get_or t i 0 + 0) * weight (most_bytes * j + i)) ∙ rw (a, d) in
      record { terms = omega (arith, n, g.terms); most = omega (arith, g.most, term_most h k) }

  pub begun_all : {i s : ℕ} → Begun weight t j i s → i ≡ length t → s ≡ code_sum HD weight t j
  unfolding terms_of code_sum
  begun_all g e = g.terms ∙ ap (terms_of weight t j) e

-- the vertex of a sum
pub vertex_from : (weight : ℕ → ℕ) (t : List ℕ) (v j s : ℕ) → s ≡ code_sum HD weight t j → s % v + j * v ≡ vertex HD v weight t j
unfolding vertex
vertex_from weight t v j s e = ap (λ s. s % v + j * v) e

-- One turn of putting an edge on its vertices, or of taking it off. Assumes nothing.
-- D and C stand for the arrays of degrees and index sums; a prime marks what has become of one.
use Rattle.std.specs.Prelude.{◌≡◌, ◌≢◌, List, ℕ, ◌+◌, ◌-◌, ◌*◌, ◌≤◌, ◌<◌, eqb, length, get_or, set}
use Rattle.std.proofs.Common.{sym, ap, ⊎_elim, mul-le-mul_right, add-one, arith, get_or-set_same, get_or-set_other, eq-eqb, ne_eqb}
use Rattle.counting.proofs.TestLaws.{eq?}
use Rattle.counting.specs.Below.{sum, bit}
use Rattle.counting.proofs.BelowLaws.{sum_up_to}
use Rattle.counting.proofs.CountLaws.{bit_self}
use Rattle.counting.specs.Widths.{two_bytes}
use Rattle.removal.specs.Arrays.{vertex_at}
use Rattle.removal.specs.Linking.{four_bytes, times, Added, Room, Enough}

-- ---- one entry of an array raised by w

abbrev pub Raised : ℕ → ℕ → List ℕ → List ℕ → Type 0
Raised x w low high = (y : ℕ) → get_or high y 0 ≡ get_or low y 0 + bit (eqb x y) * w

raised_at : (x w : ℕ) (low high : List ℕ) → get_or high x 0 ≡ get_or low x 0 + w → ((y : ℕ) → y ≢ x → get_or high y 0 ≡ get_or low y 0) → Raised x w low high
raised_at x w low high here there y =
    ⊎_elim
    (λ (i : y ≡ x). omega (arith, here, ap (λ a. get_or high a 0) i, ap (λ a. get_or low a 0) i, ap (λ b. bit b * w) (eq-eqb x y (sym i))))
    (λ (d : y ≢ x). omega (arith, there y d, ap (λ b. bit b * w) (ne_eqb x y (λ i. d (sym i)))))
    (eq? y x)

pub set_raised : (x w : ℕ) (l : List ℕ) → x < length l → Raised x w l (set l x (get_or l x 0 + w))
set_raised x w l h = raised_at x w l (set l x (get_or l x 0 + w)) (get_or-set_same l x (get_or l x 0 + w) 0 h) (λ y d. get_or-set_other l x y (get_or l x 0 + w) 0 d)

pub set_lowered : (x w : ℕ) (l : List ℕ) → x < length l → w ≤ get_or l x 0 → Raised x w (set l x (get_or l x 0 - w)) l
set_lowered x w l h k = raised_at x w (set l x (get_or l x 0 - w)) l (omega (arith, get_or-set_same l x (get_or l x 0 - w) 0 h)) (λ y d. sym (get_or-set_other l x y (get_or l x 0 - w) 0 d))

-- ---- the vertices counted so far

-- no vertex counted: nothing is added
pub added_none : (r e : ℕ) (edges degrees sums : List ℕ) → Added r e edges 0 degrees sums degrees sums
unfolding times sum
added_none r e edges degrees sums = record { to_degrees = λ x. omega arith; to_sums = λ x. omega arith }

pub times_more : (r e : ℕ) (edges : List ℕ) (k x : ℕ) → times r e edges (k + 1) x ≡ times r e edges k x + bit (eqb (vertex_at r edges e k) x)
unfolding times sum
times_more r e edges k x = rw (add-one k)

pub times-left : (r e : ℕ) (edges : List ℕ) (k : ℕ) → k < r → times r e edges k (vertex_at r edges e k) + 1 ≤ times r e edges r (vertex_at r edges e k)
unfolding times
times-left r e edges k l =
    let x = vertex_at r edges e k in
    omega (arith, times_more r e edges k x, bit_self x, sum_up_to (k + 1) r (λ j. bit (eqb (vertex_at r edges e j) x)) (omega arith))

-- one vertex more: x is vertex k
module _ (r e : ℕ) (edges : List ℕ) (k : ℕ) (D C D' C' : List ℕ) where
  abbrev x : ℕ
  x = vertex_at r edges e k

  added_more : ((y : ℕ) → get_or D' y 0 ≡ get_or D y 0 + (times r e edges k y + bit (eqb x y) * 1)) → ((y : ℕ) → get_or C' y 0 ≡ get_or C y 0 + (times r e edges k y * e + bit (eqb x y) * e)) → Added r e edges (k + 1) D C D' C'
  added_more p q =
      record {
        to_degrees = λ y. omega (arith, p y, times_more r e edges k y);
        to_sums = λ y. omega (arith, q y, ap (λ t. t * e) (times_more r e edges k y));
      }

-- ---- a turn, at vertex x: from D C the arrays D' C' came so far

pub record LinkTurn (r e : ℕ) (edges : List ℕ) (k x : ℕ) (D C D' C' : List ℕ) : Type 0 where
  pub in_degrees : x < length D'
  pub in_sums : x < length C'
  pub degree_fits : get_or D' x 0 + 1 < two_bytes
  pub sum_fits : get_or C' x 0 + e < four_bytes
  pub added : Added r e edges (k + 1) D C (set D' x (get_or D' x 0 + 1)) (set C' x (get_or C' x 0 + e))

pub record UnlinkTurn (r e : ℕ) (edges : List ℕ) (k x : ℕ) (D C D' C' : List ℕ) : Type 0 where
  pub in_degrees : x < length D'
  pub in_sums : x < length C'
  pub degree_left : 1 ≤ get_or D' x 0
  pub sum_left : e ≤ get_or C' x 0
  pub taken : Added r e edges (k + 1) (set D' x (get_or D' x 0 - 1)) (set C' x (get_or C' x 0 - e)) D C

module _ {r e : ℕ} {edges : List ℕ} {k : ℕ} {D C D' C' : List ℕ} where
  pub link_turn : Room r e edges D C → Added r e edges k D C D' C' → k < r → length D' ≡ length D → length C' ≡ length C → {x : ℕ} → x ≡ vertex_at r edges e k → LinkTurn r e edges k x D C D' C'
  link_turn h a l d c {x} i =
      let left = times-left r e edges k l in
      let in_d : vertex_at r edges e k < length D' = omega (arith, h.in_degrees.below k l) in
      let in_c : vertex_at r edges e k < length C' = omega (arith, h.in_sums.below k l) in
      rw i (record {
        in_degrees = in_d;
        in_sums = in_c;
        degree_fits = omega (arith, left, h.degree_fits k l, a.to_degrees (vertex_at r edges e k));
        sum_fits = omega (arith, mul-le-mul_right e left, h.sum_fits k l, a.to_sums (vertex_at r edges e k));
        added = added_more r e edges k D C _ _ (λ y. omega (arith, a.to_degrees y, set_raised _ 1 D' in_d y)) (λ y. omega (arith, a.to_sums y, set_raised _ e C' in_c y));
      })

  pub unlink_turn : Enough r e edges D C → Added r e edges k D' C' D C → k < r → length D' ≡ length D → length C' ≡ length C → {x : ℕ} → x ≡ vertex_at r edges e k → UnlinkTurn r e edges k x D C D' C'
  unlink_turn h a l d c {x} i =
      let left = times-left r e edges k l in
      let in_d : vertex_at r edges e k < length D' = omega (arith, h.in_degrees.below k l) in
      let in_c : vertex_at r edges e k < length C' = omega (arith, h.in_sums.below k l) in
      let one : 1 ≤ get_or D' (vertex_at r edges e k) 0 = omega (arith, left, h.degree_left k l, a.to_degrees (vertex_at r edges e k)) in
      let its : e ≤ get_or C' (vertex_at r edges e k) 0 = omega (arith, mul-le-mul_right e left, h.sum_left k l, a.to_sums (vertex_at r edges e k)) in
      rw i (record {
        in_degrees = in_d;
        in_sums = in_c;
        degree_left = one;
        sum_left = its;
        taken = added_more r e edges k _ _ D C (λ y. omega (arith, a.to_degrees y, set_lowered _ 1 D' in_d one y)) (λ y. omega (arith, a.to_sums y, set_lowered _ e C' in_c its y));
      })

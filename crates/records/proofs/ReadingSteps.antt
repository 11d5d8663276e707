-- What the functions that count the assigned values add up. Assumes nothing.
use Rattle.std.specs.Prelude.{◌≡◌, refl, Bool, true, false, List, ℕ, ◌+◌, ◌-◌, ◌*◌, ◌/◌, ◌%◌, ◌^◌, ◌≤◌, ◌<◌, length, take, drop, get_or}
use Rattle.std.proofs.Common.{sym, ap, ◌∙◌, arith, length-take, get_or-take, get_or-drop}
use mir.Val.{bool_byte}
use Rattle.counting.specs.Below.{bit, count}
use Rattle.counting.proofs.BelowLaws.{sum_split, sum_equal}
use Rattle.graph.specs.Assignment.{assigned}
use Rattle.directory.specs.Bytes.{byte_at, mark_length}
use Rattle.directory.specs.Values.{value_in}
use Rattle.records.specs.Standing.{bytes_from}

-- a truth as a number of the machine
-- cited by nothing: docs/landings/08-todays-rattle.md names it
pub told_as_bit : (b : Bool) → bool_byte b ≡ bit b
told_as_bit true = refl
told_as_bit false = refl

-- byte i of a part of a file, where it stands
pub byte_of_part : (f : List ℕ) (start size at i : ℕ) → i < length (take size (drop start f)) → start + i ≡ at → get_or (take size (drop start f)) i 0 ≡ byte_at f at
byte_of_part f start size at i m e = get_or-take size (drop start f) i 0 (omega (arith, length-take size (drop start f))) ∙ get_or-drop start f i 0 ∙ ap (byte_at f) e

-- value k of byte i from place `from` on, the first of its byte
value_of_four : (f : List ℕ) (at from i b k : ℕ) → from % 4 ≡ 0 → k < 4 → b ≡ byte_at f (at + (mark_length + (from / 4 + i))) → value_in (bytes_from f at) (from + (4 * i + k)) ≡ b / 2 ^ (2 * k) % 4
unfolding value_in
value_of_four f at from i b k z l e =
    let q : (from + (4 * i + k)) / 4 ≡ from / 4 + i = omega arith in
    let m : (from + (4 * i + k)) % 4 ≡ k = omega arith in
    rw (q, m, e)

module _ (f : List ℕ) (at r from : ℕ) where
  -- one byte more
  pub fours_next : (i b c d : ℕ) → from % 4 ≡ 0 → b ≡ byte_at f (at + (mark_length + (from / 4 + i))) → c ≡ count (4 * i) (λ i. assigned r (value_in (bytes_from f at) (from + i))) → d ≡ count 4 (λ k. assigned r (b / 2 ^ (2 * k) % 4)) → c + d ≡ count (4 * (i + 1)) (λ i. assigned r (value_in (bytes_from f at) (from + i)))
  fours_next i b c d z e p q =
      let n : 4 * (i + 1) ≡ 4 * i + 4 = omega arith in
      let s = sum_split (4 * i) 4 (λ i. bit (assigned r (value_in (bytes_from f at) (from + i)))) in
      let t = sum_equal 4 (λ k. bit (assigned r (b / 2 ^ (2 * k) % 4))) (λ k. bit (assigned r (value_in (bytes_from f at) (from + (4 * i + k))))) (λ k l. ap (λ x. bit (assigned r x)) (sym (value_of_four f at from i b k z l e))) in
      rw n (omega (arith, s, t, p, q))

  -- whole bytes, and the rest
  pub count_in_two : (a k c d : ℕ) → a ≤ k → c ≡ count a (λ i. assigned r (value_in (bytes_from f at) (from + i))) → d ≡ count (k - a) (λ i. assigned r (value_in (bytes_from f at) (from + a + i))) → c + d ≡ count k (λ i. assigned r (value_in (bytes_from f at) (from + i)))
  count_in_two a k c d l p q =
      let n : k ≡ a + (k - a) = omega arith in
      let s = sum_split a (k - a) (λ i. bit (assigned r (value_in (bytes_from f at) (from + i)))) in
      let t = sum_equal (k - a) (λ i. bit (assigned r (value_in (bytes_from f at) (from + a + i)))) (λ i. bit (assigned r (value_in (bytes_from f at) (from + (a + i))))) (λ i m. let x : from + a + i ≡ from + (a + i) = omega arith in ap (λ y. bit (assigned r (value_in (bytes_from f at) y))) x) in
      let e : c + d ≡ count (a + (k - a)) (λ i. assigned r (value_in (bytes_from f at) (from + i))) = omega (arith, s, t, p, q) in
      e ∙ ap (λ k. count k (λ i. assigned r (value_in (bytes_from f at) (from + i)))) (sym n)

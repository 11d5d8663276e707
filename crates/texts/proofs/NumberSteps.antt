-- A word read digit by digit: what is known once it turns out wrong, and once it has been read. Assumes nothing.
use Rattle.std.proofs.Math.Path.{◌≡◌, refl, ap}
use Rattle.std.proofs.Common.{◌∙◌, add-zero, add-suc, add-one}
use Rattle.std.specs.Prelude.{◌≢◌, Bool, ◌||◌, List, ℕ, zero, suc, ◌+◌, ◌-◌, ◌*◌, ◌≤◌, ◌<◌, eqb, get_or, Some, None}
use Rattle.std.proofs.Math.Bool.{true, false, not}
use native.Mathlib.Omega.{arith}
use Rattle.std.proofs.Math.ListN.{length}
use borrow.Author.Tests.{ltb-false, eq-eqb, ne_eqb, lt-ltb, le-ltb}
use Rattle.counting.proofs.TestLaws.{or_second, or_none, or_neither_second}
use Rattle.counting.specs.Below.{any}
use Rattle.counting.proofs.SearchLaws.{any_has, any_none}
use Rattle.texts.specs.Numbers.{zero_sign, is_digit, value_of_first, value_of, wrong_number, number_of}

-- ---- the value

pub value_none : (w : List ℕ) → 0 ≡ value_of_first w 0
unfolding value_of_first
value_none w = refl

pub value-next : (w : List ℕ) (i x y : ℕ) → x ≡ value_of_first w i → y ≡ 10 * x + (get_or w i 0 - zero_sign) → y ≡ value_of_first w (i + 1)
unfolding value_of_first
value-next w i x y e f = rw (add-one i, ← e) f

value_grows : (w : List ℕ) (i j : ℕ) → value_of_first w i ≤ value_of_first w (i + j)
unfolding value_of_first
value_grows w i zero = rw (add-zero i) (omega arith)
value_grows w i (suc j) = rw (add-suc i j) (omega (arith, value_grows w i j))

-- ---- the answer

module _ (most : ℕ) (w : List ℕ) where
  abbrev other : ℕ → Bool
  other i = not (is_digit (get_or w i 0))

  refused : wrong_number most w ≡ true → None ≡ number_of most w
  unfolding number_of
  refused t = rw t

  pub number_empty : length w ≡ 0 → None ≡ number_of most w
  unfolding wrong_number
  number_empty e = refused (rw (eq-eqb _ _ e))

  pub number-other : (i : ℕ) → i < length w → is_digit (get_or w i 0) ≡ false → None ≡ number_of most w
  unfolding wrong_number
  number-other i l t = refused (rw (or_second (eqb (length w) 0) _ (any_has (length w) other i l (ap not t))))

  pub number_large : (i x : ℕ) → i < length w → x ≡ value_of_first w (i + 1) → most < x → None ≡ number_of most w
  unfolding wrong_number
  number_large i x l e m =
      let k : i + 1 + (length w - (i + 1)) ≡ length w = omega arith in
      let large : most < value_of w = omega (arith, value_grows w (i + 1) (length w - (i + 1)), ap (value_of_first w) k) in
      refused (or_second (eqb (length w) 0 || any (length w) other) _ (lt-ltb _ _ large))

  pub number_read : (i x : ℕ) → length w ≢ 0 → length w ≡ i → x ≡ value_of_first w i → x ≤ most → ((k : ℕ) → k < i → is_digit (get_or w k 0) ≡ true) → Some x ≡ number_of most w
  unfolding number_of wrong_number
  number_read i x some whole e m digits =
      let v : x ≡ value_of w = rw (← whole) at e in
      let none = any_none (length w) other (λ k l. ap not (digits k (omega arith))) in
      rw (or_none (or_none (ne_eqb _ _ some) none) (le-ltb most (value_of w) (omega arith))) (ap Some v)

  -- ---- what the answer tells

  pub number_is : (x : ℕ) → Some x ≡ number_of most w → (wrong_number most w ≡ false) × (x ≡ value_of w)
  unfolding number_of
  number_is x e = go (wrong_number most w) refl
    where
      go : (b : Bool) → wrong_number most w ≡ b → (wrong_number most w ≡ false) × (x ≡ value_of w)
      go true t = let z : Some x ≡ None = e ∙ rw t in cc
      go false t = let z : Some x ≡ Some (value_of w) = e ∙ rw t in (t, (cc))

  pub number_wrong : None ≡ number_of most w → wrong_number most w ≡ true
  unfolding number_of
  number_wrong e = go (wrong_number most w) refl
    where
      go : (b : Bool) → wrong_number most w ≡ b → wrong_number most w ≡ true
      go true t = t
      go false t = let z : None ≡ Some (value_of w) = e ∙ rw t in cc

  pub number_most : (x : ℕ) → Some x ≡ number_of most w → x ≤ most
  unfolding wrong_number
  number_most x e =
      let r = number_is x e in
      omega (arith, r.1, ltb-false most (value_of w) (or_neither_second (eqb (length w) 0 || any (length w) other) _ r.0))

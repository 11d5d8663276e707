-- The values of hex digits, and which digits make pairs. Assumes nothing.
use Rattle.std.specs.Prelude.{◌≡◌, ◌≢◌, Bool, false, List, ℕ, ◌+◌, ◌-◌, ◌%◌, ◌≤◌, ◌<◌, ◌||◌, [], ◌∷◌, zero, suc, eqb, length, get_or}
use Rattle.std.proofs.Math.Path.{sym, refl}
use Rattle.std.proofs.Common.{ap, arith, ◌∙◌}
use Rattle.std.proofs.Math.Bool.{not, or-false, or_assoc}
use Rattle.std.proofs.lemmas.Bool.Decides.{nat_tests}
use Rattle.std.specs.List.{list_any}
use borrow.Author.Tests.{eq-eqb, ne_eqb, eqb-false}
use Rattle.counting.proofs.TestLaws.{or_neither_second}
use Rattle.counting.specs.Below.{any}
use Rattle.counting.proofs.SearchLaws.{any_false}
use Rattle.texts.specs.Codes.{hex_value, no_digit, wrong_pairs}

-- ---- the value of a digit

module _ (b : ℕ) where
  pub value-decimal : 48 ≤ b → b < 58 → b - 48 ≡ hex_value b
  unfolding hex_value
  value-decimal l h = grind (arith, nat_tests)

  pub value_small : 97 ≤ b → b < 103 → b - 97 + 10 ≡ hex_value b
  unfolding hex_value
  value_small l h = grind (arith, nat_tests)

-- ---- pairs

-- the library's search of a list is that of its places
any_first : (k : ℕ) (test : ℕ → Bool) → test 0 || any k (λ i. test (suc i)) ≡ any (suc k) test
unfolding any
any_first zero test = or-false (test 0)
any_first (suc k) test = sym (or_assoc (test 0) (any k (λ i. test (suc i))) (test (suc k))) ∙ ap (λ b. b || test (suc k)) (any_first k test)

any_listed : (test : ℕ → Bool) (l : List ℕ) → list_any test l ≡ any (length l) (λ i. test (get_or l i 0))
unfolding any
any_listed test [] = refl
any_listed test (x ∷ l) = ap (λ b. test x || b) (any_listed test l) ∙ any_first (length l) (λ i. test (get_or (x ∷ l) i 0))

module _ (digits : List ℕ) where
  abbrev other : ℕ → Bool
  other i = eqb (hex_value (get_or digits i 0)) no_digit

  pub pairs_odd : length digits % 2 ≢ 0 → not (eqb (length digits % 2) 0) ≡ wrong_pairs digits
  unfolding wrong_pairs
  pairs_odd d = rw (ne_eqb (length digits % 2) 0 d)

  pub pairs_any : length digits % 2 ≡ 0 → {answer : Bool} → answer ≡ list_any (λ b. eqb (hex_value b) no_digit) digits → answer ≡ wrong_pairs digits
  unfolding wrong_pairs
  pairs_any e a = rw (eq-eqb (length digits % 2) 0 e) (a ∙ any_listed (λ b. eqb (hex_value b) no_digit) digits)

  pub right-digit : wrong_pairs digits ≡ false → (i : ℕ) → i < length digits → hex_value (get_or digits i 0) ≢ no_digit
  unfolding wrong_pairs
  right-digit t i l = eqb-false _ _ (any_false (length digits) other (or_neither_second (not (eqb (length digits % 2) 0)) _ t) i l)

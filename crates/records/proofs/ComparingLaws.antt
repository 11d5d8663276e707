-- When bytes are those of a code: what `==` says of two slices, and that bytes are equal if the numbers that they make are. Assumes nothing.
use Rattle.std.specs.Prelude.{◌≡◌, Bool, refl, ◌&&◌, List, [], ◌∷◌, ℕ, zero, suc, ◌+◌, ◌<◌, eqb, get_or, ◌≤◌, length, take, drop}
use Rattle.std.specs.Cmp.Lexicographic.{pointwise}
use Rattle.std.proofs.Common.{ap, ⊎_elim, arith, sym, ◌∙◌}
use Rattle.std.proofs.Math.Bool.{and_assoc}
use Rattle.counting.specs.Widths.{one_byte}
use Rattle.counting.specs.Lists.{same}
use Rattle.counting.proofs.TestLaws.{lt?}
use Rattle.records.specs.Comparing.{number, Begins}

pub pointwise_same : (s t : List ℕ) → pointwise eqb s t ≡ same s t
unfolding same
pointwise_same [] [] = refl
pointwise_same [] (y ∷ t) = refl
pointwise_same (x ∷ s) [] = refl
pointwise_same (x ∷ s) (y ∷ t) = ap (λ b. eqb x y && b) (pointwise_same s t)

-- two lists of one length are the same exactly if their first k elements are, and the rest
same_onward : (k : ℕ) (s t : List ℕ) → length s ≡ length t → same s t ≡ same (take k s) (take k t) && same (drop k s) (drop k t)
unfolding same
same_onward zero s t e = refl
same_onward (suc k) [] [] e = refl
same_onward (suc k) [] (y ∷ t) e = absurd (omega (arith, e))
same_onward (suc k) (x ∷ s) [] e = absurd (omega (arith, e))
same_onward (suc k) (x ∷ s) (y ∷ t) e = ap (λ b. eqb x y && b) (same_onward k s t (omega (arith, e))) ∙ sym (and_assoc (eqb x y) (same (take k s) (take k t)) (same (drop k s) (drop k t)))

-- the same, where what `==` says of the first k is known
pub first_decide : (k : ℕ) (s t : List ℕ) {a b u v : List ℕ} {alike : Bool} → length s ≡ length t → a ≡ take k s → u ≡ drop k s → b ≡ take k t → v ≡ drop k t → alike ≡ pointwise eqb a b → same s t ≡ alike && same u v
first_decide k s t l p q p' q' d = rw (d, p, q, p', q', pointwise_same (take k s) (take k t)) (same_onward k s t l)

-- ---- bytes as a number: equal exactly if the bytes are

pub number_equal : (k : ℕ) (B C : ℕ → ℕ) → ((j : ℕ) → j < k → B j ≡ C j) → number k B ≡ number k C
unfolding number
number_equal zero B C g = refl
number_equal (suc k) B C g = let n = number_equal k (λ j. B (suc j)) (λ j. C (suc j)) (λ j l. g (suc j) (omega arith)) in omega (arith, n, g 0 (omega arith))

-- cited by nothing: docs/notes-on-proofs.md names it
pub number_back : (k : ℕ) (B C : ℕ → ℕ) → ((j : ℕ) → B j < one_byte) → ((j : ℕ) → C j < one_byte) → number k B ≡ number k C → (j : ℕ) → j < k → B j ≡ C j
unfolding number
number_back zero B C b c e j l = absurd (omega arith)
number_back (suc k) B C b c e zero l = omega (arith, e, b 0, c 0)
number_back (suc k) B C b c e (suc j) l = number_back k (λ j. B (suc j)) (λ j. C (suc j)) (λ j. b (suc j)) (λ j. c (suc j)) (omega (arith, e, b 0, c 0)) j (omega arith)

-- ---- a code against the part of a file that starts at `at`

-- cited by nothing: docs/landings/08-todays-rattle.md names it
pub begins_next : (f : List ℕ) (at : ℕ) (t : List ℕ) (i : ℕ) → Begins f at t i → get_or f (at + i) 0 ≡ get_or t i 0 → Begins f at t (i + 1)
begins_next f at t i g e j l = ⊎_elim (λ (m : j < i). g j m) (λ (m : i ≤ j). let q : j ≡ i = omega arith in rw q e) (lt? j i)

-- Laws of `occurrences`, how often a number stands in a list, and of the list `those`. Assumes nothing.
use Rattle.std.specs.Prelude.{◌≡◌, refl, ◌⊎◌, ◌≢◌, Bool, true, false, ◌&&◌, cond, List, [], ◌∷◌, ◌++◌, ℕ, zero, suc, ◌+◌, ◌≤◌, ◌<◌, eqb, length, get_or}
use Rattle.std.proofs.Common.{ap, ◌∙◌, inl, inr, ⊎_elim, arith, eq-eqb, ne_eqb}
use Rattle.counting.proofs.TestLaws.{eq?, and_true, and_false}
use Rattle.counting.specs.Below.{sum, bit, those}
use Rattle.counting.proofs.BelowLaws.{sum_mono, sum_constant, sum-zero, sum-add}
use Rattle.counting.proofs.CountLaws.{bit_self, bit-other, count_equal}
use Rattle.counting.specs.Lists.{occurrences}

pub occurrences-append : (x : ℕ) (s t : List ℕ) → occurrences x (s ++ t) ≡ occurrences x s + occurrences x t
unfolding occurrences
occurrences-append x [] t = omega arith
occurrences-append x (y ∷ s) t = omega (arith, occurrences-append x s t)

-- one more at the back
pub occurrences_back : (x y : ℕ) (s : List ℕ) → occurrences x (s ++ y ∷ []) ≡ occurrences x s + bit (eqb x y)
unfolding occurrences
occurrences_back x y s = omega (arith, occurrences-append x s (y ∷ []))

pub occurrences_front : (x y : ℕ) (s : List ℕ) → 1 ≤ occurrences x (y ∷ s) → (x ≡ y) ⊎ (1 ≤ occurrences x s)
unfolding occurrences
occurrences_front x y s h = ⊎_elim (λ (e : x ≡ y). inl e) (λ (d : x ≢ y). inr (omega (arith, bit-other x y d))) (eq? x y)

pub occurrences-get_or : (s : List ℕ) (i : ℕ) → i < length s → 1 ≤ occurrences (get_or s i 0) s
unfolding occurrences
occurrences-get_or [] i h = absurd (omega arith)
occurrences-get_or (x ∷ s) zero h = omega (arith, bit_self x)
occurrences-get_or (x ∷ s) (suc i) h = omega (arith, occurrences-get_or s i (omega arith))

-- where no number stands twice, different places have different numbers
pub occurrences_apart : (s : List ℕ) → ((x : ℕ) → occurrences x s ≤ 1) → (i k : ℕ) → i < k → k < length s → get_or s i 0 ≢ get_or s k 0
unfolding occurrences
occurrences_apart [] once i k l m e = absurd (omega arith)
occurrences_apart (x ∷ s) once i zero l m e = absurd (omega arith)
occurrences_apart (x ∷ s) once zero (suc k) l m e = let again : 1 ≤ occurrences x s = rw e (occurrences-get_or s k (omega arith)) in absurd (omega (arith, once x, bit_self x))
occurrences_apart (x ∷ s) once (suc i) (suc k) l m e = occurrences_apart s (λ y. omega (arith, once y)) i k (omega arith) (omega arith) e

-- the occurrences of the numbers below k make up the length, where no other number occurs
pub occurrences-length : (k : ℕ) (s : List ℕ) → ((x : ℕ) → 1 ≤ occurrences x s → x < k) → sum k (λ x. occurrences x s) ≡ length s
unfolding occurrences
occurrences-length k [] h = sum-zero k (λ x. 0) (λ x l. refl)
occurrences-length k (y ∷ s) h =
    omega (arith, sum-add k (λ x. bit (eqb x y)) (λ x. occurrences x s), count_equal k y (h y (omega (arith, bit_self y))), occurrences-length k s (λ x l. h x (omega arith)))

-- numbers below k, all different, are at most k
pub occurrences_most : (k : ℕ) (s : List ℕ) → ((x : ℕ) → 1 ≤ occurrences x s → x < k) → ((x : ℕ) → occurrences x s ≤ 1) → length s ≤ k
occurrences_most k s h d = omega (arith, occurrences-length k s h, sum_mono k (λ x. occurrences x s) (λ x. 1) (λ x l. d x), sum_constant k 1)

-- ---- those that pass a test: each once, the others not

those_back : (k : ℕ) (p : ℕ → Bool) (x : ℕ) → occurrences x (those (suc k) p) ≡ occurrences x (those k p) + bit (p k && eqb x k)
unfolding those
those_back k p x = go (p k)
  where
    go : (b : Bool) → occurrences x (cond b (those k p ++ k ∷ []) (those k p)) ≡ occurrences x (those k p) + bit (b && eqb x k)
    go true = occurrences_back x k (those k p)
    go false = omega arith

pub those_past : (k : ℕ) (p : ℕ → Bool) (x : ℕ) → k ≤ x → occurrences x (those k p) ≡ 0
unfolding those occurrences
those_past zero p x l = refl
those_past (suc k) p x l =
    omega (arith, those_back k p x, those_past k p x (omega arith), ap bit (ap (λ t. p k && t) (ne_eqb x k (omega arith)) ∙ and_false (p k)))

pub those_once : (k : ℕ) (p : ℕ → Bool) (x : ℕ) → x < k → occurrences x (those k p) ≡ bit (p x)
those_once zero p x l = absurd (omega arith)
those_once (suc k) p x l =
    ⊎_elim
    (λ (e : x ≡ k). omega (arith, those_back k p x, those_past k p x (omega arith), ap bit (ap (λ t. p k && t) (eq-eqb x k e) ∙ and_true (p k)), ap (λ a. bit (p a)) e))
    (λ (d : x ≢ k). omega (arith, those_back k p x, those_once k p x (omega arith), ap bit (ap (λ t. p k && t) (ne_eqb x k d) ∙ and_false (p k))))
    (eq? x k)

-- tests that agree below k have the same numbers pass
pub those_equal : (k : ℕ) (p q : ℕ → Bool) → ((i : ℕ) → i < k → p i ≡ q i) → those k p ≡ those k q
unfolding those
those_equal zero p q h = refl
those_equal (suc k) p q h = rw (those_equal k p q (λ i l. h i (omega arith)), h k (omega arith))

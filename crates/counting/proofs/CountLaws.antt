-- Laws of counts, the sums of the bits of a test. Assumes nothing.
use Rattle.std.specs.Prelude.{◌≡◌, refl, ◌⊎◌, ◌≢◌, Bool, true, false, ◌&&◌, not, ℕ, zero, suc, ◌+◌, ◌*◌, ◌≤◌, ◌<◌, eqb}
use Rattle.std.proofs.Common.{ap, ◌∙◌, inl, inr, ⊎_elim, zero-le, arith, eq-eqb, ne_eqb}
use Rattle.counting.proofs.TestLaws.{eq?, lt?, and_both, and_true, and_false}
use Rattle.counting.specs.Below.{sum, bit, count}
use Rattle.counting.proofs.BelowLaws.{sum-next, sum_mono, sum_constant, sum-zero, sum_up_to, sum-part, sum-two, sum_but}

-- ---- bits

pub bit_true : (b : Bool) → 1 ≤ bit b → b ≡ true
bit_true true h = refl
bit_true false h = absurd (omega arith)

pub bit_most : (b : Bool) → bit b ≤ 1
bit_most true = omega arith
bit_most false = omega arith

pub bit_implies : (a b : Bool) → (a ≡ true → b ≡ true) → bit a ≤ bit b
bit_implies true b h = omega (arith, ap bit (h refl))
bit_implies false b h = zero-le

pub bit_self : (e : ℕ) → bit (eqb e e) ≡ 1
bit_self e = ap bit (eq-eqb e e refl)

pub bit-other : (e f : ℕ) → e ≢ f → bit (eqb e f) ≡ 0
bit-other e f d = ap bit (ne_eqb e f d)

-- ---- counts

pub count_in : (k : ℕ) (p : ℕ → Bool) → p k ≡ true → count (k + 1) p ≡ count k p + 1
count_in k p t = sum-next k (λ i. bit (p i)) ∙ ap (λ b. count k p + bit b) t

pub count_out : (k : ℕ) (p : ℕ → Bool) → p k ≡ false → count (k + 1) p ≡ count k p
count_out k p t = omega (arith, sum-next k (λ i. bit (p i)), ap bit t)

pub count_most : (k : ℕ) (p : ℕ → Bool) → count k p ≤ k
count_most k p = omega (arith, sum_mono k (λ i. bit (p i)) (λ i. 1) (λ i l. bit_most (p i)), sum_constant k 1)

pub count_mono : (k : ℕ) (p q : ℕ → Bool) → ((i : ℕ) → i < k → p i ≡ true → q i ≡ true) → count k p ≤ count k q
count_mono k p q h = sum_mono k _ _ (λ i l. bit_implies (p i) (q i) (h i l))

pub count_has : (k : ℕ) (p : ℕ → Bool) (i : ℕ) → i < k → p i ≡ true → 1 ≤ count k p
count_has k p i l t = omega (arith, sum-part k (λ j. bit (p j)) i l, ap bit t)

pub count_some : (k : ℕ) (p : ℕ → Bool) → 1 ≤ count k p → (i : ℕ) × (i < k) × (p i ≡ true)
unfolding sum
count_some zero p h = absurd (omega arith)
count_some (suc k) p h = go (count_some k p) (p k) refl
  where
    go : (1 ≤ count k p → (i : ℕ) × (i < k) × (p i ≡ true)) → (b : Bool) → p k ≡ b → (i : ℕ) × (i < suc k) × (p i ≡ true)
    go ih true t = (k, omega arith, t)
    go ih false t = let w = ih (omega (arith, ap bit t)) in (w.0, omega arith, w.2)

-- of a test that at most one number passes, two that do are one
pub count-one : (k : ℕ) (p : ℕ → Bool) → count k p ≤ 1 → (i j : ℕ) → i < k → j < k → p i ≡ true → p j ≡ true → i ≡ j
count-one k p h i j l m s t =
    ⊎_elim (λ (e : i ≡ j). e) (λ (d : i ≢ j). absurd (omega (arith, sum-two k (λ a. bit (p a)) i j l m d, ap bit s, ap bit t))) (eq? i j)

-- where one number alone passes, the sum of those that do is that number
pub count-place : (k : ℕ) (p : ℕ → Bool) (i : ℕ) → i < k → p i ≡ true → count k p ≤ 1 → sum k (λ j. bit (p j) * j) ≡ i
count-place k p i l t h =
    let z : (j : ℕ) → j < k → j ≢ i → bit (p j) * j ≡ 0 = λ j m d. let y : bit (p j) ≡ 0 = omega (arith, sum-two k (λ a. bit (p a)) j i m l d, ap bit t) in rw y (omega arith) in
    omega (arith, sum_but k (λ j. bit (p j) * j) (λ j. 0) i l z, sum-zero k (λ j. 0) (λ j m. refl), ap (λ b. bit b * i) t)

-- one number is equal to a given one
pub count_equal : (k x : ℕ) → x < k → count k (λ i. eqb i x) ≡ 1
count_equal k x l = omega (arith, sum_but k (λ i. bit (eqb i x)) (λ i. 0) x l (λ j m d. bit-other j x d), sum-zero k (λ i. 0) (λ i m. refl), bit_self x)

-- a test with one number left out
pub count_without : (k : ℕ) (p : ℕ → Bool) (x : ℕ) → x < k → p x ≡ true → count k (λ i. p i && not (eqb i x)) + 1 ≡ count k p
count_without k p x l t =
    let same : (i : ℕ) → i < k → i ≢ x → bit (p i && not (eqb i x)) ≡ bit (p i) = λ i m d. ap (λ b. bit (p i && not b)) (ne_eqb i x d) ∙ ap bit (and_true (p i)) in
    let gone : bit (p x && not (eqb x x)) ≡ 0 = ap (λ b. bit (p x && not b)) (eq-eqb x x refl) ∙ ap bit (and_false (p x)) in
    omega (arith, sum_but k (λ i. bit (p i && not (eqb i x))) (λ i. bit (p i)) x l same, gone, ap bit t)

-- numbers that pass p, sent to different numbers that pass q, are at most as many
pub count_into : (k m : ℕ) (p q : ℕ → Bool) (to : ℕ → ℕ)
    → ((i : ℕ) → i < k → p i ≡ true → (to i < m) × (q (to i) ≡ true))
    → ((i j : ℕ) → i < k → j < k → p i ≡ true → p j ≡ true → to i ≡ to j → i ≡ j)
    → count k p ≤ count m q
unfolding sum
count_into zero m p q to lands apart = zero-le
count_into (suc k) m p q to lands apart = go (p k) refl (λ q' lands'. count_into k m p q' to lands' (λ i j a b. apart i j (omega arith) (omega arith)))
  where
    go : (t : Bool) → p k ≡ t → ((q' : ℕ → Bool) → ((i : ℕ) → i < k → p i ≡ true → (to i < m) × (q' (to i) ≡ true)) → count k p ≤ count m q') → count k p + bit (p k) ≤ count m q
    go true t ih =
        let w = lands k (omega arith) t in
        let rest = ih (λ i. q i && not (eqb i (to k)))
        (λ i l s. ((lands i (omega arith) s).0, and_both (lands i (omega arith) s).1 (ap not (ne_eqb (to i) (to k) (λ e. let z = apart i k (omega arith) (omega arith) s t e in omega arith))))) in
        omega (arith, rest, count_without m q (to k) w.0 w.1, ap bit t)
    go false t ih = omega (arith, ih q (λ i l s. lands i (omega arith) s), ap bit t)

-- ---- how many pass below a number: its rank

pub rank_less : (k : ℕ) (p : ℕ → Bool) (x : ℕ) → x < k → p x ≡ true → count x p < count k p
unfolding sum
rank_less k p x l t = omega (arith, sum_up_to (suc x) k (λ i. bit (p i)) (omega arith), ap bit t)

-- two numbers that pass, with one rank, are one
pub rank_own : (p : ℕ → Bool) (x y : ℕ) → p x ≡ true → p y ≡ true → count x p ≡ count y p → x ≡ y
rank_own p x y s t e =
    ⊎_elim
    (λ (l : x < y). absurd (omega (arith, rank_less y p x l s)))
    (λ (l : y ≤ x). ⊎_elim (λ (i : x ≡ y). i) (λ (d : x ≢ y). absurd (omega (arith, rank_less x p y (omega arith) t))) (eq? x y))
    (lt? x y)

-- each number below the count is the rank of one that passes
pub rank_onto : (k : ℕ) (p : ℕ → Bool) (c : ℕ) → c < count k p → (x : ℕ) × (x < k) × (p x ≡ true) × (count x p ≡ c)
unfolding sum
rank_onto zero p c l = absurd (omega arith)
rank_onto (suc k) p c l = go (rank_onto k p c) (lt? c (count k p))
  where
    go : (c < count k p → (x : ℕ) × (x < k) × (p x ≡ true) × (count x p ≡ c)) → (c < count k p) ⊎ (count k p ≤ c) → (x : ℕ) × (x < suc k) × (p x ≡ true) × (count x p ≡ c)
    go ih (inl a) = let w = ih a in (w.0, omega arith, w.2, w.3)
    go ih (inr a) = (k, omega arith, bit_true (p k) (omega arith), omega (arith, bit_most (p k)))

-- Laws of sums below a bound. Assumes nothing.
use Rattle.std.specs.Prelude.{◌≡◌, refl, ◌≢◌, ℕ, zero, suc, ◌+◌, ◌*◌, ◌%◌, ◌≤◌, ◌<◌}
use Rattle.std.proofs.Common.{sym, ap, ◌∙◌, ⊎_elim, zero-le, add-zero, add-suc, mul-zero, mul-suc, mul_comm, add-one, arith}
use Rattle.std.proofs.Math.Nat.{add-mod}
use Rattle.counting.proofs.TestLaws.{eq?}
use Rattle.counting.specs.Below.{sum}

-- ---- one term after the other, as a loop adds them

pub sum_none : (f : ℕ → ℕ) → sum 0 f ≡ 0
unfolding sum
sum_none f = refl

pub sum-next : (k : ℕ) (f : ℕ → ℕ) → sum (k + 1) f ≡ sum k f + f k
unfolding sum
sum-next k f = rw (add-one k)

-- ---- all terms together

pub sum_mono : (k : ℕ) (f g : ℕ → ℕ) → ((i : ℕ) → i < k → f i ≤ g i) → sum k f ≤ sum k g
unfolding sum
sum_mono zero f g h = zero-le
sum_mono (suc k) f g h = omega (arith, h k (omega arith), sum_mono k f g (λ i l. h i (omega arith)))

pub sum_equal : (k : ℕ) (f g : ℕ → ℕ) → ((i : ℕ) → i < k → f i ≡ g i) → sum k f ≡ sum k g
unfolding sum
sum_equal zero f g h = refl
sum_equal (suc k) f g h = omega (arith, h k (omega arith), sum_equal k f g (λ i l. h i (omega arith)))

pub sum_constant : (k c : ℕ) → sum k (λ i. c) ≡ k * c
unfolding sum
sum_constant zero c = sym (mul_comm 0 c ∙ mul-zero c)
sum_constant (suc k) c = omega (arith, sum_constant k c, mul_comm (suc k) c, mul-suc c k, mul_comm k c)

pub sum-zero : (k : ℕ) (f : ℕ → ℕ) → ((i : ℕ) → i < k → f i ≡ 0) → sum k f ≡ 0
sum-zero k f h = sum_equal k f (λ i. 0) h ∙ sum_constant k 0 ∙ mul-zero k

pub sum-add : (k : ℕ) (f g : ℕ → ℕ) → sum k (λ i. f i + g i) ≡ sum k f + sum k g
unfolding sum
sum-add zero f g = refl
sum-add (suc k) f g = omega (arith, sum-add k f g)

-- the first a parts and the b after them
pub sum_split : (a b : ℕ) (f : ℕ → ℕ) → sum (a + b) f ≡ sum a f + sum b (λ i. f (a + i))
unfolding sum
sum_split a zero f = rw add-zero (omega arith)
sum_split a (suc b) f = rw add-suc (omega (arith, sum_split a b f))

-- a sum up to a lower bound is no larger
pub sum_up_to : (j k : ℕ) (f : ℕ → ℕ) → j ≤ k → sum j f ≤ sum k f
unfolding sum
sum_up_to zero zero f l = zero-le
sum_up_to (suc j) zero f l = absurd (omega arith)
sum_up_to j (suc k) f l = ⊎_elim (λ (i : j ≡ suc k). omega (arith, ap (λ a. sum a f) i)) (λ (d : j ≢ suc k). omega (arith, sum_up_to j k f (omega arith))) (eq? j (suc k))

-- one part is at most the whole, and so are two
pub sum-part : (k : ℕ) (f : ℕ → ℕ) (i : ℕ) → i < k → f i ≤ sum k f
unfolding sum
sum-part k f i l = omega (arith, sum_up_to (suc i) k f (omega arith))

pub sum-two : (k : ℕ) (f : ℕ → ℕ) (i j : ℕ) → i < k → j < k → i ≢ j → f i + f j ≤ sum k f
unfolding sum
sum-two zero f i j l m d = absurd (omega arith)
sum-two (suc k) f i j l m d =
    ⊎_elim
    (λ (e : i ≡ k). omega (arith, ap f e, sum-part k f j (omega arith)))
    (λ (ne : i ≢ k). ⊎_elim (λ (e : j ≡ k). omega (arith, ap f e, sum-part k f i (omega arith))) (λ (me : j ≢ k). omega (arith, sum-two k f i j (omega arith) (omega arith) d)) (eq? j k))
    (eq? i k)

-- two functions that agree but at i
pub sum_but : (k : ℕ) (f g : ℕ → ℕ) (i : ℕ) → i < k → ((j : ℕ) → j < k → j ≢ i → f j ≡ g j) → sum k f + g i ≡ sum k g + f i
unfolding sum
sum_but zero f g i l h = absurd (omega arith)
sum_but (suc k) f g i l h =
    ⊎_elim
    (λ (e : i ≡ k). omega (arith, ap f e, ap g e, sum_equal k f g (λ j m. h j (omega arith) (omega arith))))
    (λ (ne : i ≢ k). omega (arith, h k (omega arith) (omega arith), sum_but k f g i (omega arith) (λ j m d. h j (omega arith) d)))
    (eq? i k)

-- parts that agree mod r make sums that do
pub sum-mod : (r k : ℕ) (f g : ℕ → ℕ) → ((i : ℕ) → i < k → f i % r ≡ g i % r) → sum k f % r ≡ sum k g % r
unfolding sum
sum-mod r zero f g h = refl
sum-mod r (suc k) f g h =
    let a : sum k f % r ≡ sum k g % r = sum-mod r k f g (λ i l. h i (omega arith)) in
    let b : f k % r ≡ g k % r = h k (omega arith) in
    cc (add-mod (sum k f) (f k) r, add-mod (sum k g) (g k) r)

-- so do parts that agree mod r but at i, where g is 0, once f i is added
pub sum-mod_but : (r k : ℕ) (f g : ℕ → ℕ) (i : ℕ) → i < k → g i ≡ 0 → ((j : ℕ) → j < k → j ≢ i → f j % r ≡ g j % r) → sum k f % r ≡ (sum k g + f i) % r
unfolding sum
sum-mod_but r zero f g i l z h = absurd (omega arith)
sum-mod_but r (suc k) f g i l z h =
    ⊎_elim
    (λ (e : i ≡ k).
    let a : sum k f % r ≡ sum k g % r = sum-mod r k f g (λ j m. h j (omega arith) (omega arith)) in
    let b : sum k g + g k + f i ≡ sum k g + f k = omega (arith, ap f e, ap g e) in
    cc (add-mod (sum k f) (f k) r, add-mod (sum k g) (f k) r))
    (λ (ne : i ≢ k).
    let a : sum k f % r ≡ (sum k g + f i) % r = sum-mod_but r k f g i (omega arith) z (λ j m. h j (omega arith)) in
    let b : f k % r ≡ g k % r = h k (omega arith) (omega arith) in
    let c : sum k g + g k + f i ≡ sum k g + f i + g k = omega arith in
    cc (add-mod (sum k f) (f k) r, add-mod (sum k g + f i) (g k) r))
    (eq? i k)

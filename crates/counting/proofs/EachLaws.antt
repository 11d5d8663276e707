-- Laws of `each`: equal parts make equal lists; and where the parts have one length, how long the list is, and where each part stands in it. Assumes nothing.
use Rattle.std.specs.Prelude.{◌≡◌, refl, ◌≢◌, List, ℕ, zero, suc, ◌+◌, ◌*◌, ◌<◌, length, get_or}
use Rattle.std.proofs.Common.{sym, ◌∙◌, ⊎_elim, mul-zero, mul-suc, mul-le-mul_left, arith, length-append, get_or-append-add}
use Rattle.std.proofs.Math.ListN.{get_or-append}
use Rattle.counting.proofs.TestLaws.{eq?}
use Rattle.counting.specs.Lists.{each}

pub each_equal : (k : ℕ) (f g : ℕ → List ℕ) → ((i : ℕ) → i < k → f i ≡ g i) → each k f ≡ each k g
unfolding each
each_equal zero f g h = refl
each_equal (suc k) f g h = rw (each_equal k f g (λ i l. h i (omega arith)), h k (omega arith))

-- of k parts with w places each, place a of part i is a place of the whole
pub place_inside : (w k i a : ℕ) → i < k → a < w → w * i + a < w * k
place_inside w k i a l m = omega (arith, mul-suc w i, mul-le-mul_left {m = suc i} {n = k} w l)

pub length-each : (w k : ℕ) (f : ℕ → List ℕ) → ((i : ℕ) → i < k → length (f i) ≡ w) → length (each k f) ≡ w * k
unfolding each
length-each w zero f long = sym (mul-zero w)
length-each w (suc k) f long = omega (arith, length-append (each k f) (f k), length-each w k f (λ i l. long i (omega arith)), long k (omega arith), mul-suc w k)

pub each_at : (w k : ℕ) (f : ℕ → List ℕ) → ((i : ℕ) → i < k → length (f i) ≡ w) → (i a : ℕ) → i < k → a < w → get_or (each k f) (w * i + a) 0 ≡ get_or (f i) a 0
unfolding each
each_at w zero f long i a l m = absurd (omega arith)
each_at w (suc k) f long i a l m =
    let before : length (each k f) ≡ w * k = length-each w k f (λ j b. long j (omega arith)) in
    ⊎_elim
    (λ (e : i ≡ k). rw (e, ← before) (get_or-append-add (each k f) (f k) a 0))
    (λ (d : i ≢ k). get_or-append (each k f) (f k) 0 (w * i + a) (omega (arith, place_inside w k i a (omega arith) m)) ∙ each_at w k f (λ j b. long j (omega arith)) i a (omega arith) m)
    (eq? i k)

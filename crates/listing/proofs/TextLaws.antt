-- Numbers and codes as text: a digit more, and how many there are. Assumes nothing.
use Rattle.std.specs.Prelude.{◌≡◌, refl, List, [], ◌∷◌, ◌++◌, ℕ, zero, suc, ◌+◌, ◌*◌, ◌/◌, ◌%◌, ◌^◌, ◌≤◌, ◌<◌, length}
use Rattle.std.proofs.Common.{sym, ap, ◌∙◌, ⊎_elim, arith, length-append, lt-ltb, le-ltb}
use Rattle.counting.proofs.TestLaws.{lt?}
use Rattle.directory.specs.Listing.{digit, digits, decimal, hex}

-- ---- decimal numbers

digits-one : (k x : ℕ) → x < 10 → digits k x ≡ digit x ∷ []
unfolding digits
digits-one zero x l = let e : x % 10 ≡ x = omega arith in rw e
digits-one (suc k) x l = rw (lt-ltb x 10 l, digits)

digits_more : (k x : ℕ) → 10 ≤ x → digits (suc k) x ≡ digits k (x / 10) ++ digit (x % 10) ∷ []
unfolding digits
digits_more k x l = rw (le-ltb x 10 l, digits)

-- any k that is enough gives the same digits
digits_enough : (k j x : ℕ) → x ≤ k → x ≤ j → digits k x ≡ digits j x
digits_enough zero j x a b = digits-one zero x (omega arith) ∙ sym (digits-one j x (omega arith))
digits_enough (suc k) zero x a b = digits-one (suc k) x (omega arith) ∙ sym (digits-one zero x (omega arith))
digits_enough (suc k) (suc j) x a b =
    ⊎_elim
    (λ (l : x < 10). digits-one (suc k) x l ∙ sym (digits-one (suc j) x l))
    (λ (l : 10 ≤ x). digits_more k x l ∙ ap (λ s. s ++ digit (x % 10) ∷ []) (digits_enough k j (x / 10) (omega arith) (omega arith)) ∙ sym (digits_more j x l))
    (lt? x 10)

pub decimal-one : (x : ℕ) → x < 10 → decimal x ≡ digit x ∷ []
unfolding decimal
decimal-one x l = digits-one x x l

pub decimal_more : (x : ℕ) → 10 ≤ x → decimal x ≡ decimal (x / 10) ++ digit (x % 10) ∷ []
unfolding decimal
decimal_more zero l = absurd (omega arith)
decimal_more (suc k) l = digits_more k (suc k) l ∙ ap (λ s. s ++ digit (suc k % 10) ∷ []) (digits_enough k (suc k / 10) (suc k / 10) (omega arith) (omega arith))

pub decimal_more_length : (x : ℕ) → 10 ≤ x → length (decimal x) ≡ length (decimal (x / 10)) + 1
decimal_more_length x l = ap length (decimal_more x l) ∙ simp length-append

-- a number below 10, 100, 1,000 and so on has at most 1, 2, 3 and so on digits
pub decimal-length : (k x : ℕ) → x < 10 ^ suc k → length (decimal x) ≤ suc k
decimal-length zero x l = rw (decimal-one x (omega arith)) (omega arith)
decimal-length (suc k) x l =
    ⊎_elim
    (λ (s : x < 10). rw (decimal-one x s) (omega arith))
    (λ (m : 10 ≤ x). omega (arith, decimal_more_length x m, decimal-length k (x / 10) (omega arith)))
    (lt? x 10)

-- ---- codes in hex

pub hex-append : (s t : List ℕ) → hex (s ++ t) ≡ hex s ++ hex t
unfolding hex
hex-append [] t = refl
hex-append (b ∷ s) t = rw (hex-append s t)

pub hex-length : (t : List ℕ) → length (hex t) ≡ 2 * length t
unfolding hex
hex-length [] = refl
hex-length (b ∷ t) = omega (arith, hex-length t)

-- what the goals of the code need
pub ruleset lengths = (decimal-one, decimal_more_length, hex-length)

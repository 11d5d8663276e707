-- Sums, counts and searches over the numbers 0, 1, .. below a bound. Assumes nothing.
use Rattle.std.specs.Prelude.{◌≡◌, Bool, true, false, ◌||◌, cond, List, [], ◌∷◌, ◌++◌, ℕ, zero, suc, ◌+◌, ◌<◌, ltb, Option, MatchOption}

-- f 0 + f 1 + .. + f (k - 1)
unfoldable pub sum : ℕ → (ℕ → ℕ) → ℕ
sum zero f = 0
sum (suc k) f = sum k f + f k

-- a test as a number
abbrev pub bit : Bool → ℕ
bit true = 1
bit false = 0

-- how many numbers below k pass the test
abbrev pub count : ℕ → (ℕ → Bool) → ℕ
count k test = sum k (λ i. bit (test i))

-- some number below k passes the test
unfoldable pub any : ℕ → (ℕ → Bool) → Bool
any zero test = false
any (suc k) test = any k test || test k

-- the lowest number below k that passes the test, and k where none does
unfoldable pub lowest : ℕ → (ℕ → Bool) → ℕ
lowest zero test = 0
lowest (suc k) test = let i = lowest k test in cond (ltb i k) i (cond (test k) k (suc k))

-- a search gives the lowest number below n that passes the test, where one does
abbrev pub FindsLowest : ℕ → (ℕ → Bool) → Option ℕ → Type 0
FindsLowest n test found = MatchOption found (lowest n test ≡ n) (λ k. (k < n) × (k ≡ lowest n test))

-- the numbers below k that pass the test, in rising order
unfoldable pub those : ℕ → (ℕ → Bool) → List ℕ
those zero test = []
those (suc k) test = cond (test k) (those k test ++ k ∷ []) (those k test)

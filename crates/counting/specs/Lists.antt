-- Lists, most of them of numbers. Assumes nothing.
use Rattle.std.specs.Prelude.{Bool, true, false, ◌&&◌, List, [], ◌∷◌, ◌++◌, ℕ, zero, suc, ◌+◌, eqb}
use Rattle.counting.specs.Below.{bit}

-- how often x stands in a list
unfoldable pub occurrences : ℕ → List ℕ → ℕ
occurrences x [] = 0
occurrences x (y ∷ l) = bit (eqb x y) + occurrences x l

-- two lists hold the same numbers in the same order
unfoldable pub same : List ℕ → List ℕ → Bool
same [] [] = true
same [] (y ∷ t) = false
same (x ∷ s) [] = false
same (x ∷ s) (y ∷ t) = eqb x y && same s t

-- f 0, f 1 and so on to f (k - 1), one after the other
unfoldable pub each : ℕ → (ℕ → List ℕ) → List ℕ
each zero f = []
each (suc k) f = each k f ++ f k

-- every element passes the test
unfoldable pub every : {A : Type 0} → (A → Bool) → List A → Bool
every test [] = true
every test (x ∷ l) = test x && every test l

-- Laws of the part of a text before the first byte that passes a test. Assumes nothing.
use Rattle.std.specs.Prelude.{◌≡◌, Bool, get_or}
use Rattle.std.proofs.Math.Path.{refl, ap}
use Rattle.std.proofs.Math.Bool.{true, false, cond}
use mathlib.Core.List.{List, [], ◌∷◌}
use Prim.Native.Nat.{ℕ, zero, suc, ◌≤◌, ◌<◌}
use native.Mathlib.Omega.{arith}
use Rattle.std.proofs.Math.ListN.{length, take}
use Rattle.texts.specs.Parts.{before}

module _ (test : ℕ → Bool) where
  -- ---- what a search finds

  pub before_at : (text : List ℕ) (i : ℕ) → ((k : ℕ) → k < i → test (get_or text k 0) ≡ false) → i < length text → test (get_or text i 0) ≡ true → take i text ≡ before test text
  unfolding before
  before_at [] i none l t = absurd (omega arith)
  before_at (b ∷ text) zero none l t = rw t
  before_at (b ∷ text) (suc i) none l t = rw (none 0 (omega arith)) (ap (λ l. b ∷ l) (before_at text i (λ k m. none (suc k) (omega arith)) (omega arith) t))

  pub before_all : (text : List ℕ) → ((k : ℕ) → k < length text → test (get_or text k 0) ≡ false) → text ≡ before test text
  unfolding before
  before_all [] none = refl
  before_all (b ∷ text) none = rw (none 0 (omega arith)) (ap (λ l. b ∷ l) (before_all text (λ k m. none (suc k) (omega arith))))

  -- ---- it is the beginning of the text

  pub before_most : (t : List ℕ) → length (before test t) ≤ length t
  unfolding before
  before_most [] = omega arith
  before_most (b ∷ t) = go (test b) (before_most t)
    where
      go : (stop : Bool) → length (before test t) ≤ length t → length (cond stop [] (b ∷ before test t)) ≤ suc (length t)
      go true h = omega arith
      go false h = omega arith

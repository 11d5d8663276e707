-- What the tests on lists tell: `every` of each element, `same` of the two lists. Assumes nothing.
use Rattle.std.specs.Prelude.{◌≡◌, refl, ◌≢◌, Bool, true, false, not, List, [], ◌∷◌, ℕ, zero, suc, ◌<◌, eqb, length, get_or}
use Rattle.std.proofs.Common.{sym, ap, ◌∙◌, ⊎_elim, arith, ext_get_or, eqb-true, eq-eqb, ne_eqb}
use Rattle.counting.proofs.TestLaws.{eq?, clash, and_left, and_right}
use Rattle.counting.specs.Below.{bit, count}
use Rattle.counting.proofs.BelowLaws.{sum-zero}
use Rattle.counting.proofs.CountLaws.{count_has}
use Rattle.counting.specs.Lists.{same, every}

pub every_passes : {A : Type 0} (test : A → Bool) (l : List A) → every test l ≡ true → (i : ℕ) (d : A) → i < length l → test (get_or l i d) ≡ true
unfolding every
every_passes test [] t i d h = absurd (omega arith)
every_passes test (x ∷ l) t zero d h = and_left (test x) (every test l) t
every_passes test (x ∷ l) t (suc i) d h = every_passes test l (and_right (test x) (every test l) t) i d (omega arith)

pub same_equal : (s t : List ℕ) → same s t ≡ true → s ≡ t
unfolding same
same_equal [] [] h = refl
same_equal [] (y ∷ t) h = cc
same_equal (x ∷ s) [] h = cc
same_equal (x ∷ s) (y ∷ t) h = let e = eqb-true x y (and_left (eqb x y) (same s t) h) in let r = same_equal s t (and_right (eqb x y) (same s t) h) in cc

pub same_self : (s : List ℕ) → same s s ≡ true
unfolding same
same_self [] = refl
same_self (x ∷ s) = rw (eq-eqb x x refl) (same_self s)

-- two lists of one length are the same exactly if none of their elements is unequal
pub same_none_unequal : (s t : List ℕ) → length s ≡ length t → same s t ≡ eqb (count (length t) (λ i. not (eqb (get_or s i 0) (get_or t i 0)))) 0
same_none_unequal s t e = go (same s t) refl
  where
    unequal : ℕ → Bool
    unequal i = not (eqb (get_or s i 0) (get_or t i 0))

    none : count (length t) unequal ≡ 0 → s ≡ t
    none z = ext_get_or 0 s t e (λ i l. ⊎_elim (λ (q : get_or s i 0 ≡ get_or t i 0). q) (λ (d : get_or s i 0 ≢ get_or t i 0). absurd (let c = count_has (length t) unequal i (omega arith) (ap not (ne_eqb _ _ d)) in omega arith)) (eq? (get_or s i 0) (get_or t i 0)))

    go : (b : Bool) → same s t ≡ b → b ≡ eqb (count (length t) unequal) 0
    go true q = let i = same_equal s t q in sym (eq-eqb _ 0 (sum-zero (length t) (λ i. bit (unequal i)) (λ i l. rw (same_equal s t q, eq-eqb (get_or t i 0) (get_or t i 0) refl))))
    go false q = sym (ne_eqb _ 0 (λ z. clash (ap (λ x. same x t) (none z) ∙ same_self t) q))

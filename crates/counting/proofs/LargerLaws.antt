-- The larger of two numbers is one of the two, and below neither. Assumes nothing.
use Rattle.std.specs.Prelude.{◌≡◌, ◌⊎◌, ℕ, ◌≤◌, ◌<◌}
use Rattle.std.proofs.Common.{sym, ◌∙◌, inl, inr, ⊎_elim, arith, lt-ltb, le-ltb}
use Rattle.counting.proofs.TestLaws.{lt?}
use Rattle.counting.specs.Larger.{larger}

pub larger-first : (a b : ℕ) → b ≤ a → larger a b ≡ a
unfolding larger
larger-first a b h = rw (le-ltb a b h)

pub larger_second : (a b : ℕ) → a ≤ b → larger a b ≡ b
unfolding larger
larger_second a b h = ⊎_elim (λ (l : a < b). rw (lt-ltb a b l)) (λ (l : b ≤ a). larger-first a b l ∙ omega arith) (lt? a b)

pub larger_either : (a b : ℕ) → (larger a b ≡ a) ⊎ (larger a b ≡ b)
larger_either a b = ⊎_elim (λ (l : a < b). inr (larger_second a b (omega arith))) (λ (l : b ≤ a). inl (larger-first a b l)) (lt? a b)

pub larger-both : (a b : ℕ) → (a ≤ larger a b) × (b ≤ larger a b)
larger-both a b =
    ⊎_elim
    (λ (l : a < b). let e = larger_second a b (omega arith) in (omega (arith, e), omega (arith, e)))
    (λ (l : b ≤ a). let e = larger-first a b l in (omega (arith, e), omega (arith, e)))
    (lt? a b)

least : (a b c : ℕ) → a ≤ c → b ≤ c → larger a b ≤ c
least a b c h i = ⊎_elim (λ e. omega (arith, e)) (λ e. omega (arith, e)) (larger_either a b)

-- of four, what is no larger than another may be left out
pub larger_of_two : (a b c d : ℕ) → b ≤ c → d ≤ a → larger (larger a b) c ≡ larger a (larger d c)
larger_of_two a b c d h i =
    ⊎_elim
    (λ (l : a < c). larger_second _ c (least a b c (omega arith) h) ∙ sym (rw (larger_second d c (omega arith)) (larger_second a c (omega arith))))
    (λ (l : c ≤ a). rw (larger-first a b (omega arith)) (larger-first a c l) ∙ sym (larger-first a _ (least d c a i l)))
    (lt? a c)

-- Levels in text: their sign, and what the number after it makes of them. Assumes nothing.
use Rattle.std.specs.Prelude.{◌≡◌, refl, Bool, true, false, List, [], ◌∷◌, ℕ, zero, suc, ◌≤◌, ℤ, pos, neg_ℤ, ◌-ℤ◌, drop, Some, None, eqb, take}
use Rattle.std.proofs.Common.{sym, ap, subst, ◌∙◌, arith, SFits, to_z, of_z, to_z-of_z}
use Rattle.std.proofs.Math.IntN.{+ℤ_idl}
use Rattle.std.specs.Int.{w32}
use Rattle.std.proofs.Math.Facts.{to_z_pos}
use Rattle.counting.proofs.TestLaws.{and_true}
use Rattle.std.specs.Cmp.Lexicographic.{pointwise}
use Rattle.texts.specs.Numbers.{number_of}
use Rattle.texts.specs.Levels.{minus_sign, is_negative, without_sign, most_level, signed_of, level_of}

-- ---- the sign

minus_first : (w : List ℕ) → pointwise eqb (take 1 w) (minus_sign ∷ []) ≡ is_negative w
unfolding is_negative
minus_first [] = refl
minus_first (b ∷ w) = and_true (eqb b minus_sign)

-- the library's answers for what follows it
pub minus_stripped : (w : List ℕ) {digits : List ℕ} → pointwise eqb (take 1 w) (minus_sign ∷ []) ≡ true → digits ≡ drop 1 w → (true ≡ is_negative w) × (digits ≡ without_sign w)
unfolding without_sign
minus_stripped w t e = let negative = sym (minus_first w) ∙ t in (sym negative, rw negative e)

pub no_minus : (w : List ℕ) → pointwise eqb (take 1 w) (minus_sign ∷ []) ≡ false → (false ≡ is_negative w) × (w ≡ without_sign w)
unfolding without_sign
no_minus w f = let plain = sym (minus_first w) ∙ f in (sym plain, rw plain)

-- ---- a number with its sign, as the code computes it

pub record Minus (size : ℕ) : Type 0 where
  pub fits : SFits w32 (pos 0 -ℤ to_z w32 size)
  pub is : to_z w32 (of_z w32 (pos 0 -ℤ to_z w32 size)) ≡ signed_of true size

negative_fits : (size : ℕ) → size ≤ most_level → SFits w32 (neg_ℤ (pos size))
negative_fits zero m = record { sfits = omega arith }
negative_fits (suc k) m = record { sfits = omega arith }

pub minus : (size : ℕ) → size ≤ most_level → Minus size
unfolding signed_of
minus size m =
    let e : pos 0 -ℤ to_z w32 size ≡ neg_ℤ (pos size) = ap (λ y. pos 0 -ℤ y) (to_z_pos w32 {n = size} (omega arith)) ∙ +ℤ_idl (neg_ℤ (pos size)) in
    let f : SFits w32 (neg_ℤ (pos size)) = negative_fits size m in
    record { fits = subst (SFits w32) (sym e) f; is = ap (λ z. to_z w32 (of_z w32 z)) e ∙ to_z-of_z {w = w32} f }

pub plus : (size : ℕ) → size ≤ most_level → to_z w32 size ≡ signed_of false size
unfolding signed_of
plus size m = to_z_pos w32 {n = size} (omega arith)

-- ---- the answer

module _ (w : List ℕ) where
  pub level_wrong : None ≡ number_of most_level (without_sign w) → None ≡ level_of w
  unfolding level_of
  level_wrong e = rw (← e)

  pub level_is : {negative : Bool} {size : ℕ} {level : ℤ} → negative ≡ is_negative w → Some size ≡ number_of most_level (without_sign w) → level ≡ signed_of negative size → Some level ≡ level_of w
  unfolding level_of
  level_is n e l = rw (← n, ← e, l)

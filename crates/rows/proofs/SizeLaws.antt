-- A level as text, by its sign and its size. Assumes nothing.
use Rattle.std.specs.Prelude.{◌≡◌, refl, true, false, ◌∷◌, ◌<◌, ℕ, ℤ, pos, negsuc, nat_abs}
use Rattle.std.proofs.Common.{subst, sym, ap, ◌∙◌, arith, ltb-true, SFits, to_z, of_z, to_z-of_z}
use Rattle.std.specs.Int.Signed.{lt_z}
use Rattle.std.specs.Int.{w32}
use Rattle.counting.proofs.TestLaws.{clash}
use Rattle.rows.specs.Values.{minus_sign, metres, level_text}

below : (z : ℤ) → lt_z z (pos 0) ≡ true → level_text z ≡ minus_sign ∷ metres (nat_abs z)
unfolding level_text
below (pos n) t = let h : n < 0 = ltb-true n 0 t in absurd (omega arith)
below (negsuc k) t = refl

above : (z : ℤ) → lt_z z (pos 0) ≡ false → level_text z ≡ metres (nat_abs z)
unfolding level_text
above (pos n) t = refl
above (negsuc k) t = absurd (clash refl t)

-- the same of a level that the code reads
module _ {level : ℤ} {size : ℕ} (fits : SFits w32 level) (sized : size ≡ nat_abs (to_z w32 (of_z w32 level))) where
  is : to_z w32 (of_z w32 level) ≡ level
  is = to_z-of_z {w = w32} fits

  pub text_below : lt_z (to_z w32 (of_z w32 level)) (pos 0) ≡ true → level_text level ≡ minus_sign ∷ metres size
  text_below t = below level (subst (λ z. lt_z z (pos 0) ≡ true) is t) ∙ ap (λ x. minus_sign ∷ metres x) (sym (sized ∙ ap nat_abs is))

  pub text_above : lt_z (to_z w32 (of_z w32 level)) (pos 0) ≡ false → level_text level ≡ metres size
  text_above t = above level (subst (λ z. lt_z z (pos 0) ≡ false) is t) ∙ ap metres (sym (sized ∙ ap nat_abs is))

-- The code of a line: whether it is in hex, and what is kept of it. Assumes nothing.
use Rattle.std.specs.Prelude.{◌≡◌, refl, true, false, ◌&&◌, List, [], ◌∷◌, ℕ, zero, suc, ◌/◌, ◌≤◌, ◌<◌, min, eqb, take, drop, ◌+◌, Option, Some, None, MatchOption}
use Rattle.std.proofs.Common.{sym, ap, ◌∙◌, ⊎_elim, arith, take_all}
use Rattle.std.proofs.Math.ListN.{length, length-take}
use Rattle.std.proofs.Math.Seq.{take-nil}
use Rattle.std.specs.Borrow.{Bor}
use Rattle.std.specs.Cmp.Lexicographic.{pointwise}
use Rattle.std.proofs.lemmas.List.{take-append-le}
use Rattle.counting.proofs.TestLaws.{lt?}
use Rattle.counting.specs.Lists.{same, each}
use Rattle.counting.proofs.EachLaws.{length-each}
use Rattle.counting.specs.Wrote.{Wrote}
use Rattle.counting.proofs.WroteLaws.{wrote_none}
use Rattle.texts.specs.Codes.{hex_sign, in_hex, hex_digits, first_pairs, pair_byte, wrong_pairs, wrong_line, code_of, most_kept, kept, code_read, code_stored}

-- ---- whether a line is in hex

-- the library's answer for what follows it
same_pointwise : (xs ys : List ℕ) → pointwise eqb xs ys ≡ same xs ys
unfolding same
same_pointwise [] [] = refl
same_pointwise [] (y ∷ ys) = refl
same_pointwise (x ∷ xs) [] = refl
same_pointwise (x ∷ xs) (y ∷ ys) = ap (λ b. eqb x y && b) (same_pointwise xs ys)

pub sign_stripped : (l : List ℕ) (rest : Option (Bor (List ℕ))) → MatchOption rest (pointwise eqb (take 2 l) hex_sign ≡ false) (λ r. (pointwise eqb (take 2 l) hex_sign ≡ true) × (r.now ≡ drop 2 l) × (length r.now + 2 ≡ length l)) → MatchOption rest (in_hex l ≡ false) (λ r. (in_hex l ≡ true) × (r.now ≡ drop 2 l))
unfolding in_hex
sign_stripped l None none = sym (same_pointwise (take 2 l) hex_sign) ∙ none
sign_stripped l (Some r) some = (sym (same_pointwise (take 2 l) hex_sign) ∙ some.0, some.1)

-- ---- whether it is wrong

module _ (l : List ℕ) where
  pub wrong_in_hex : in_hex l ≡ true → wrong_pairs (hex_digits l) ≡ wrong_line l
  unfolding wrong_line
  wrong_in_hex t = rw t

  pub wrong_plain : in_hex l ≡ false → false ≡ wrong_line l
  unfolding wrong_line
  wrong_plain t = rw t

-- ---- what is kept

length-first : (digits : List ℕ) (k : ℕ) → length (first_pairs digits k) ≡ k
unfolding first_pairs
length-first digits k = omega (arith, length-each 1 k (λ i. pair_byte digits i ∷ []) (λ i l. refl))

take-first : (digits : List ℕ) (j k : ℕ) → take j (first_pairs digits k) ≡ first_pairs digits (min k j)
unfolding first_pairs each
take-first digits j zero = let e : min 0 j ≡ 0 = omega arith in rw e (take-nil j)
take-first digits j (suc k) =
    let long : length (first_pairs digits k) ≡ k = length-first digits k in
    ⊎_elim
    (λ (m : k < j).
    let e : min (suc k) j ≡ suc k = omega arith in
    take_all j (first_pairs digits (suc k)) (omega (arith, length-first digits (suc k))) ∙ ap (first_pairs digits) (sym e))
    (λ (m : j ≤ k).
    let e : min k j ≡ min (suc k) j = omega arith in
    take-append-le j (first_pairs digits k) (pair_byte digits k ∷ []) (omega arith) ∙ take-first digits j k ∙ ap (first_pairs digits) e)
    (lt? k j)

module _ (l : List ℕ) where
  pub kept_pairs : in_hex l ≡ true → first_pairs (hex_digits l) (min (length (hex_digits l) / 2) most_kept) ≡ kept l
  unfolding kept code_of
  kept_pairs t = rw t (sym (take-first (hex_digits l) most_kept (length (hex_digits l) / 2)))

  pub kept-plain : in_hex l ≡ false → take most_kept l ≡ kept l
  unfolding kept code_of
  kept-plain t = rw t

  pub kept_most : length (kept l) ≤ most_kept
  unfolding kept
  kept_most = omega (arith, length-take most_kept (code_of l))

  -- ---- the answer, and what is stored

  pub code_wrong : (array : List ℕ) → wrong_line l ≡ true → (None ≡ code_read l) × Wrote 0 (code_stored l) array array (length (code_stored l))
  unfolding code_read code_stored
  code_wrong array t = rw t (refl, wrote_none 0 array)

  pub code_taken : {array after : List ℕ} {to : ℕ} → wrong_line l ≡ false → Wrote 0 (kept l) array after to → (Some to ≡ code_read l) × Wrote 0 (code_stored l) array after (length (code_stored l))
  unfolding code_read code_stored
  code_taken {array} {after} {to} t w = let e : to ≡ length (kept l) = omega (arith, w.next) in rw t (ap Some e, rw e at w)

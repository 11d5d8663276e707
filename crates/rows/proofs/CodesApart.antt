-- A code as a row shows it is read back as that code, so no two codes are shown alike. Assumes nothing.
use Rattle.std.specs.Prelude.{◌≡◌, Bool, List, [], ◌∷◌, ℕ, zero, suc, ◌+◌, ◌-◌, ◌*◌, ◌/◌, ◌%◌, ◌≤◌, ◌<◌, get_or}
use Rattle.std.proofs.Math.Path.{refl}
use Rattle.std.proofs.Common.{sym, ap, ◌∙◌, ⊎_elim, ext_get_or, lt-ltb, le-ltb}
use Rattle.std.proofs.Math.Bool.{true, false}
use native.Mathlib.Omega.{arith}
use Rattle.std.proofs.Math.ListN.{length}
use Rattle.std.proofs.lemmas.Bool.{not-true}
use Rattle.counting.specs.Widths.{one_byte}
use Rattle.counting.proofs.TestLaws.{lt?, or_neither}
use Rattle.counting.specs.Lists.{same}
use Rattle.counting.proofs.EachLaws.{length-each, each_at}
use Rattle.directory.specs.Listing.{digit, hex}
use Rattle.listing.proofs.TextLaws.{hex-length}
use Rattle.texts.specs.Codes.{hex_value, pair_byte, first_pairs, pair_bytes, in_hex, code_of}
use Rattle.texts.proofs.HexLaws.{value-decimal, value_small}
use Rattle.rows.specs.Rows.{plain, code_text}
use Rattle.rows.proofs.RowLaws.{code-plain, code-hex}

-- ---- a byte in two digits

digit_value : (d : ℕ) → d < 16 → hex_value (digit d) ≡ d
unfolding digit
digit_value d m =
    ⊎_elim
    (λ (l : d < 10). rw (lt-ltb d 10 l) (sym (value-decimal (48 + d) (omega arith) (omega arith)) ∙ omega arith))
    (λ (l : 10 ≤ d). rw (le-ltb d 10 l) (sym (value_small (97 + (d - 10)) (omega arith) (omega arith)) ∙ omega arith))
    (lt? d 10)

hex-first : (code : List ℕ) (i : ℕ) → i < length code → get_or (hex code) (2 * i) 0 ≡ digit (get_or code i 0 / 16)
unfolding hex
hex-first [] i m = absurd (omega arith)
hex-first (b ∷ code) zero m = refl
hex-first (b ∷ code) (suc i) m = let e : 2 * suc i ≡ suc (suc (2 * i)) = omega arith in rw e (hex-first code i (omega arith))

hex_second : (code : List ℕ) (i : ℕ) → i < length code → get_or (hex code) (2 * i + 1) 0 ≡ digit (get_or code i 0 % 16)
unfolding hex
hex_second [] i m = absurd (omega arith)
hex_second (b ∷ code) zero m = refl
hex_second (b ∷ code) (suc i) m = let e : 2 * suc i + 1 ≡ suc (suc (2 * i + 1)) = omega arith in rw e (hex_second code i (omega arith))

-- ---- the code again

module _ (code : List ℕ) (bytes : (i : ℕ) → i < length code → get_or code i 0 < one_byte) where
  pair_back : (i : ℕ) → i < length code → pair_byte (hex code) i ≡ get_or code i 0
  unfolding pair_byte
  pair_back i m =
      let b = bytes i m in
      rw (hex-first code i m, hex_second code i m) (omega (arith, digit_value (get_or code i 0 / 16) (omega arith), digit_value (get_or code i 0 % 16) (omega arith)))

  pairs_back : pair_bytes (hex code) ≡ code
  unfolding first_pairs
  pairs_back =
      let many : length (hex code) / 2 ≡ length code = omega (arith, hex-length code) in
      let long : length (first_pairs (hex code) (length code)) ≡ length code = length-each 1 (length code) (λ i. pair_byte (hex code) i ∷ []) (λ i l. refl) ∙ omega arith in
      rw many (ext_get_or 0 (first_pairs (hex code) (length code)) code long (λ i l.
      let m : i < length code = omega arith in
      let e : 1 * i + 0 ≡ i = omega arith in
      rw e at (each_at 1 (length code) (λ i. pair_byte (hex code) i ∷ []) (λ i l. refl) i 0 m (omega arith)) ∙ pair_back i m))

  -- read as a code is read in a text
  pub a_shown_code_is_read_back : code_of (code_text code) ≡ code
  unfolding code_of in_hex same plain
  a_shown_code_is_read_back = go (plain code) refl
    where
      go : (b : Bool) → plain code ≡ b → code_of (code_text code) ≡ code
      go true t = rw (← code-plain code t, or_neither (in_hex code) _ (not-true _ t))
      go false t = rw (← code-hex code t) pairs_back

pub no_two_codes_are_shown_alike : (a b : List ℕ) → ((i : ℕ) → i < length a → get_or a i 0 < one_byte) → ((i : ℕ) → i < length b → get_or b i 0 < one_byte) → code_text a ≡ code_text b → a ≡ b
no_two_codes_are_shown_alike a b x y e = sym (a_shown_code_is_read_back a x) ∙ ap code_of e ∙ a_shown_code_is_read_back b y

-- Codes and answers as they are shown, and how long they are. Assumes nothing.
use Rattle.std.specs.Prelude.{◌≡◌, refl, Bool, true, false, not, List, ◌++◌, ℕ, ◌+◌, ◌-◌, ◌^◌, ◌≤◌, ◌<◌, ℤ, Some, length, get_or}
use Rattle.std.proofs.Common.{sym, ap, ◌∙◌, zero-add, arith, length-append, MatchBool, le-leb}
use Rattle.std.specs.List.{AllWithin, HoldsAt, range_with_len}
use Rattle.std.proofs.lemmas.List.FromFn.{length-range_with_len, get_or-range_with_len}
use Rattle.counting.specs.Below.{any}
use Rattle.counting.proofs.SearchLaws.{any_has, any_none}
use Rattle.directory.specs.Kind.{HD}
use Rattle.directory.specs.Listing.{decimal, hex}
use Rattle.listing.proofs.TextLaws.{decimal-length, hex-length}
use Rattle.sign.specs.Rules.{Last, Asked, heard}
use Rattle.texts.specs.Codes.{hex_sign, in_hex}
use Rattle.rows.specs.Rows.{readable, plain, code_text, longest_code, tells, seen_of, refused_text, longest_word}

-- ---- whether a code is shown as it stands

below : (n i : ℕ) → i < n → get_or (range_with_len 0 n) i 0 ≡ i
below n i l = get_or-range_with_len 0 n i 0 l ∙ zero-add i

-- what a look at all numbers below n says: none of them fails, or one does
pub all_pass : (n : ℕ) (test : ℕ → Bool) (r : Bool) → let l = range_with_len 0 n in MatchBool r (AllWithin (λ i. test i ≡ true) l 0 (length l)) ((k : ℕ) × (k < length l) × HoldsAt (λ i. test i ≡ false) l k) → r ≡ not (any n (λ i. not (test i)))
all_pass n test true h =
    let long = length-range_with_len 0 n in
    sym (ap not (any_none n (λ i. not (test i)) (λ i l. ap not (rw (below n i l) at (h i 0 (omega arith) (omega arith))))))
all_pass n test false h =
    let l : h.0 < n = omega (arith, length-range_with_len 0 n, h.1) in
    sym (ap not (any_has n (λ i. not (test i)) h.0 l (ap not (rw (below n h.0 l) at (h.2 0)))))

module _ (code : List ℕ) where
  pub plain-hex : {h : Bool} → h ≡ in_hex code → h ≡ true → not h ≡ plain code
  unfolding plain
  plain-hex e t = rw (← e, t)

  pub plain_all : {r : Bool} → in_hex code ≡ false → r ≡ not (any (length code) (λ i. not (readable code i))) → r ≡ plain code
  unfolding plain
  plain_all t e = rw (e, t)

  -- ---- its text

  pub code-plain : plain code ≡ true → code ≡ code_text code
  unfolding code_text
  code-plain t = rw t

  pub code-hex : plain code ≡ false → hex_sign ++ hex code ≡ code_text code
  unfolding code_text
  code-hex t = rw t

  pub code_short : length code ≤ HD.positions → length (code_text code) ≤ longest_code
  code_short m = go (plain code) refl
    where
      go : (b : Bool) → plain code ≡ b → length (code_text code) ≤ longest_code
      go true t = omega (arith, ap length (code-plain t))
      go false t = omega (arith, ap length (code-hex t), length-append hex_sign (hex code), hex-length code)

pub ruleset coded = (code-plain, code-hex, hex-length)

-- ---- the word of a refusal

pub refused_length : (number : ℕ) → length (refused_text number) ≡ length (decimal number) + 8
unfolding refused_text
refused_length number = simp length-append (omega arith)

pub refused_short : (number : ℕ) → number < 2 ^ 8 → length (refused_text number) ≤ longest_word
refused_short number m = omega (arith, refused_length number, decimal-length 2 number (omega arith))

-- ---- what is seen

pub seen_report : {last : Last} {level : ℤ} {time : ℕ} (answer : Asked) (moment : ℕ) → last ≡ heard level time → tells answer ≡ true → time ≤ moment → Some (record { level = level; age = moment - time }) ≡ seen_of last answer moment
unfolding seen_of
seen_report {time = time} answer moment e t m = rw (e, t, le-leb time moment m)

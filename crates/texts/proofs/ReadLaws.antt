-- How much is read of a text at most, what the answers tell of it, and that what is read stands at the start of the arrays. Assumes nothing.
use Rattle.std.proofs.Math.Path.{◌≡◌, refl}
use Rattle.std.proofs.Common.{ap, ◌∙◌}
use Rattle.std.specs.Prelude.{Bool, List, [], ◌∷◌, take, drop, Result, Ok, Err}
use Rattle.std.proofs.Math.Bool.{true, false}
use Prim.Native.Nat.{ℕ, zero, suc, ◌*◌, ◌≤◌}
use native.Mathlib.Omega.{arith}
use Rattle.std.proofs.Math.Dec.{ltb}
use Rattle.std.proofs.Math.ListN.{length, length-append}
use Rattle.std.proofs.Math.Seq.{take-append_seam}
use borrow.Author.Tests.{ltb-false}
use Rattle.counting.specs.Lists.{each}
use Rattle.counting.proofs.EachLaws.{length-each}
use Rattle.counting.proofs.SearchLaws.{lowest_is}
use Rattle.counting.specs.Wrote.{Wrote}
use Rattle.counting.proofs.WroteLaws.{wrote_whole}
use Rattle.texts.specs.declared.Codes.{Codes}
use Rattle.texts.specs.declared.WrongLine.{WrongLine}
use Rattle.texts.specs.declared.WrongWord.{WrongWord}
use Rattle.texts.specs.Lines.{no_line, line}
use Rattle.texts.specs.Words.{no_word, word}
use Rattle.texts.specs.Numbers.{value_of, wrong_number}
use Rattle.texts.specs.Codes.{most_kept, kept, wrong_line}
use Rattle.texts.proofs.CodeLaws.{kept_most}
use Rattle.texts.specs.Reading.{most_lines, most_run, lines_read, lines_right, run_to, run_of, ends_of, codes_of, most_words, most_weight, words_read, words_right, values_to, values_of, weights_of}
use Rattle.texts.proofs.ListLaws.{ends_many}

-- what was written at the start stands there
pub written-first : {f before after : List ℕ} {to : ℕ} → Wrote 0 f before after to → length f ≤ length before → take (length f) after ≡ f
written-first {f} {before} {after} w room = ap (take (length f)) (wrote_whole w room) ∙ take-append_seam f (drop (length f) before)

module _ (text : List ℕ) where
  -- ---- at most so many

  lines_fewer : lines_right text ≤ lines_read text
  unfolding lines_right
  lines_fewer = (lowest_is (lines_read text) (λ k. wrong_line (line text k))).most

  lines_most : lines_right text ≤ most_lines
  unfolding lines_read
  lines_most = omega (arith, lines_fewer, (lowest_is most_lines (no_line text)).most)

  run_short : (k : ℕ) → length (run_to text k) ≤ most_kept * k
  unfolding run_to each
  run_short zero = omega arith
  run_short (suc k) = omega (arith, length-append (run_to text k) (kept (line text k)), run_short k, kept_most (line text k))

  words_fewer : words_right text ≤ words_read text
  unfolding words_right
  words_fewer = (lowest_is (words_read text) (λ k. wrong_number most_weight (word text k))).most

  words_most : words_right text ≤ most_words
  unfolding words_read
  words_most = omega (arith, words_fewer, (lowest_is most_words (no_word text)).most)

  values_many : length (values_of text) ≡ words_right text
  unfolding values_to
  values_many = omega (arith, length-each 1 (words_right text) (λ i. value_of (word text i) ∷ []) (λ i l. refl))

  -- ---- what the answers tell

  pub codes_read_lem : {codes : Codes} → Ok codes ≡ codes_of text → (codes.count ≡ lines_right text) × (codes.size ≡ length (run_of text))
  unfolding codes_of
  codes_read_lem {codes} e = go (ltb (lines_right text) (lines_read text)) refl
    where
      go : (b : Bool) → ltb (lines_right text) (lines_read text) ≡ b → (codes.count ≡ lines_right text) × (codes.size ≡ length (run_of text))
      go true t = let z : ◌≡◌ {A = Result Codes WrongLine} (Ok codes) (Err (record { 0 = lines_right text })) = e ∙ rw t in cc
      go false t =
          let z : ◌≡◌ {A = Result Codes WrongLine} (Ok codes) (Ok (record { count = lines_read text; size = length (run_of text) })) = e ∙ rw t in
          let same : codes ≡ record { count = lines_read text; size = length (run_of text) } = cc in
          (ap (λ (c : Codes). c.count) same ∙ omega (arith, ltb-false (lines_right text) (lines_read text) t, lines_fewer), ap (λ (c : Codes). c.size) same)

  pub weights_read : {n : ℕ} → Ok n ≡ weights_of text → n ≡ words_right text
  unfolding weights_of
  weights_read {n} e = go (ltb (words_right text) (words_read text)) refl
    where
      go : (b : Bool) → ltb (words_right text) (words_read text) ≡ b → n ≡ words_right text
      go true t = let z : ◌≡◌ {A = Result ℕ WrongWord} (Ok n) (Err (record { 0 = words_right text })) = e ∙ rw t in cc
      go false t =
          let z : ◌≡◌ {A = Result ℕ WrongWord} (Ok n) (Ok (words_read text)) = e ∙ rw t in
          let a : n ≡ words_read text = cc in
          omega (arith, ltb-false (words_right text) (words_read text) t, words_fewer)

  -- ---- the beginnings of the arrays

  module _ {before after : List ℕ} {to : ℕ} where
    pub run_first : Wrote 0 (run_of text) before after to → most_run ≤ length before → take (length (run_of text)) after ≡ run_of text
    run_first w room = written-first w (omega (arith, run_short (lines_right text), lines_most))

    pub ends_first : Wrote 0 (ends_of text) before after to → most_lines ≤ length before → take (lines_right text) after ≡ ends_of text
    ends_first w room = rw (ends_many text (lines_right text)) at (written-first w (omega (arith, ends_many text (lines_right text), lines_most)))

    pub values-first : Wrote 0 (values_of text) before after to → most_words ≤ length before → take (words_right text) after ≡ values_of text
    values-first w room = rw values_many at (written-first w (omega (arith, values_many, words_most)))

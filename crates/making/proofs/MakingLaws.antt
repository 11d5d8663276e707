-- The answer and the buffer, by what reading the texts gives. Assumes nothing.
use Rattle.std.specs.Prelude.{◌≡◌, refl, List, ℕ, ◌≤◌, length, take, Ok, Err}
use Rattle.std.proofs.Common.{ap, ◌∙◌}
use Rattle.counting.specs.Wrote.{Wrote}
use Rattle.directory.specs.Building.{Lent, lent}
use Rattle.directory.specs.Calls.{build_of, buffer_after_of}
use Rattle.directory.specs.Answers.{Built}
use Rattle.texts.specs.declared.Codes.{Codes}
use Rattle.texts.specs.declared.WrongLine.{WrongLine}
use Rattle.texts.specs.declared.WrongWord.{WrongWord}
use Rattle.texts.specs.Reading.{most_lines, most_run, most_words, run_of, ends_of, codes_of, values_of, weights_of}
use Rattle.texts.proofs.ReadLaws.{codes_read_lem, weights_read, run_first, ends_first, values-first}
use Rattle.making.specs.declared.NotMade.TheVariants.{Line, Word}
use Rattle.making.specs.Making.{after_building, lent_of, made_of, made_buffer}

-- the same lists by other names
pub lent_same : (r v : ℕ) (buffer : List ℕ) {run run' ends ends' numbers numbers' : List ℕ} → run ≡ run' → ends ≡ ends' → numbers ≡ numbers' → lent run ends r v numbers buffer ≡ lent run' ends' r v numbers' buffer
lent_same r v buffer x y z = rw (x, y, z)

module _ (c w : List ℕ) (r v : ℕ) (buffer : List ℕ) where
  pub made-wrong_line : (wrong : WrongLine) → Err wrong ≡ codes_of c → (Err (Line wrong) ≡ made_of c w r v buffer) × (buffer ≡ made_buffer c w r v buffer)
  unfolding made_of made_buffer
  made-wrong_line wrong e = rw (← e) (refl, refl)

  module _ (codes : Codes) (e : Ok codes ≡ codes_of c) where
    pub made_wrong_word : (wrong : WrongWord) → Err wrong ≡ weights_of w → (Err (Word wrong) ≡ made_of c w r v buffer) × (buffer ≡ made_buffer c w r v buffer)
    unfolding made_of made_buffer
    made_wrong_word wrong d = rw (← e, ← d) (refl, refl)

    -- what is read stands at the starts of the arrays, and is what is built
    module _ (count : ℕ) (d : Ok count ≡ weights_of w) {run₀ run ends₀ ends numbers₀ numbers : List ℕ} {a b k : ℕ} where
      pub read_lent : Wrote 0 (run_of c) run₀ run a → most_run ≤ length run₀ → Wrote 0 (ends_of c) ends₀ ends b → most_lines ≤ length ends₀ → Wrote 0 (values_of w) numbers₀ numbers k → most_words ≤ length numbers₀ → lent (take codes.size run) (take codes.count ends) r v (take count numbers) buffer ≡ lent_of c w r v buffer
      read_lent x l y m z o =
          let s = codes_read_lem c e in
          lent_same r v buffer (ap (λ i. take i run) s.1 ∙ run_first c x l) (ap (λ i. take i ends) s.0 ∙ ends_first c y m) (ap (λ i. take i numbers) (weights_read w d) ∙ values-first w z o)

    pub made_built : (count : ℕ) → Ok count ≡ weights_of w → {I : Lent} {built : Built} {after : List ℕ} → I ≡ lent_of c w r v buffer → built ≡ build_of I → after ≡ buffer_after_of I → (after_building codes.count built ≡ made_of c w r v buffer) × (after ≡ made_buffer c w r v buffer)
    unfolding made_of made_buffer
    made_built count d s m a = (ap (after_building codes.count) (m ∙ ap build_of s) ∙ rw (← e, ← d), a ∙ ap buffer_after_of s ∙ rw (← e, ← d))

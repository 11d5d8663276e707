-- The weights of a text, word after word: one turn of the loop, and the answer. Assumes nothing.
use Rattle.std.specs.Prelude.{◌≡◌, true, false, List, [], ◌∷◌, ℕ, ◌+◌, ◌≤◌, ◌<◌, set, Result, Ok, Err, Some, None}
use Rattle.std.proofs.Common.{ap, arith, lt-ltb, le-ltb}
use Rattle.counting.specs.Wrote.{Wrote}
use Rattle.counting.proofs.WroteLaws.{wrote_one, wrote_named, wrote_each_none, wrote_each-next}
use Rattle.texts.specs.declared.WrongWord.{WrongWord}
use Rattle.texts.specs.Parts.{since}
use Rattle.texts.specs.Words.{is_blank, not_blank, from_word, no_word, word}
use Rattle.texts.proofs.WordSteps.{word_first, word_next}
use Rattle.texts.specs.Numbers.{wrong_number, number_of}
use Rattle.texts.proofs.NumberSteps.{number_is, number_wrong}
use Rattle.texts.specs.Reading.{most_words, most_weight, words_read, words_right, values_to, values_of, weights_of}
use Rattle.texts.proofs.PassedLaws.{Passed, passed_none, passed_more, passed_all, passed_wrong}

-- k words are read, and the text from word k on is left
pub record WeightsTo (text weights₀ weights rest : List ℕ) (k : ℕ) : Type 0 where
  pub stored : Wrote 0 (values_to text k) weights₀ weights k
  pub passed : Passed (no_word text) (λ i. wrong_number most_weight (word text i)) k
  pub left : rest ≡ from_word text k

pub weights_none : (text weights rest : List ℕ) → rest ≡ since not_blank text → WeightsTo text weights weights rest 0
unfolding values_to
weights_none text weights rest is = record { stored = wrote_each_none _ 0 weights; passed = passed_none; left = word_first text is }

-- what the contract says
abbrev pub WeightsRead : List ℕ → List ℕ → List ℕ → Result ℕ WrongWord → Type 0
WeightsRead text weights₀ weights answer = (answer ≡ weights_of text) × Wrote 0 (values_of text) weights₀ weights (words_right text)

module _ {text weights₀ weights rest : List ℕ} {k : ℕ} (s : WeightsTo text weights₀ weights rest k) where
  -- ---- one word more

  pub weights_more : (x : ℕ) (next : List ℕ) → no_word text k ≡ false → Some x ≡ number_of most_weight (word text k) → next ≡ since not_blank (since is_blank rest) → WeightsTo text weights₀ (set weights k x) next (k + 1)
  unfolding values_to
  weights_more x next there is n =
      let r = number_is most_weight (word text k) x is in
      record {
        stored = wrote_each-next k _ s.stored (wrote_named (ap (λ v. v ∷ []) r.1) (wrote_one k x weights));
        passed = passed_more k s.passed there r.0;
        left = word_next text k s.left n;
      }

  -- ---- the answer

  written : k ≡ words_right text → Wrote 0 (values_of text) weights₀ weights (words_right text)
  written e = rw (← e) s.stored

  pub weights_all : k ≤ most_words → (k < most_words → no_word text k ≡ true) → WeightsRead text weights₀ weights (Ok k)
  unfolding weights_of words_read words_right
  weights_all few last =
      let p = passed_all most_words k s.passed few last in
      (rw (le-ltb (words_right text) (words_read text) (omega (arith, p.0, p.1))) (ap Ok p.0), written p.1)

  pub weights_wrong : k < most_words → no_word text k ≡ false → None ≡ number_of most_weight (word text k) → WeightsRead text weights₀ weights (Err (record { 0 = k }))
  unfolding weights_of words_read words_right
  weights_wrong few there wrong =
      let p = passed_wrong most_words k s.passed (omega arith) few there (number_wrong most_weight (word text k) wrong) in
      (rw (lt-ltb (words_right text) (words_read text) (omega (arith, p.0, p.1))) (ap (λ i. Err (record { 0 = i })) p.1), written p.1)

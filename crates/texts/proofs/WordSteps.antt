-- One word more of a text, as a loop reads them. Assumes nothing.
use Rattle.std.specs.Prelude.{◌≡◌, Bool, List, ℕ, ◌+◌, eqb, length}
use Rattle.std.proofs.Common.{ap, ◌∙◌, add-one}
use Rattle.texts.specs.Parts.{before, since}
use Rattle.texts.specs.Words.{is_blank, not_blank, from_word, no_word, word}

pub word_first : (text : List ℕ) {rest : List ℕ} → rest ≡ since not_blank text → rest ≡ from_word text 0
unfolding from_word
word_first text is = is

module _ (text : List ℕ) {rest : List ℕ} (k : ℕ) (is : rest ≡ from_word text k) where
  pub word_next : {next : List ℕ} → next ≡ since not_blank (since is_blank rest) → next ≡ from_word text (k + 1)
  unfolding from_word
  word_next m = rw (add-one k, ← is) m

  pub word_here : before is_blank rest ≡ word text k
  unfolding word
  word_here = ap (before is_blank) is

  -- a test whether something is left
  pub word_over : {empty : Bool} → empty ≡ eqb (length rest) 0 → empty ≡ no_word text k
  unfolding no_word
  word_over e = e ∙ ap (λ t. eqb (length t) 0) is

-- One line more of a text, as a loop reads them, and a line without its carriage return. Assumes nothing.
use Rattle.std.specs.Borrow.{Bor}
use Rattle.std.specs.Cmp.Lexicographic.{pointwise}
use Rattle.std.specs.Prelude.{[], ◌∷◌, ◌&&◌, eqb, ltb, Option, Some, None, MatchOption, unwrap_or, ◌≡◌, refl, Bool, true, false, List, ℕ, suc, ◌+◌, ◌-◌, ◌≤◌, ◌<◌, length, get_or, take, drop}
use Rattle.std.proofs.Common.{ap, ◌∙◌, add-one, arith, drop_of_length-le, drop-cons}
use Rattle.counting.proofs.TestLaws.{and_true}
use borrow.Author.Tests.{lt-ltb}
use Rattle.texts.specs.Parts.{before, since}
use Rattle.texts.specs.Lines.{is_newline, return, from_line, no_line, without_return, line}

-- ---- line after line

pub line_first : (text : List ℕ) → text ≡ from_line text 0
unfolding from_line
line_first text = refl

module _ (text : List ℕ) {rest : List ℕ} (k : ℕ) (is : rest ≡ from_line text k) where
  pub line_next : {next : List ℕ} → next ≡ drop 1 (since is_newline rest) → next ≡ from_line text (k + 1)
  unfolding from_line
  line_next m = rw (add-one k, ← is) m

  pub line_here : without_return (before is_newline rest) ≡ line text k
  unfolding line
  line_here = ap (λ t. without_return (before is_newline t)) is

  -- a test whether something is left
  pub line_over : {empty : Bool} → empty ≡ eqb (length rest) 0 → empty ≡ no_line text k
  unfolding no_line
  line_over e = e ∙ ap (λ t. eqb (length t) 0) is

-- ---- the carriage return

-- whether it is the last byte, as the library tests it
last_byte : (l : List ℕ) (k : ℕ) → k ≡ length l - 1 → pointwise eqb (drop k l) (return ∷ []) ≡ ltb 0 (length l) && eqb (get_or l k 0) return
last_byte [] k last = let e : k ≡ 0 = omega arith in rw e
last_byte (b ∷ l) k last =
    let inside : k < length (b ∷ l) = omega arith in
    let past : length (b ∷ l) ≤ suc k = omega arith in
    rw (drop-cons (b ∷ l) k 0 inside, drop_of_length-le (b ∷ l) past, lt-ltb 0 (length (b ∷ l)) (omega arith)) (and_true (eqb (get_or (b ∷ l) k 0) return))

pub return_stripped : (l : Bor (List ℕ)) (front : Option (Bor (List ℕ))) → MatchOption front (pointwise eqb (drop (length l.now - 1) l.now) (return ∷ []) ≡ false) (λ f. (pointwise eqb (drop (length l.now - 1) l.now) (return ∷ []) ≡ true) × (f.now ≡ take (length l.now - 1) l.now) × (length f.now + 1 ≡ length l.now)) → (unwrap_or front l).now ≡ without_return l.now
unfolding without_return
return_stripped l None none = rw (← last_byte l.now (length l.now - 1) refl, none)
return_stripped l (Some f) some = rw (← last_byte l.now (length l.now - 1) refl, some.0) some.1

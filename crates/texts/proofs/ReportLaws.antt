-- The report of a line, by what its words are, and what a report tells of them. Assumes nothing.
use Rattle.std.proofs.Math.Path.{◌≡◌, refl}
use Rattle.std.proofs.Common.{◌∙◌, sym, cond, arith}
use Rattle.std.specs.Prelude.{◌↔◌, Bool, List, ℕ, ℤ, Option, Some, None}
use Rattle.std.proofs.Math.Bool.{true, false}
use Rattle.std.proofs.Math.ListN.{length}
use borrow.Author.Tests.{eqb-true, eq-eqb}
use Rattle.counting.proofs.TestLaws.{clash, never_true, or_neither}
use Rattle.texts.specs.declared.Report.{Report}
use Rattle.texts.proofs.PartsLaws.{before_most}
use Rattle.texts.specs.Words.{is_blank, from_word, word, no_word}
use Rattle.texts.specs.Numbers.{wrong_number, number_of}
use Rattle.texts.proofs.NumberSteps.{number_is}
use Rattle.texts.specs.Codes.{wrong_line, kept, code_read, code_stored}
use Rattle.texts.specs.Levels.{level_of}
use Rattle.texts.specs.Reports.{most_time, report_from, report_of}

module _ (l : List ℕ) where
  -- ---- what one of the words, or a fourth, makes of the line

  none : (b : Bool) {report : Option Report} → None ≡ report → None ≡ cond b report None
  none true e = e
  none false e = refl

  pub no_code : None ≡ code_read (word l 0) → None ≡ report_of l
  unfolding report_of report_from
  no_code c = none (no_word l 3) (rw (← c))

  pub no_level : {size : ℕ} → Some size ≡ code_read (word l 0) → None ≡ level_of (word l 1) → None ≡ report_of l
  unfolding report_of report_from
  no_level c z = none (no_word l 3) (rw (← c, ← z))

  pub no_time : {size : ℕ} {level : ℤ} → Some size ≡ code_read (word l 0) → Some level ≡ level_of (word l 1) → None ≡ number_of most_time (word l 2) → None ≡ report_of l
  unfolding report_of report_from
  no_time c z t = none (no_word l 3) (rw (← c, ← z, ← t))

  pub report_longer : no_word l 3 ≡ false → None ≡ report_of l
  unfolding report_of
  report_longer w = rw w

-- ---- a report has three words that are right, and no fourth

pub record Right (l : List ℕ) (report : Report) : Type 0 where
  pub ends : no_word l 3 ≡ true
  pub taken : Some report.size ≡ code_read (word l 0)
  pub height : Some report.level ≡ level_of (word l 1)
  pub moment : Some report.time ≡ number_of most_time (word l 2)

module _ {l : List ℕ} {report : Report} where
  right : Some report ≡ report_of l → Right l report
  unfolding report_of report_from
  right e = go (no_word l 3) refl (code_read (word l 0)) refl (level_of (word l 1)) refl (number_of most_time (word l 2)) refl
    where
      go : (b : Bool) → no_word l 3 ≡ b → (c : Option ℕ) → code_read (word l 0) ≡ c → (h : Option ℤ) → level_of (word l 1) ≡ h → (m : Option ℕ) → number_of most_time (word l 2) ≡ m → Right l report
      go false t c x h y m w = let s : Some report ≡ None = e ∙ rw t in cc
      go true t None x h y m w = let s : Some report ≡ None = e ∙ rw (t, x) in cc
      go true t (Some k) x None y m w = let s : Some report ≡ None = e ∙ rw (t, x, y) in cc
      go true t (Some k) x (Some v) y None w = let s : Some report ≡ None = e ∙ rw (t, x, y, w) in cc
      go true t (Some k) x (Some v) y (Some u) w =
          let s : Some report ≡ Some (record { size = k; level = v; time = u }) = e ∙ rw (t, x, y, w) in
          let r : report ≡ record { size = k; level = v; time = u } = cc in
          rw r (record { ends = t; taken = sym x; height = sym y; moment = sym w })

  back : Right l report → Some report ≡ report_of l
  unfolding report_of report_from
  back r = rw (r.ends, ← r.taken, ← r.height, ← r.moment)

  pub report_exactly : (Some report ≡ report_of l) ↔ Right l report
  report_exactly = (right, back)

  -- so there are three words: the third is a number, and no number is empty
  pub three_words : Right l report → no_word l 2 ≡ false
  unfolding no_word word wrong_number
  three_words r =
      never_true (no_word l 2) (λ none.
      let long : length (word l 2) ≡ 0 = omega (arith, before_most is_blank (from_word l 2), eqb-true (length (from_word l 2)) 0 none) in
      clash (eq-eqb _ _ long) (or_neither _ _ (or_neither _ _ (number_is most_time (word l 2) report.time r.moment).0)))

-- ---- the code that is kept of a word

module _ (w : List ℕ) {size : ℕ} where
  pub code_is : Some size ≡ code_read w → (code_stored w ≡ kept w) × (size ≡ length (kept w))
  unfolding code_read code_stored
  code_is e = go (wrong_line w) refl
    where
      go : (b : Bool) → wrong_line w ≡ b → (code_stored w ≡ kept w) × (size ≡ length (kept w))
      go true t = let s : Some size ≡ None = e ∙ rw t in cc
      go false t = let s : Some size ≡ Some (length (kept w)) = e ∙ rw t in (rw t, cc)

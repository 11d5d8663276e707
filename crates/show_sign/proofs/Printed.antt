-- What is printed, for readers: the rows of the lists that the reports of a text leave, from cleared ones on. So what the sign promises of any calls holds of what is shown. Assumes nothing.
use Rattle.std.specs.Prelude.{◌≡◌, refl, true, List, [], ◌∷◌, ◌++◌, ℕ, zero, suc, ◌<◌, Option, Some, None, Ok}
use Rattle.std.proofs.Common.{sym, ◌∙◌}
use Rattle.std.proofs.Math.Path.{ap}
use Rattle.directory.specs.Sizes.{headed}
use Rattle.directory.specs.Calls.{open_of, show_of}
use Rattle.directory.proofs.EveryFile.{what_opens_has_its_header}
use Rattle.texts.specs.declared.Report.{Report}
use Rattle.texts.specs.Lines.{line}
use Rattle.texts.specs.Words.{word}
use Rattle.texts.specs.Codes.{kept}
use Rattle.texts.specs.Reports.{report_of}
use Rattle.sign.specs.Rules.{a_question, limit_allowed}
use Rattle.sign.specs.Keeping.{Lists, fits, heard_at, cleared}
use Rattle.sign.specs.Calls.{lines_of, lines_in, ask_of}
use Rattle.sign.specs.Trace.{Call, after, sign_next, sign, nothing}
use Rattle.sign.proofs.TraceLaws.{after_stands, cleared_stands}
use Rattle.rows.proofs.Shown as shown
use Rattle.show_sign.specs.Taken.{after_read, after_line, after_lines, after_text, calls_read, calls_to, calls_in}

-- ---- the reports of a text are calls, one after the other

after_both : (f : List ℕ) (S : Lists) (ks more : List Call) → after (sign f) S (ks ++ more) ≡ after (sign f) (after (sign f) S ks) more
unfolding after
after_both f S [] more = refl
after_both f S (k ∷ ks) more = after_both f (sign_next f S k) ks more

read_calls : (f code : List ℕ) (report : Option Report) (S : Lists) → after_read f code report S ≡ after (sign f) S (calls_read code report)
unfolding after_read calls_read after sign_next
read_calls f code (Some r) S = refl
read_calls f code None S = refl

lines_calls : (f text : List ℕ) (k : ℕ) (S : Lists) → after_lines f text k S ≡ after (sign f) S (calls_to text k)
unfolding after_lines after_line calls_to after
lines_calls f text zero S = refl
lines_calls f text (suc k) S =
    let l = line text k in
    let calls = calls_to text k in
    let code = kept (word l 0) in
    ap (after_line f l) (lines_calls f text k S) ∙ read_calls f code (report_of l) (after (sign f) S calls) ∙ sym (after_both f S calls (calls_read code (report_of l)))

-- ---- a file that opens, and any text

module _ (f : List ℕ) (n r v : ℕ) (o : open_of f ≡ Ok (headed n r v)) (text : List ℕ) where
  -- the lists when all reports are taken
  abbrev pub left : Lists
  left = after_text f text (cleared n)

  -- they are those that its reports leave as calls of the sign
  pub the_reports_are_calls_of_the_sign : left ≡ after (sign f) (cleared n) (calls_in text)
  unfolding after_text
  the_reports_are_calls_of_the_sign = lines_calls f text _ (cleared n)

  -- they have a place for each line
  pub the_lists_fit : fits n left ≡ true
  unfolding lines_in
  the_lists_fit =
      let header = what_opens_has_its_header f n r v o in
      let lines : lines_in f ≡ n = ap lines_of header in
      rw the_reports_are_calls_of_the_sign (rw lines at (after_stands f (calls_in text) (cleared n) nothing (cleared_stands f header)).fitting)

  -- and each row shows what asking for its code answers
  pub each_row_shows_what_asking_answers : (moment limit : ℕ) → limit_allowed limit ≡ true → (line : ℕ) → line < n → shown.Shows (heard_at left line) moment limit (ask_of f (a_question (show_of f line) moment limit) left)
  each_row_shows_what_asking_answers = shown.each_row_shows_what_asking_answers f n r v o left the_lists_fit

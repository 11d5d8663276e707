-- The reports of a text, line after line: one turn of the loop, and the lists at its end. Assumes nothing.
use Rattle.std.specs.Prelude.{◌≡◌, refl, false, List, ℕ, ◌+◌, ◌≤◌, ◌<◌, ℤ, eqb, length, take, drop, Some, None}
use Rattle.std.proofs.Math.Path.{ap}
use Rattle.std.proofs.Common.{◌∙◌, sym, add-one, arith, eq-eqb, length-drop}
use Rattle.std.proofs.lemmas.Bool.{eqb-false}
use borrow.Author.Count.{below_more}
use Rattle.counting.proofs.SearchLaws.{lowest_only}
use Rattle.counting.specs.Wrote.{Wrote}
use Rattle.texts.specs.declared.Report.{Report}
use Rattle.texts.specs.Parts.{before, since}
use Rattle.texts.proofs.PartsLaws.{before_most}
use Rattle.texts.specs.Lines.{is_newline, from_line, line, no_line, without_return}
use Rattle.texts.proofs.LineSteps.{line_first, line_next, line_here, line_over}
use Rattle.texts.specs.Words.{word}
use Rattle.texts.specs.Codes.{most_kept, kept, code_stored}
use Rattle.texts.proofs.CodeLaws.{kept_most}
use Rattle.texts.proofs.ReadLaws.{written-first}
use Rattle.texts.specs.Reports.{report_of}
use Rattle.texts.proofs.ReportLaws.{report_exactly, code_is}
use Rattle.sign.specs.Rules.{a_report}
use Rattle.sign.specs.Keeping.{Lists}
use Rattle.sign.specs.Calls.{after_report}
use Rattle.show_sign.specs.Taken.{after_read, after_line, after_lines, lines_in, after_text}

-- ---- one line

module _ (f l : List ℕ) (S : Lists) where
  pub line_wrong : None ≡ report_of l → S ≡ after_line f l S
  unfolding after_line after_read
  line_wrong e = rw (← e)

  pub line_taken : {r : Report} {z : ℤ} {code : List ℕ} {after : Lists} → Some r ≡ report_of l → code ≡ kept (word l 0) → z ≡ r.level → after ≡ after_report f (a_report code z r.time) S → after ≡ after_line f l S
  unfolding after_line after_read
  line_taken e c z a = rw (← e) (a ∙ rw (c, z))

-- what is lent to the sign is the code of the first word
pub code_taken : (l : List ℕ) {r : Report} {array after : List ℕ} {to : ℕ} → Some r ≡ report_of l → Wrote 0 (code_stored (word l 0)) array after to → most_kept ≤ length array → take r.size after ≡ kept (word l 0)
code_taken l {r} {array} {after} e w room =
    let c = code_is (word l 0) (report_exactly.0 e).taken in
    let stored : Wrote 0 (kept (word l 0)) array after _ = rw c.0 at w in
    rw c.1 (written-first stored (omega (arith, kept_most (word l 0))))

-- ---- line after line

-- k lines are taken, and the text from line k on is left
pub record TakenTo (f text : List ℕ) (S₀ S : Lists) (rest : List ℕ) (k : ℕ) : Type 0 where
  pub lists : S ≡ after_lines f text k S₀
  pub left : rest ≡ from_line text k
  pub there : (j : ℕ) → j < k → no_line text j ≡ false
  pub few : k + length rest ≤ length text

pub taken_none : (f text : List ℕ) (S : Lists) → TakenTo f text S S text 0
unfolding after_lines
taken_none f text S = record { lists = refl; left = line_first text; there = λ j l. absurd (omega arith); few = omega arith }

-- where something is left, less is left after a line
after_shorter : (rest : List ℕ) → eqb (length rest) 0 ≡ false → length (drop 1 (since is_newline rest)) + 1 ≤ length rest
after_shorter rest some = omega (arith, eqb-false _ _ some, length-drop 1 (since is_newline rest), length-drop (length (before is_newline rest)) rest, before_most is_newline rest)

module _ {f text : List ℕ} {S₀ S : Lists} {rest : List ℕ} {k : ℕ} (s : TakenTo f text S₀ S rest k) where
  pub taken_more : {l : List ℕ} {S' : Lists} {next : List ℕ} → eqb (length rest) 0 ≡ false → l ≡ without_return (before is_newline rest) → next ≡ drop 1 (since is_newline rest) → S' ≡ after_line f l S → TakenTo f text S₀ S' next (k + 1)
  unfolding after_lines
  taken_more {l} {S'} {next} some is n e =
      let here : l ≡ line text k = is ∙ line_here text k s.left in
      record {
        lists = rw (add-one k) (e ∙ ap (λ t. after_line f t S) here ∙ ap (after_line f (line text k)) s.lists);
        left = line_next text k s.left n;
        there = below_more _ k s.there (sym (line_over text k s.left refl) ∙ some);
        few = omega (arith, ap length n, after_shorter rest some, s.few);
      }

  pub taken_all : length rest ≡ 0 → S ≡ after_text f text S₀
  unfolding after_text lines_in
  taken_all none =
      let count : k ≡ lines_in text = lowest_only (record { none_before = s.there; most = omega (arith, s.few); passes = λ l. sym (line_over text k s.left refl) ∙ eq-eqb _ _ none }) in
      s.lists ∙ ap (λ i. after_lines f text i S₀) count

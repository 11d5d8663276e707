-- The codes of a text, line after line: one turn of the loop, and the answer. Assumes nothing.
use Rattle.std.specs.Prelude.{◌≡◌, true, false, List, [], ◌∷◌, ℕ, suc, ◌+◌, ◌*◌, ◌≤◌, ◌<◌, drop, set, Result, Ok, Err}
use Rattle.std.proofs.Common.{sym, ◌∙◌, add-one, arith, lt-ltb, le-ltb}
use Rattle.std.proofs.Math.Path.{ap}
use Rattle.std.proofs.Math.ListN.{length}
use Rattle.counting.specs.Wrote.{Wrote}
use Rattle.counting.proofs.WroteLaws.{wrote_one, wrote_named, wrote_each_none, wrote_each-next}
use Rattle.storing.specs.declared.Pen.{Pen}
use Rattle.storing.specs.Went.{Went}
use Rattle.storing.proofs.WentLaws.{went_named, went_each_none, went_each-next}
use Rattle.texts.specs.declared.Codes.{Codes}
use Rattle.texts.specs.declared.WrongLine.{WrongLine}
use Rattle.texts.specs.Parts.{since}
use Rattle.texts.specs.Lines.{is_newline, from_line, no_line, line}
use Rattle.texts.proofs.LineSteps.{line_first, line_next}
use Rattle.texts.specs.Codes.{wrong_line, most_kept, kept}
use Rattle.texts.proofs.CodeLaws.{kept_most}
use Rattle.texts.specs.Reading.{most_lines, lines_read, lines_right, run_to, ends_to, run_of, ends_of, codes_of}
use Rattle.texts.proofs.PassedLaws.{Passed, passed_none, passed_more, passed_all, passed_wrong}

-- k lines are read: the text from line k on is left, and its code goes to where the pen stands
pub record CodesTo (text : List ℕ) (pen₀ : Pen) (ends₀ : List ℕ) (pen : Pen) (ends rest : List ℕ) (k : ℕ) : Type 0 where
  pub start : pen₀.at ≡ 0
  pub bytes : Went (run_to text k) pen₀ pen
  pub stops : Wrote 0 (ends_to text k) ends₀ ends k
  pub passed : Passed (no_line text) (λ i. wrong_line (line text i)) k
  pub left : rest ≡ from_line text k
  pub few : pen.at ≤ most_kept * k

pub codes_none : (text : List ℕ) (pen : Pen) (ends : List ℕ) → pen.at ≡ 0 → CodesTo text pen ends pen ends text 0
unfolding run_to ends_to
codes_none text pen ends start =
    record { start = start; bytes = went_each_none _ pen; stops = wrote_each_none _ 0 ends; passed = passed_none; left = line_first text; few = omega arith }

-- what the contract says
abbrev pub CodesRead : List ℕ → Pen → List ℕ → Pen → List ℕ → Result Codes WrongLine → Type 0
CodesRead text pen₀ ends₀ pen ends answer = (answer ≡ codes_of text) × Went (run_of text) pen₀ pen × Wrote 0 (ends_of text) ends₀ ends (lines_right text)

module _ {text ends₀ ends rest : List ℕ} {pen₀ pen : Pen} {k : ℕ} (s : CodesTo text pen₀ ends₀ pen ends rest k) where
  -- ---- one line more

  module _ {l : List ℕ} (is : l ≡ line text k) (there : no_line text k ≡ false) (right : wrong_line l ≡ false) where
    pub codes_more : {after : Pen} {next : List ℕ} → Went (kept l) pen after → next ≡ drop 1 (since is_newline rest) → CodesTo text pen₀ ends₀ after (set ends k after.at) next (k + 1)
    unfolding run_to ends_to
    codes_more {after} {next} w n =
        let bytes : Went (run_to text (k + 1)) pen₀ after = went_each-next k _ s.bytes (went_named (ap kept is) w) in
        let end : after.at ≡ length (run_to text (suc k)) = bytes.wrote.next ∙ rw (s.start, add-one k) (omega arith) in
        record {
          start = s.start;
          bytes = bytes;
          stops = wrote_each-next k _ s.stops (wrote_named (ap (λ e. e ∷ []) end) (wrote_one k after.at ends));
          passed = passed_more k s.passed there (ap wrong_line (sym is) ∙ right);
          left = line_next text k s.left n;
          few = omega (arith, w.wrote.next, s.few, kept_most l);
        }

  -- ---- the answer

  written : k ≡ lines_right text → Went (run_of text) pen₀ pen × Wrote 0 (ends_of text) ends₀ ends (lines_right text)
  written e = rw (← e) (s.bytes, s.stops)

  pub codes_all : k ≤ most_lines → (k < most_lines → no_line text k ≡ true) → CodesRead text pen₀ ends₀ pen ends (Ok (record { count = k; size = pen.at }))
  unfolding codes_of lines_read lines_right
  codes_all few last =
      let p = passed_all most_lines k s.passed few last in
      let w = written p.1 in
      let size : pen.at ≡ length (run_of text) = omega (arith, s.start, s.bytes.wrote.next, ap (λ i. length (run_to text i)) p.1) in
      let count : k ≡ lines_read text = p.0 in
      (rw (le-ltb (lines_right text) (lines_read text) (omega (arith, p.0, p.1))) (cc), w.0, w.1)

  pub codes_wrong : k < most_lines → no_line text k ≡ false → wrong_line (line text k) ≡ true → CodesRead text pen₀ ends₀ pen ends (Err (record { 0 = k }))
  unfolding codes_of lines_read lines_right
  codes_wrong few there wrong =
      let p = passed_wrong most_lines k s.passed (omega arith) few there wrong in
      let w = written p.1 in
      (rw (lt-ltb (lines_right text) (lines_read text) (omega (arith, p.0, p.1))) (ap (λ i. Err (record { 0 = i })) p.1), w.0, w.1)

-- `texts::reports::read_report` meets its contract: the goals that the check leaves open.
use Rattle.std.proofs.Common.{ap, arith, length, sym, to_z, of_z, w32, Some, ◌∙◌, ◌≡◌}
use Rattle.std.proofs.lemmas.Int.{ints}
use Rattle.counting.specs.Wrote.{Wrote}
use Rattle.texts.specs.Numbers.{number_of}
use Rattle.texts.specs.Codes.{code_read, code_stored}
use Rattle.texts.specs.Levels.{level_of}
use Rattle.texts.specs.Words.{from_word, no_word, word}
use Rattle.texts.specs.Reports.{most_time}
use Rattle.texts.proofs.WordSteps.{word_first, word_here, word_next, word_over}
use Rattle.texts.proofs.ReportLaws.{no_code, no_level, no_time, report_longer, report_exactly}
use Rattle.texts.proofs.reports.read_report.Goals as goal
use Rattle.texts.proofs.reports.read_report.Goals.{After-read_code, After-after_word-from_level, After-after_word-from_time, After-is_empty, In_ok-size, In_ok-level}

-- the text from the second word on, and from the third
from_level : (c : After-after_word-from_level) → c.after_word-from_level.result.now ≡ from_word c.args.line.now 1
from_level c = word_next c.args.line.now 0 (word_first c.args.line.now c.past_blanks-words.ensures) c.after_word-from_level.ensures

from_time : (c : After-after_word-from_time) → c.after_word-from_time.result.now ≡ from_word c.args.line.now 2
from_time c = word_next c.args.line.now 1 (from_level (goal.at.After-after_word-from_time c).After-after_word-from_level) c.after_word-from_time.ensures

-- whether there is a fourth word
ended : (c : After-is_empty) → c.is_empty.result ≡ no_word c.args.line.now 3
ended c = word_over c.args.line.now 3 (word_next c.args.line.now 2 (from_time (goal.at.After-is_empty c).After-after_word-from_time) c.after_word-behind.ensures) c.is_empty.ensures

-- what was read is the code of the line, and its level
code_word : (c : After-read_code) → c.first_word.result.now ≡ word c.args.line.now 0
code_word c = c.first_word.ensures ∙ word_here c.args.line.now 0 (word_first c.args.line.now c.past_blanks-words.ensures)

stored : (c : After-read_code) → let z = code_stored (word c.args.line.now 0) in Wrote 0 z c.args.code.now c.read_code.new.code (length z)
stored c = rw (code_word c) at c.read_code.ensures.stored

code : (c : In_ok-size) → Some c.in_ok-size.size ≡ code_read (word c.args.line.now 0)
code c = c.in_ok-size.ensures.answer ∙ ap code_read (code_word (goal.at.In_ok-size c).After-read_code)

level : (c : In_ok-level) → Some c.in_ok-level.level ≡ level_of (word c.args.line.now 1)
level c = c.in_ok-level.ensures ∙ ap level_of (c.first_word-2.ensures ∙ word_here c.args.line.now 1 (from_level (goal.at.In_ok-level c).After-after_word-from_level))

pub returns-in_err-size-clause-answer : goal.returns-in_err-size-clause-answer
returns-in_err-size-clause-answer c =
    let at = goal.at.returns-in_err-size-clause-answer c in
    c.from_residual.ensures ∙ no_code _ (c.in_err-size.ensures.answer ∙ ap code_read (code_word at.After-read_code))

pub returns-in_err-size-clause-stored : goal.returns-in_err-size-clause-stored
returns-in_err-size-clause-stored c = stored (goal.at.returns-in_err-size-clause-stored c).After-read_code

pub returns-then-not-is_empty-clause-answer : goal.returns-then-not-is_empty-clause-answer
returns-then-not-is_empty-clause-answer c =
    let at = goal.at.returns-then-not-is_empty-clause-answer c in
    report_longer _ (sym (ended at.After-is_empty) ∙ c.if-not-is_empty.true)

pub returns-then-not-is_empty-clause-stored : goal.returns-then-not-is_empty-clause-stored
returns-then-not-is_empty-clause-stored c = stored (goal.at.returns-then-not-is_empty-clause-stored c).After-read_code

pub returns-in_err-level-clause-answer : goal.returns-in_err-level-clause-answer
returns-in_err-level-clause-answer c =
    let at = goal.at.returns-in_err-level-clause-answer c in
    let second = c.first_word-2.ensures ∙ word_here c.args.line.now 1 (from_level at.After-after_word-from_level) in
    c.from_residual-in_err-level.ensures ∙ no_level _ (code at.In_ok-size) (c.in_err-level.ensures ∙ ap level_of second)

pub returns-in_err-level-clause-stored : goal.returns-in_err-level-clause-stored
returns-in_err-level-clause-stored c = stored (goal.at.returns-in_err-level-clause-stored c).After-read_code

pub returns-in_err-time-clause-answer : goal.returns-in_err-time-clause-answer
returns-in_err-time-clause-answer c =
    let at = goal.at.returns-in_err-time-clause-answer c in
    let third = c.first_word-3.ensures ∙ word_here c.args.line.now 2 (from_time at.After-after_word-from_time) in
    c.from_residual-in_err-time.ensures ∙ no_time _ (code at.In_ok-size) (level at.In_ok-level) (c.in_err-time.ensures ∙ ap (number_of most_time) third)

pub returns-in_err-time-clause-stored : goal.returns-in_err-time-clause-stored
returns-in_err-time-clause-stored c = stored (goal.at.returns-in_err-time-clause-stored c).After-read_code

pub returns-clause-answer : goal.returns-clause-answer
returns-clause-answer c =
    let at = goal.at.returns-clause-answer c in
    let third = c.first_word-3.ensures ∙ word_here c.args.line.now 2 (from_time at.After-after_word-from_time) in
    let kept : to_z w32 (of_z w32 c.in_ok-level.level) ≡ c.in_ok-level.level = omega (arith, ints) in
    report_exactly.1 (record {
      ends = sym (ended at.After-is_empty) ∙ c.if-not-is_empty.false;
      taken = code at.In_ok-size;
      height = rw kept (level at.In_ok-level);
      moment = c.in_ok-time.ensures ∙ ap (number_of most_time) third;
    })

pub returns-clause-stored : goal.returns-clause-stored
returns-clause-stored c = stored (goal.at.returns-clause-stored c).After-read_code

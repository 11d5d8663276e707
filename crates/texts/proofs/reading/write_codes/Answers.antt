-- `texts::reading::write_codes` meets its contract: the goals that the check leaves open.
use Rattle.std.proofs.Common.{ap, arith, false, sym, ◌∙◌, ◌≡◌}
use Rattle.texts.specs.Lines.{line, no_line}
use Rattle.texts.proofs.LineSteps.{line_here, line_over}
use Rattle.texts.specs.Codes.{wrong_line}
use Rattle.texts.proofs.CodeLaws.{kept_most}
use Rattle.texts.specs.Reading.{most_lines}
use Rattle.texts.proofs.CodesSteps.{codes_none, codes_more, codes_all, codes_wrong}
use Rattle.texts.proofs.reading.write_codes.Goals as goal
use Rattle.texts.proofs.reading.write_codes.Goals.{Else-is_empty, After-first_line-line}

pub loop-k-init : goal.loop-k-init
loop-k-init c = codes_none _ _ _ c.requires.start

pub returns-then-is_empty : goal.returns-then-is_empty
returns-then-is_empty c =
    let v = c.loop-k.invariant in
    let r = codes_all v (omega arith) (λ m. sym (line_over _ _ v.left c.is_empty.ensures) ∙ c.if-is_empty.true) in
    record { answer = r.0; bytes = r.1; stops = r.2 }

there : (c : Else-is_empty) → no_line c.args.text.now c.loop-k.k ≡ false
there c = sym (line_over _ _ c.loop-k.invariant.left c.is_empty.ensures) ∙ c.if-is_empty.false

-- what was read is line k
here : (c : After-first_line-line) → c.first_line-line.result.now ≡ line c.args.text.now c.loop-k.k
here c = c.first_line-line.ensures ∙ line_here _ _ c.loop-k.invariant.left

pub returns-then-wrong_line : goal.returns-then-wrong_line
returns-then-wrong_line c =
    let is = here (goal.at.returns-then-wrong_line c).After-first_line-line in
    let r = codes_wrong c.loop-k.invariant (omega arith) (there (goal.at.returns-then-wrong_line c).Else-is_empty) (ap wrong_line (sym is) ∙ sym c.if-wrong_line.ensures) in
    record { answer = r.0; bytes = r.1; stops = r.2 }

pub loop-k-preserved : goal.loop-k-preserved
loop-k-preserved c =
    let is = here (goal.at.loop-k-preserved c).After-first_line-line in
    let right : wrong_line c.first_line-line.result.now ≡ false = sym c.if-wrong_line.ensures in
    codes_more c.loop-k.invariant is (there (goal.at.loop-k-preserved c).Else-is_empty) right c.put_code.ensures c.after_line-rest.ensures

pub returns : goal.returns
returns c =
    let all : c.loop-k.k ≡ most_lines = omega arith in
    let r = rw all at (codes_all c.loop-k.invariant (omega arith) (λ m. absurd (omega arith))) in
    record { answer = r.0; bytes = r.1; stops = r.2 }

pub overflow_cast-ends : goal.overflow_cast-ends
overflow_cast-ends c = omega (arith, c.put_code.ensures.wrote.next, kept_most c.first_line-line.result.now, c.loop-k.invariant.few)

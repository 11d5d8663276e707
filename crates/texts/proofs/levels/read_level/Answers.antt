-- `texts::levels::read_level` meets its contract: the goals that the check leaves open.
use Rattle.std.proofs.Common.{ap, arith, true, false, Some, ◌≡◌, ◌∙◌}
use Rattle.texts.specs.Numbers.{number_of}
use Rattle.texts.proofs.NumberSteps.{number_most}
use Rattle.texts.specs.Levels.{is_negative, without_sign, most_level}
use Rattle.texts.proofs.LevelLaws.{minus_stripped, no_minus, minus, plus, level_wrong, level_is}
use Rattle.texts.proofs.levels.read_level.Goals as goal
use Rattle.texts.proofs.levels.read_level.Goals.{In-Some, In-None, In_ok-read_number-in-Some, In_ok-read_number-in-None}

negative : (c : In-Some) → (true ≡ is_negative c.args.word.now) × (c.in-Some.digits.now ≡ without_sign c.args.word.now)
negative c = minus_stripped _ c.in-Some.ensures.cases.0 c.in-Some.ensures.cases.1

plain : (c : In-None) → (false ≡ is_negative c.args.word.now) × (c.args.word.now ≡ without_sign c.args.word.now)
plain c = no_minus _ c.in-None.ensures.cases

pub returns-in_err-read_number-in-Some : goal.returns-in_err-read_number-in-Some
returns-in_err-read_number-in-Some c =
    let digits = (negative (goal.at.returns-in_err-read_number-in-Some c).In-Some).1 in
    c.from_residual.ensures ∙ level_wrong _ (c.in_err-read_number-in-Some.ensures ∙ ap (number_of most_level) digits)

pub returns-in_err-read_number-in-None : goal.returns-in_err-read_number-in-None
returns-in_err-read_number-in-None c =
    let digits = (plain (goal.at.returns-in_err-read_number-in-None c).In-None).1 in
    c.from_residual-in_err-read_number-in-None.ensures ∙ level_wrong _ (c.in_err-read_number-in-None.ensures ∙ ap (number_of most_level) digits)

-- the number after the sign
size : (c : In_ok-read_number-in-Some) → Some c.in_ok-read_number-in-Some.field-0 ≡ number_of most_level c.in-Some.digits.now
size c = c.in_ok-read_number-in-Some.ensures

pub returns-in_ok-read_number-in-Some : goal.returns-in_ok-read_number-in-Some
returns-in_ok-read_number-in-Some c =
    let sign = negative (goal.at.returns-in_ok-read_number-in-Some c).In-Some in
    level_is _ sign.0 (size c ∙ ap (number_of most_level) sign.1) (minus _ (number_most _ _ _ (size c))).is

pub returns-in_ok-read_number-in-None : goal.returns-in_ok-read_number-in-None
returns-in_ok-read_number-in-None c =
    let sign = plain (goal.at.returns-in_ok-read_number-in-None c).In-None in
    let read = c.in_ok-read_number-in-None.ensures in
    level_is _ sign.0 (read ∙ ap (number_of most_level) sign.1) (plus _ (number_most _ _ _ read))

pub overflow_sub-result : goal.overflow_sub-result
overflow_sub-result c = (minus _ (number_most _ _ _ (size c))).fits

pub overflow_cast-result : goal.overflow_cast-result
overflow_cast-result c = omega (arith, number_most _ _ _ (size c))

pub overflow_cast-result-in-None : goal.overflow_cast-result-in-None
overflow_cast-result-in-None c = omega (arith, number_most _ _ _ c.in_ok-read_number-in-None.ensures)

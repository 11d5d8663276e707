-- `texts::numbers::read_number` meets its contract: the goals that the check leaves open.
use Rattle.std.proofs.Common.{arith, below_more, eqb-true, sym, ◌+◌, ◌∙◌, ◌≡◌}
use Rattle.std.proofs.lemmas.Bool.{eqb-false}
use Rattle.texts.specs.Numbers.{value_of_first}
use Rattle.texts.proofs.NumberSteps.{value_none, value-next, number_empty, number-other, number_large, number_read}
use Rattle.texts.proofs.numbers.read_number.Goals as goal
use Rattle.texts.proofs.numbers.read_number.Goals.{After-with_digit-x}

pub returns-then-is_empty : goal.returns-then-is_empty
returns-then-is_empty c = number_empty _ _ (eqb-true _ _ (sym c.is_empty.ensures ∙ c.if-is_empty.true))

pub loop-b-init : goal.loop-b-init
loop-b-init c = (value_none _, omega arith, λ k l. absurd (omega arith))

pub returns-then-not-is_ascii_digit : goal.returns-then-not-is_ascii_digit
returns-then-not-is_ascii_digit c = number-other _ _ c.loop-b.b-index (omega arith) (sym c.is_ascii_digit.ensures.value ∙ c.if-not-is_ascii_digit.true)

-- x is the number of one digit more
next : (c : After-with_digit-x) → c.with_digit-x.result ≡ value_of_first c.args.word.now (c.loop-b.b-index + 1)
next c = value-next _ c.loop-b.b-index c.loop-b.x _ c.loop-b.invariant.0 c.with_digit-x.ensures

pub returns-then-most-x : goal.returns-then-most-x
returns-then-most-x c = number_large _ _ c.loop-b.b-index _ (omega arith) (next (goal.at.returns-then-most-x c).After-with_digit-x) c.if-most-x.true

pub loop-b-preserved : goal.loop-b-preserved
loop-b-preserved c =
    let v = c.loop-b in
    let digit = sym c.is_ascii_digit.ensures.value ∙ c.if-not-is_ascii_digit.false in
    (next (goal.at.loop-b-preserved c).After-with_digit-x, c.if-most-x.false, below_more _ v.b-index v.invariant.2 digit)

pub returns : goal.returns
returns c =
    let v = c.loop-b in
    number_read _ _ v.b-index _ (eqb-false _ _ (sym c.is_empty.ensures ∙ c.if-is_empty.false)) (omega arith) v.invariant.0 v.invariant.1 v.invariant.2

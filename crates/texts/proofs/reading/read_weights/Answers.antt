-- `texts::reading::read_weights` meets its contract: the goals that the check leaves open.
use Rattle.std.proofs.Common.{ap, arith, sym, false, Some, ◌∙◌, ◌≡◌}
use Rattle.std.proofs.lemmas.Result.{err_from_is_err_and}
use Rattle.texts.specs.Words.{word, no_word}
use Rattle.texts.proofs.WordSteps.{word_here, word_over}
use Rattle.texts.specs.Numbers.{number_of}
use Rattle.texts.proofs.NumberSteps.{number_most}
use Rattle.texts.specs.Reading.{most_words, most_weight}
use Rattle.texts.proofs.WeightsSteps.{weights_none, weights_more, weights_all, weights_wrong}
use Rattle.texts.proofs.reading.read_weights.Goals as goal
use Rattle.texts.proofs.reading.read_weights.Goals.{Else-is_empty, After-first_word, In_ok-x}

pub loop-k-init : goal.loop-k-init
loop-k-init c = weights_none _ _ _ c.past_blanks-rest.ensures

pub returns-then-is_empty : goal.returns-then-is_empty
returns-then-is_empty c =
    let v = c.loop-k.invariant in
    let r = weights_all v (omega arith) (λ m. sym (word_over _ _ v.left c.is_empty.ensures) ∙ c.if-is_empty.true) in
    record { answer = r.0; stored = r.1 }

there : (c : Else-is_empty) → no_word c.args.text.now c.loop-k.k ≡ false
there c = sym (word_over _ _ c.loop-k.invariant.left c.is_empty.ensures) ∙ c.if-is_empty.false

-- what was read is word k
here : (c : After-first_word) → number_of most_weight c.first_word.result.now ≡ number_of most_weight (word c.args.text.now c.loop-k.k)
here c = ap (number_of most_weight) (c.first_word.ensures ∙ word_here _ _ c.loop-k.invariant.left)

pub returns-in_err-x : goal.returns-in_err-x
returns-in_err-x c =
    let none = sym c.in_err-x.ensures.ok_part ∙ c.read_number.ensures ∙ here (goal.at.returns-in_err-x c).After-first_word in
    let r = weights_wrong c.loop-k.invariant (omega arith) (there (goal.at.returns-in_err-x c).Else-is_empty) none in
    let wrong = rw c.in_err-x.ensures.ok_part at c.in_err-x.ensures.value in
    let is = err_from_is_err_and c.from_residual.result c.from_residual.ensures.1 in
    record { answer = rw (is.1, is.2, wrong) r.0; stored = r.1 }

-- the number that word k is
x : (c : In_ok-x) → Some c.in_ok-x.x ≡ number_of most_weight (word c.args.text.now c.loop-k.k)
x c = sym c.in_ok-x.ensures.ok_part ∙ c.read_number.ensures ∙ here (goal.at.overflow_cast-weights c).After-first_word

pub loop-k-preserved : goal.loop-k-preserved
loop-k-preserved c =
    let is = x (goal.at.loop-k-preserved c).In_ok-x in
    weights_more c.loop-k.invariant _ _ (there (goal.at.loop-k-preserved c).Else-is_empty) is c.after_word-rest.ensures

pub returns : goal.returns
returns c =
    let all : c.loop-k.k ≡ most_words = omega arith in
    let r = rw all at (weights_all c.loop-k.invariant (omega arith) (λ m. absurd (omega arith))) in
    record { answer = r.0; stored = r.1 }

-- a weight has two bytes
pub overflow_cast-weights : goal.overflow_cast-weights
overflow_cast-weights c = omega (arith, number_most most_weight _ _ (x c))

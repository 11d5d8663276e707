-- `texts::reading::read_weights`. The invariant: the first k weights are stored, and the text from word k on is left.
use Rattle.texts.proofs.WeightsSteps.{WeightsTo}
use Rattle.texts.proofs.reading.read_weights.Given as goal

abbrev pub invariant-loop-k : goal.invariant-loop-k
invariant-loop-k l = WeightsTo l.text l.initial.weights l.weights l.rest l.k

-- `texts::reading::write_codes`. The invariant: the codes of the first k lines are stored, and the text from line k on is left.
use Rattle.texts.proofs.CodesSteps.{CodesTo}
use Rattle.texts.proofs.reading.write_codes.Given as goal

abbrev pub invariant-loop-k : goal.invariant-loop-k
invariant-loop-k l = CodesTo l.text l.initial.out l.initial.ends l.out l.ends l.rest l.k

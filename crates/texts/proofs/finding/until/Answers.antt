-- `texts::finding::until` meets its contract: the goals that the check leaves open.
use Rattle.std.proofs.Common.{arith, below_more, sym, ◌∙◌}
use Rattle.texts.proofs.PartsLaws.{before_at, before_all}
use Rattle.texts.proofs.finding.until.Goals as goal

pub returns-then-passes-clause-before : goal.returns-then-passes-clause-before
returns-then-passes-clause-before g c = λ test computes.
    let here = sym (computes _ _ (omega (arith, c.type_inv.text c.loop-i.i)) c.passes.ensures) ∙ c.if-passes.true in
    before_at test _ c.loop-i.i (c.loop-i.invariant test computes) (omega arith) here

pub loop-i-preserved : goal.loop-i-preserved
loop-i-preserved g c = λ test computes.
    let here = sym (computes _ _ (omega (arith, c.type_inv.text c.loop-i.i)) c.passes.ensures) ∙ c.if-passes.false in
    below_more _ c.loop-i.i (c.loop-i.invariant test computes) here

pub returns-clause-before : goal.returns-clause-before
returns-clause-before g c = λ test computes. before_all test _ (λ k l. c.loop-i.invariant test computes k (omega arith))

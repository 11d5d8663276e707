-- `rows::signs::put_rows` meets its contract: the goals that the check leaves open.
use Rattle.std.proofs.Common.{arith}
use Rattle.storing.proofs.WentLaws.{went_each_none, went_each-next}
use Rattle.rows.specs.Signs.{sign_text}
use Rattle.rows.proofs.signs.put_rows.Goals as goal

pub loop-line-init : goal.loop-line-init
unfolding sign_text
loop-line-init c = record { written = went_each_none _ _; short = omega arith }

pub loop-line-preserved : goal.loop-line-preserved
unfolding sign_text
loop-line-preserved c =
    let v = c.loop-line in
    record { written = went_each-next v.line _ v.invariant.written c.put_line.ensures.written; short = omega (arith, c.put_line.ensures.fits) }

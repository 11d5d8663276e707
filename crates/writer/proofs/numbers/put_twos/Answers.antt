-- What `writer::numbers::put_twos` owes beside its invariant: in each turn one number more is stored. Assumes nothing.
use Rattle.std.proofs.Common.{rules, arith, get_or}
use Rattle.storing.proofs.WentLaws.{went_each_none, went_each-next}
use Rattle.writer.specs.Stored.{twos}
use Rattle.writer.proofs.StoredLaws.{twos_before}
use Rattle.writer.proofs.numbers.put_twos.Goals as goal

pub loop-x-init : goal.loop-x-init
loop-x-init c = went_each_none _ _

pub loop-x-preserved : goal.loop-x-preserved
loop-x-preserved c = went_each-next c.loop-x.x-index _ c.loop-x.invariant c.put_two.ensures

pub put_two-requires : goal.put_two-requires
put_two-requires c = omega (arith, twos_before c.loop-x.x-index (λ k. get_or c.args.numbers.now k 0))

pub returns : goal.returns
unfolding twos
returns c = search rules

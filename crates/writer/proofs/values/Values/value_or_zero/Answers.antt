-- What `writer::values::Values::value_or_zero` owes: the value of a vertex, and zero past the last one. Assumes nothing.
use Rattle.std.proofs.Common.{arith, get_or, ◌∙◌, ◌≡◌}
use Rattle.std.proofs.lemmas.Grind.{common_steps}
use Rattle.directory.proofs.ValueLaws.{spare_zero_small}
use Rattle.writer.proofs.ValueSteps.{value_read}
use Rattle.writer.proofs.values.Values.value_or_zero.Goals as goal

pub returns : goal.returns
returns c =
    let read : c.unwrap_or.result ≡ get_or c.args.self.values.now c.args.x 0 = grind (arith, common_steps) in
    let is = read ∙ value_read c.args.self.values.now c.args.x in
    (is, rw is (spare_zero_small _ _ c.args.self.small c.args.x))

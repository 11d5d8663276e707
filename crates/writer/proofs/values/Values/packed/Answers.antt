-- What `writer::values::Values::packed` owes: the four values make the byte. Assumes nothing.
use Rattle.std.proofs.Common.{◌∙◌}
use Rattle.writer.proofs.ValueSteps.{packed_from}
use Rattle.writer.proofs.values.Values.packed.Goals as goal

pub returns : goal.returns
returns c =
    c.pack.ensures
    ∙ packed_from _ c.args.b _ _ _ _ c.value_or_zero-first.ensures.0 c.value_or_zero-second.ensures.0 c.value_or_zero-third.ensures.0 c.value_or_zero-fourth.ensures.0

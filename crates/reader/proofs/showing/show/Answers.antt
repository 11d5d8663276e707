-- `reader::showing::show`: the part lies within the file. Assumes nothing.
use Rattle.std.proofs.Common.{arith}
use Rattle.reader.proofs.PartLaws.{shown_within}
use Rattle.reader.proofs.showing.show.Goals as goal

pub overflow_add-result : goal.overflow_add-result
overflow_add-result c = omega (arith, shown_within c.args.file.now c.args.line c.part-start.result c.part-start.ensures)

pub slice_bounds-result-end : goal.slice_bounds-result-end
slice_bounds-result-end c = omega (arith, shown_within c.args.file.now c.args.line c.part-start.result c.part-start.ensures)

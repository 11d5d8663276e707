-- What `lists::edges::Checked::name_edges` owes beside its invariant: in each turn the vertices of one code more are written. Assumes nothing.
use Rattle.std.proofs.Common.{ap, arith, get_or}
use Rattle.directory.specs.Kind.{HD, vertex}
use Rattle.lists.proofs.NamingSteps.{code_short, named_more}
use Rattle.lists.proofs.edges.Checked.name_edges.Goals as goal

pub invariant_of-code : goal.invariant_of-code
invariant_of-code c = let codes = c.args.self.codes in record { short = code_short codes.list.run.now codes.list.ends.now _ c.loop-k.k codes.listed (omega arith) c.code.ensures }

pub loop-k-preserved : goal.loop-k-preserved
loop-k-preserved c = let n = c.args.self.naming in named_more c.loop-k.invariant c.name_vertices.ensures (λ j. ap (λ t. vertex HD n.v (λ i. get_or n.weights.now i 0) t j) c.code.ensures)

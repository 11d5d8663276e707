-- What `builder::deciding::write` owes: the arrays are ready to be written, and what is written is the file of the list. Assumes nothing.
use Rattle.std.proofs.Common.{ap, arith, drop, ◌*◌, ◌++◌, ◌∙◌, ◌≡◌}
use Rattle.graph.specs.Assignment.{blocks}
use Rattle.directory.specs.Kind.{HD}
use Rattle.directory.specs.Building.{length_needed}
use Rattle.builder.specs.Graphs.{checked_with}
use Rattle.builder.proofs.WritingLaws.{small_values, ready, file_of_list}
use Rattle.builder.proofs.deciding.write.Goals as goal
use Rattle.builder.proofs.deciding.write.Goals.{After-len}

-- so many rank entries and so many lines are written
module _ (c : After-len) where
  entries : c.div_ceil.result ≡ blocks (c.args.checked.naming.r * c.args.checked.naming.v)
  entries = omega (arith, c.div_ceil.ensures)

pub invariant_of-assignment : goal.invariant_of-assignment
invariant_of-assignment c = record { small = small_values c.requires }

pub put_file-requires : goal.put_file-requires
put_file-requires c = rw (entries (goal.at.put_file-requires c).After-len, c.len.ensures) (ready c.requires)

pub returns : goal.returns
returns c =
    let a = c.args in
    rw c.len.ensures at c.put_file.ensures ∙ ap (λ file. file ++ drop (length_needed HD (checked_with a.checked a.buffer.now)) a.buffer.now) (file_of_list c.requires)

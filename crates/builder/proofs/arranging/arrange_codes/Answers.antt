-- What `builder::arranging::arrange_codes` owes: the edges make the graph of the list, no edge is on any vertex yet, and what is arranged for the edges is arranged for the list. Assumes nothing.
use Rattle.std.proofs.Common.{[], arith, length}
use Rattle.std.proofs.lemmas.List.{get_or-replicate}
use Rattle.directory.specs.Sizes.{most_vertices}
use Rattle.builder.proofs.GraphsLaws.{named_most, edges_held, arranged_list}
use Rattle.builder.proofs.arranging.arrange_codes.Goals as goal

pub arrange-requires-clause-held : goal.arrange-requires-clause-held
arrange-requires-clause-held c =
    let checked = c.args.checked in
    let naming = checked.naming in
    let list = checked.codes.list in
    let room = named_most (length list.ends.now) naming.r checked.few naming.sizes.three in
    rw c.len.ensures (edges_held list.run.now list.ends.now naming.r naming.v naming.weights.now [] _ c.name_edges.ensures naming.sizes checked.few (omega (arith, room, c.name_edges.auto.edges)))

pub arrange-requires-clause-clear : goal.arrange-requires-clause-clear
arrange-requires-clause-clear c =
    let room = c.args.checked.naming.sizes.room in
    record {
      no_degrees = λ x l. get_or-replicate most_vertices x 0 0 (omega (arith, room));
      no_sums = λ x l. get_or-replicate most_vertices x 0 0 (omega (arith, room));
    }

pub returns : goal.returns
returns c buffer =
    let naming = c.args.checked.naming in
    let list = c.args.checked.codes.list in
    arranged_list list.run.now list.ends.now naming.r naming.v naming.weights.now buffer c.name_edges.new.edges c.name_edges.ensures (rw c.len.ensures at c.arrange.ensures)

-- What `writer::put_file` owes: there is room for each record, and one after the other they are the file. Assumes nothing.
use Rattle.std.proofs.Common.{rules, ap, arith, length}
use Rattle.storing.proofs.WentLaws.{went_named, went_then}
use Rattle.directory.specs.Sizes.{headed}
use Rattle.directory.specs.Kind.{HD}
use Rattle.directory.specs.File.{header_record}
use Rattle.writer.proofs.FileSteps.{fits, filled}
use Rattle.writer.proofs.StoredLaws.{twos_length, fours_length, weights_recorded, values_recorded, ranks_recorded}
use Rattle.writer.proofs.put_file.Goals as goal

pub returns : goal.returns
returns c =
    let ready = c.requires in
    let checked = c.args.checked in
    let naming = checked.naming in
    let list = checked.codes.list in
    let assignment = c.args.assignment in
    let h = headed (length list.ends.now) naming.r naming.v in
    let header = went_named (ap (λ n. header_record HD (headed n naming.r naming.v)) c.len.ensures) c.put_header.ensures in
    let weights = went_named (weights_recorded h naming.weights.now naming.weighed) (went_then c.bytes.ensures c.put_twos.ensures) in
    let values = went_named (values_recorded h assignment.values.values.now ready.for_values) (went_then c.bytes-2.ensures c.put_packed.ensures) in
    let ranks = went_named (ranks_recorded h _ assignment.rank.now ready.for_rank ready.ranks) (went_then c.bytes-3.ensures c.put_twos-2.ensures) in
    let all = went_then header (went_then weights (went_then (went_then values ranks) (c.put_keys.ensures h))) in
    let same = all.same_buffer in
    let whole = filled ready naming.weights.now list.run.now checked.codes.listed all.wrote in
    search rules

pub put_header-requires-clause-room : goal.put_header-requires-clause-room
put_header-requires-clause-room c = omega (arith, fits c.requires)

pub bytes-requires : goal.bytes-requires
unfolding header_record
bytes-requires c = omega (arith, fits c.requires)

pub put_twos-requires : goal.put_twos-requires
unfolding header_record
put_twos-requires c = omega (arith, fits c.requires)

pub bytes-requires-2 : goal.bytes-requires-2
unfolding header_record
bytes-requires-2 c = omega (arith, fits c.requires, twos_length c.args.checked.naming.weights.now)

pub put_packed-requires-clause-room : goal.put_packed-requires-clause-room
unfolding header_record
put_packed-requires-clause-room c = omega (arith, fits c.requires, twos_length)

pub bytes-requires-3 : goal.bytes-requires-3
unfolding header_record
bytes-requires-3 c = omega (arith, fits c.requires, twos_length, fours_length)

pub put_twos-requires-2 : goal.put_twos-requires-2
unfolding header_record
put_twos-requires-2 c = omega (arith, fits c.requires, twos_length, fours_length)

pub put_keys-requires-clause-room : goal.put_keys-requires-clause-room
unfolding header_record
put_keys-requires-clause-room c = omega (arith, fits c.requires, twos_length, fours_length)

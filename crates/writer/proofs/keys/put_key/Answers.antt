-- What `writer::keys::put_key` owes: the mark, the length and the code with the zeros after it are the record. Assumes nothing.
use Rattle.std.proofs.Common.{drop, length, replicate, ℕ, ◌++◌, ◌-◌, ◌≡◌}
use Rattle.std.proofs.lemmas.List.{drop-replicate}
use Rattle.storing.proofs.WentLaws.{went_named, went_then}
use Rattle.directory.specs.Kind.{HD}
use Rattle.directory.specs.File.{key_record}
use Rattle.writer.proofs.keys.put_key.Goals as goal

pub returns-clause-written : goal.returns-clause-written
unfolding key_record
returns-clause-written c h =
    let t = c.args.code.now in
    let zeros : c.copy_from_slice.new.self ++ drop (length t) (replicate HD.positions 0) ≡ t ++ replicate (HD.positions - length t) 0 = rw (c.copy_from_slice.ensures.after, drop-replicate {X = ℕ} (length t) HD.positions 0) in
    went_then (went_then c.bytes.ensures c.byte.ensures) (went_named zeros c.bytes-2.ensures)

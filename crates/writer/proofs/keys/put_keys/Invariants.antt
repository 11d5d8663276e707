-- `writer::keys::put_keys`. The invariant: the codes of the lines before this one are written. Assumes nothing.
use Rattle.std.proofs.Common.{get_or, ◌*◌, ◌+◌, ◌≡◌}
use Rattle.counting.specs.Lists.{each}
use Rattle.directory.specs.Sizes.{Header}
use Rattle.directory.specs.Codes.{code}
use Rattle.directory.specs.Kind.{HD}
use Rattle.directory.specs.File.{key_head, key_record}
use Rattle.storing.specs.Went.{Went}
use Rattle.writer.proofs.keys.put_keys.Given as goal

abbrev pub invariant-loop-l : goal.invariant-loop-l
invariant-loop-l l = record {
  written : (h : Header) → Went (each l.l (λ i. key_record HD h (code l.codes.list.run.now l.codes.list.ends.now (get_or l.keys i 0)))) l.initial.out l.out;
  past : l.out.at ≡ l.initial.out.at + (key_head + HD.positions) * l.l;
}

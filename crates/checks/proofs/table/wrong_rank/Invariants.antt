-- `checks::table::wrong_rank`. The invariant: the first b entries are right, and `below` is what entry b, if there is one, has to be. Assumes nothing.
use Rattle.std.proofs.Common.{false, ℕ, ◌*◌, ◌<◌, ◌≡◌, ◌≤◌}
use Rattle.graph.specs.Assignment.{block_size, rank_entry}
use Rattle.directory.specs.Sizes.{rank_entries}
use Rattle.directory.specs.Kind.{HD}
use Rattle.directory.specs.Values.{value_in, rank_wrong}
use Rattle.directory.specs.File.{table_in}
use Rattle.checks.proofs.table.wrong_rank.Given as goal

abbrev pub invariant-loop-b : goal.invariant-loop-b
invariant-loop-b l = record {
  right : (i : ℕ) → i < l.b → rank_wrong l.tables.header (table_in HD l.tables.header l.tables.file.now) i ≡ false;
  due : l.b < rank_entries l.tables.header → l.below ≡ rank_entry l.tables.header.r (value_in (table_in HD l.tables.header l.tables.file.now)) l.b;
  most : l.below ≤ block_size * l.b;
}

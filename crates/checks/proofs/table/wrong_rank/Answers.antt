-- `checks::table::wrong_rank`: the loop stops at the lowest entry that is not what it has to be, and what the next has to be counts the block. Assumes nothing.
use Rattle.std.proofs.Common.{arith, below_more, sym, ◌∙◌, ◌≡◌, ◌*◌, ◌+◌, ap}
use Rattle.counting.specs.Below.{count}
use Rattle.graph.specs.Assignment.{assigned, block_size, rank_entry}
use Rattle.directory.specs.Kind.{HD}
use Rattle.directory.specs.Values.{value_in}
use Rattle.directory.specs.File.{table_in}
use Rattle.counting.proofs.RangeLaws.{found_at, missed_all}
use Rattle.checks.proofs.TableSteps.{rank_none, rank_next, counted_there, rank_is_wrong, rank_is_right}
use Rattle.checks.proofs.table.wrong_rank.Goals as goal
use Rattle.checks.proofs.table.wrong_rank.Goals.{In-loop-b}

pub loop-b-init : goal.loop-b-init
loop-b-init c = record { right = λ i l. absurd (omega arith); due = λ l. sym (rank_none _ _); most = omega arith }

pub returns-then-rank-below : goal.returns-then-rank-below
returns-then-rank-below c =
    let t = c.args.tables in
    let l = c.loop-b in
    found_at _ _ l.invariant.right (omega arith) (rank_is_wrong t.header t.file.now l.b (λ e. c.if-rank-below.true (c.rank.ensures.0 ∙ e ∙ sym (l.invariant.due (omega arith)))))

pub loop-b-preserved : goal.loop-b-preserved
loop-b-preserved c =
    let t = c.args.tables in
    let l = c.loop-b in
    let value = value_in (table_in HD t.header t.file.now) in
    let due : l.below ≡ rank_entry t.header.r value l.b = l.invariant.due (omega arith) in
    let counted = counted_there t.header t.file.now _ _ _ _ c.values_at-at.ensures c.count_assigned-below.ensures.0 in record {
      right = below_more _ _ l.invariant.right (rank_is_right t.header t.file.now l.b (sym c.rank.ensures.0 ∙ c.if-rank-below.false ∙ due));
      due = λ m. let full : c.min.result ≡ block_size = omega arith in omega (arith, due, rank_next t.header.r value l.b, counted ∙ ap (λ s. count s (λ i. assigned t.header.r (value (block_size * l.b + i)))) full);
      most = omega arith;
    }

pub returns : goal.returns
returns c = missed_all _ _ (λ i m. c.loop-b.invariant.right i (omega arith))

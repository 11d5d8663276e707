-- `checks::table::table`: the first wrong value, spare bit, rank entry or total decides. Assumes nothing.
use Rattle.std.proofs.Common.{arith, ap, ◌∙◌, ◌≡◌, Err}
use Rattle.graph.specs.Assignment.{assigned_below}
use Rattle.directory.specs.Sizes.{vertex_count, rank_entries}
use Rattle.directory.specs.declared.Reason.TheVariants.{WrongRank}
use Rattle.directory.specs.Kind.{HD}
use Rattle.directory.specs.Values.{value_in}
use Rattle.directory.specs.File.{table_in}
use Rattle.directory.specs.Refusals.{refused}
use Rattle.checks.proofs.TableSteps.{below_from_none, counted_there, value_refused, spare_refused, rank_refused, total_refused, table_passed}
use Rattle.checks.proofs.table.table.Goals as goal
use Rattle.checks.proofs.table.table.Goals.{After-count_assigned}

pub returns-in-Some : goal.returns-in-Some
returns-in-Some c =
    let t = c.tables-tables in
    rw (← t.ensures.same_header, ← t.ensures.same_file) (ap Err c.at.ensures ∙ value_refused t.result.header t.result.file.now c.in-Some.ensures)

pub returns-then-spare_set : goal.returns-then-spare_set
returns-then-spare_set c =
    let t = c.tables-tables in
    rw (← t.ensures.same_header, ← t.ensures.same_file) (ap Err c.at-then-spare_set.ensures ∙ spare_refused t.result.header t.result.file.now c.in_default.ensures c.if-spare_set.ensures)

pub returns-in-Some-wrong_rank : goal.returns-in-Some-wrong_rank
returns-in-Some-wrong_rank c =
    let t = c.tables-tables in
    rw (← t.ensures.same_header, ← t.ensures.same_file) (ap Err c.at-in-Some-wrong_rank.ensures ∙ rank_refused t.result.header t.result.file.now c.in_default.ensures c.if-spare_set.ensures c.in-Some-wrong_rank.ensures)

-- the count is that of all assigned vertices
total : (c : After-count_assigned) → let t = c.tables-tables.result in c.count_assigned.result ≡ assigned_below t.header.r (value_in (table_in HD t.header t.file.now)) (vertex_count t.header)
total c = let t = c.tables-tables.result in counted_there t.header t.file.now _ _ _ _ c.values_at.ensures c.count_assigned.ensures.0 ∙ below_from_none _ _ _

pub returns-then-count_assigned-header : goal.returns-then-count_assigned-header
returns-then-count_assigned-header c =
    let t = c.tables-tables in
    let entries : c.div_ceil.result ≡ rank_entries t.result.header = omega arith in
    rw (← t.ensures.same_header, ← t.ensures.same_file)
    (ap Err c.at-then-count_assigned-header.ensures ∙ ap (λ b. refused WrongRank b) entries ∙ total_refused t.result.header t.result.file.now c.in_default.ensures c.if-spare_set.ensures c.in_default-wrong_rank.ensures c.count_assigned.result (total (goal.at.returns-then-count_assigned-header c).After-count_assigned) c.if-count_assigned-header.true)

pub returns : goal.returns
returns c =
    let t = c.tables-tables in
    rw (← t.ensures.same_header, ← t.ensures.same_file)
    (table_passed t.result.header t.result.file.now c.in_default.ensures c.if-spare_set.ensures c.in_default-wrong_rank.ensures c.count_assigned.result (total (goal.at.returns c).After-count_assigned) c.if-count_assigned-header.false)

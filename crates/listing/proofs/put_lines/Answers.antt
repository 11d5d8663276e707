-- `listing::put_lines` meets its contract: the goals that the check leaves open.
use Rattle.std.proofs.Common.{ap, arith, length, sym, ◌∙◌, ◌≡◌, ◌≤◌}
use Rattle.storing.proofs.WentLaws.{went_named, went_each_none, went_each-next}
use Rattle.directory.specs.Listing.{listed_line}
use Rattle.directory.specs.Calls.{show_of}
use Rattle.directory.proofs.EveryFile.{the_bytes_shown_are_those_of_the_part}
use Rattle.listing.specs.Text.{lines, longest_line}
use Rattle.listing.proofs.ListingLaws.{shown_short, line_short}
use Rattle.listing.proofs.put_lines.Goals as goal
use Rattle.listing.proofs.put_lines.Goals.{After-show}

-- what is lent to the line is the shown code, ..
code-shown : (c : After-show) → c.show.result.now ≡ show_of c.args.file.now c.loop-line.line
code-shown c = c.show.ensures.bytes ∙ sym (the_bytes_shown_are_those_of_the_part _ _)

-- .. so the line is no longer than the longest
short : (c : After-show) → length (listed_line c.loop-line.line c.show.result.now) ≤ longest_line
short c =
    let t = shown_short c.args.file.now c.loop-line.line in
    line_short _ c.show.result.now (omega arith) (omega (arith, ap length (code-shown c)))

pub loop-line-init : goal.loop-line-init
unfolding lines
loop-line-init c = record { written = went_each_none _ _; short = omega arith }

pub loop-line-preserved : goal.loop-line-preserved
unfolding lines
loop-line-preserved c =
    let v = c.loop-line in
    let s = (goal.at.loop-line-preserved c).After-show in
    record { written = went_each-next v.line _ v.invariant.written (went_named (ap (listed_line v.line) (code-shown s)) c.put_line.ensures); short = omega (arith, short s) }

pub put_line-requires : goal.put_line-requires
put_line-requires c = omega (arith, short (goal.at.put_line-requires c).After-show)

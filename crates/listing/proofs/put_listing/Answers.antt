-- What `listing::put_listing` writes: the text of the lines, or the one line of a refusal, which has room. Assumes nothing.
use Rattle.std.proofs.Common.{ap, arith, length, sym, ◌∙◌, ◌≤◌}
use Rattle.storing.proofs.WentLaws.{went_named}
use Rattle.listing.specs.Text.{refusal_line, text_of, longest_listing}
use Rattle.listing.proofs.LineLaws.{number_small}
use Rattle.listing.proofs.ListingLaws.{listing_text, opened_few, refused_short}
use Rattle.listing.proofs.put_listing.Goals as goal
use Rattle.listing.proofs.put_listing.Goals.{In-Err}

pub returns-in-Err-clause-written : goal.returns-in-Err-clause-written
returns-in-Err-clause-written c = went_named (sym (listing_text _ ∙ ap (text_of _) (sym c.in-Err.ensures.given))) c.put_refused.ensures

pub returns-in-Ok-clause-written : goal.returns-in-Ok-clause-written
returns-in-Ok-clause-written c = went_named (sym (listing_text _ ∙ ap (text_of _) (sym c.in-Ok.ensures.given))) c.put_lines.ensures.written

-- a refusal is a line that has room
short : (c : In-Err) → length (refusal_line c.in-Err.why) ≤ longest_listing
short c = refused_short _ _ (omega (arith, number_small c.in-Err.why.reason)) (omega arith)

pub returns-in-Err-clause-fits : goal.returns-in-Err-clause-fits
returns-in-Err-clause-fits c = omega (arith, short (goal.at.returns-in-Err-clause-fits c).In-Err)

pub put_lines-requires : goal.put_lines-requires
put_lines-requires c = (opened_few _ _ (sym c.in-Ok.ensures.given), omega arith, omega arith)

pub put_refused-requires : goal.put_refused-requires
put_refused-requires c = omega (arith, short (goal.at.put_refused-requires c).In-Err)

-- A file that opens has no more lines than the most codes. Assumes nothing.
use Rattle.std.proofs.Common.{sym}
use Rattle.listing.proofs.ListingLaws.{opened_few}
use Rattle.show_sign.proofs.show_file.Goals as goal

pub invariant_of-asked : goal.invariant_of-asked
invariant_of-asked g c = record { few = opened_few _ _ (sym c.in-Ok.ensures.given) }

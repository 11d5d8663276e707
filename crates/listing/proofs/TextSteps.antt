-- One turn of the loop that writes a code in hex. Assumes nothing.
use Rattle.std.proofs.Common.{add-one, take-suc}
use Rattle.std.specs.Prelude.{List, [], ◌∷◌, ℕ, ◌+◌, ◌/◌, ◌%◌, ◌<◌, length, get_or, take}
use Rattle.directory.specs.Listing.{digit, hex}
use Rattle.storing.specs.declared.Pen.{Pen}
use Rattle.storing.specs.Went.{Went}
use Rattle.storing.proofs.WentLaws.{went_then}
use Rattle.listing.proofs.TextLaws.{hex-append}

pub went_hex-next : (t : List ℕ) (i : ℕ) {p q r : Pen}
    → i < length t
    → Went (hex (take i t)) p q
    → Went (digit (get_or t i 0 / 16) ∷ digit (get_or t i 0 % 16) ∷ []) q r
    → Went (hex (take (i + 1) t)) p r
unfolding hex
went_hex-next t i h v w = rw (add-one i, take-suc t i 0 h, hex-append) (went_then v w)

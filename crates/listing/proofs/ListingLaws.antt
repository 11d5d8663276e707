-- The lister's text follows from what opening gives, and longest_listing bytes are room for it. Assumes nothing.
use Rattle.std.specs.Prelude.{◌≡◌, List, ℕ, ◌^◌, ◌≤◌, ◌<◌, length, Ok}
use Rattle.std.proofs.Common.{sym, ap, ⊎_elim, arith, length-take-le}
use Rattle.directory.specs.Sizes.{Header, most_codes}
use Rattle.directory.specs.Kind.{HD}
use Rattle.directory.proofs.RefusalLaws.{first-after}
use Rattle.directory.specs.File.{header_in}
use Rattle.directory.specs.Refusals.{refused}
use Rattle.directory.specs.Opening.{open_refusals, opening}
use Rattle.directory.proofs.OpeningLaws.{opening-opened}
use Rattle.directory.proofs.ShowingLaws.{nothing-or-code, shown-length, shown_empty}
use Rattle.directory.specs.Listing.{listed_line, refused_line, listing}
use Rattle.directory.specs.Calls.{open_of, show_of, listing_of}
use Rattle.listing.specs.Text.{lines, text_of, longest_line, longest_listing, Counts}
use Rattle.listing.proofs.TextLaws.{decimal-length, hex-length}
use Rattle.listing.proofs.LineLaws.{listed_line-length, refused_line-length}

pub listing_text : (f : List ℕ) → listing_of f ≡ text_of f (open_of f)
unfolding listing_of listing open_of opening lines show_of
listing_text f = sym (first-after (text_of f) _ refused (open_refusals _ (header_in f) f))

-- ---- how long it is

pub shown_short : (f : List ℕ) (l : ℕ) → length (show_of f l) ≤ HD.positions
unfolding show_of
shown_short f l =
    ⊎_elim
    (λ w. omega (arith, ap length ((shown_empty HD f l).1 w)))
    (λ w. omega (arith, shown-length HD f l w, w.most))
    (nothing-or-code HD f l)

pub line_short : (l : ℕ) (t : List ℕ) → l < most_codes → length t ≤ HD.positions → length (listed_line l t) ≤ longest_line
line_short l t m s = omega (arith, listed_line-length l t, decimal-length 3 l (omega arith), hex-length t)

pub refused_short : (number place : ℕ) → number < 2 ^ 8 → place < 2 ^ 64 → length (refused_line number place) ≤ longest_listing
refused_short number place m s = omega (arith, refused_line-length number place, decimal-length 2 number (omega arith), decimal-length 19 place (omega arith))

pub counts : (size : ℕ) (text : List ℕ) → size ≤ length text → Counts size text
counts size text h = (h, sym (length-take-le size text h))

pub opened_few : (f : List ℕ) (h : Header) → open_of f ≡ Ok h → h.n ≤ most_codes
unfolding open_of
opened_few f h e = ((opening-opened HD f h.n h.r h.v).0 e).1.framed.sizes.few

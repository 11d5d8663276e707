-- What the public calls give back: the definitions that their contracts cite. The kind of a file is the one that its first mark names. Assumes nothing.
use Rattle.std.specs.Prelude.{cond, List, ℕ}
use Rattle.graph.specs.Waiting.{most_waiting}
use Rattle.directory.specs.declared.Part.{Part}
use Rattle.directory.specs.Sizes.{Header, headed, header_allowed}
use Rattle.directory.specs.Kind.{Kind, HD}
use Rattle.directory.specs.Refusals.{Refusal, number_of, first}
use Rattle.directory.specs.File.{file_length, header_in, lead_in}
use Rattle.directory.specs.Answers.{Built, Opening, Found, found_numbers}
use Rattle.directory.specs.Building as building
use Rattle.directory.specs.Opening as opening
use Rattle.directory.specs.LookingUp as looking_up
use Rattle.directory.specs.Showing as showing
use Rattle.directory.specs.Listing as listing

-- HD is the only one, and a file with another mark is refused as such
abbrev pub kind_of : List ℕ → Kind
kind_of f = HD

-- the length of the file for n, r and v, and 0, which no file has, where the sizes do not allow them
unfoldable pub length_of : ℕ → ℕ → ℕ → ℕ
length_of n r v = cond (header_allowed (headed n r v)) (file_length HD (headed n r v)) 0

-- building: the answer, and the buffer afterwards
unfoldable pub build_of : building.Lent → Built
build_of I = building.build HD I

unfoldable pub buffer_after_of : building.Lent → List ℕ
buffer_after_of I = building.buffer_after HD I

unfoldable pub header_of : List ℕ → Opening
header_of f = opening.header (kind_of f) f

unfoldable pub open_of : List ℕ → Opening
open_of f = opening.opening (kind_of f) f

unfoldable pub lookup_of : List ℕ → List ℕ → Found
lookup_of f t = looking_up.lookup (kind_of f) f t

-- ---- the same in the paper's numbers

-- number, place and the most codes that waited at once
unfoldable pub build_numbers_of : building.Lent → ℕ × ℕ × ℕ
build_numbers_of I = first (0, 0, most_waiting (building.graph HD I)) (λ reason place. (number_of reason, place, 0)) (building.build_refusals HD I)

-- by a table: number, place, n, r and v; success is 0, and so is its place; a refusal leaves n, r and v 0
unfoldable pub open_numbers_by : List Refusal → Header → ℕ × ℕ × ℕ × ℕ × ℕ
open_numbers_by table h = first (0, 0, h.n, h.r, h.v) (λ reason place. (number_of reason, place, 0, 0, 0)) table

unfoldable pub header_numbers_of : List ℕ → ℕ × ℕ × ℕ × ℕ × ℕ
header_numbers_of f = let h = header_in f in open_numbers_by (opening.header_refusals (kind_of f) h f) h

unfoldable pub open_numbers_of : List ℕ → ℕ × ℕ × ℕ × ℕ × ℕ
open_numbers_of f = let h = header_in f in open_numbers_by (opening.open_refusals (kind_of f) h f) h

-- kind, number, place and line; the kind of a refusal is 2
unfoldable pub lookup_numbers_of : List ℕ → List ℕ → ℕ × ℕ × ℕ × ℕ
lookup_numbers_of f t =
    let h = header_in f in
    let K = kind_of f in
    first (found_numbers (looking_up.found K h f t (lead_in K h f t))) (λ reason place. (2, number_of reason, place, 0)) (looking_up.lookup_refusals K h f t)

-- ---- showing and listing

-- the part of the file, and its bytes
unfoldable pub show_part_of : List ℕ → ℕ → Part
show_part_of f l = showing.shown_part (kind_of f) f l

unfoldable pub show_of : List ℕ → ℕ → List ℕ
show_of f l = showing.shown (kind_of f) f l

unfoldable pub listing_of : List ℕ → List ℕ
listing_of f = listing.listing (kind_of f) f

-- Numbers within the sizes, and a file with them and the length that they call for, have all that the reading functions need. Assumes nothing.
use Rattle.std.specs.Prelude.{◌≡◌, true, List, ℕ, ◌≤◌, ◌<◌}
use Rattle.std.proofs.Common.{arith}
use Rattle.directory.specs.Sizes.{Header, most_vertices, most_codes, header_allowed}
use Rattle.directory.specs.Kind.{HD}
use Rattle.directory.specs.Whole.{Sized, Framed}
use Rattle.directory.proofs.WholeLaws.{sized_true}
use Rattle.records.specs.Standing.{Room, Tabled, Keyed}
use Rattle.records.proofs.StandingLaws.{length_from, part_most}

pub sized_room : (h : Header) → Sized h → Room h.r h.v
sized_room h s = record { two = s.two; three = s.three; some = s.some; room = s.room }

pub allowed_room : (h : Header) → header_allowed h ≡ true → Room h.r h.v × (h.n ≤ most_codes)
allowed_room h t = let s = sized_true h t in (sized_room h s, s.few)

module _ (h : Header) (f : List ℕ) (s : Framed HD h f) where
  pub framed_tabled : Tabled h f
  framed_tabled = record { room = sized_room h s.sizes; long = omega (arith, length_from h) }

  pub framed_keyed : (l : ℕ) → l < h.n → Keyed h l f
  framed_keyed l m = record { room = sized_room h s.sizes; few = omega (arith, s.sizes.few); long = omega (arith, length_from h) }

  -- cited by nothing: docs/landings/08-todays-rattle.md names it
  pub framed_part : h.v ≤ most_vertices
  framed_part = part_most h.r h.v (sized_room h s.sizes)

-- Filling to a width: one blank more, and how long the filled text is. Assumes nothing.
use Rattle.std.specs.Prelude.{◌≡◌, List, ℕ, ◌+◌, ◌-◌, ◌≤◌, length, take}
use Rattle.std.proofs.Common.{sym, ap, ◌∙◌, arith, length-append}
use Rattle.std.proofs.lemmas.List.{length-replicate}
use borrow.Rule.Slice.PartMut.{put_mid}
use Rattle.counting.specs.Wrote.{Wrote}
use Rattle.storing.proofs.WentLaws.{replaced}
use Rattle.directory.specs.Listing.{blank}
use Rattle.texts.proofs.ReadLaws.{written-first}
use Rattle.rows.specs.declared.Side.{Side}
use Rattle.rows.specs.declared.Side.TheVariants.{Left, Right}
use Rattle.rows.specs.Filling.{blanks, filled}

-- the part of a buffer that is filled with blanks has them one after the other
pub blanks_written : {at count k : ℕ} {text part : List ℕ} → at + count ≤ length text → k ≡ count → part ≡ blanks k → Wrote at (blanks count) text (put_mid at k text part) (at + count)
blanks_written {count = count} room e is = let long = length-replicate count blank in replaced (omega (arith, long)) (long ∙ sym e) (omega (arith, long)) (is ∙ ap blanks e)

-- the text and what is missing of the width, on either side
pub filled-length : (side : Side) (width : ℕ) (t : List ℕ) → length (filled side width t) ≡ length t + (width - length t)
unfolding filled
filled-length Left width t = simp (length-append, length-replicate) (omega arith)
filled-length Right width t = simp (length-append, length-replicate) (omega arith)

pub ruleset lengths = (filled-length, length-replicate)

-- so neither makes it longer than both are
pub filled_short : (side : Side) (width : ℕ) (t : List ℕ) {most : ℕ} → width ≤ most → length t ≤ most → length (filled side width t) ≤ most
filled_short side width t w l = omega (arith, filled-length side width t)

-- ---- a field that was written at the start of an array of its own

pub field_taken : {t before after : List ℕ} {size : ℕ} → Wrote 0 t before after size → length t ≤ length before → take size after ≡ t
field_taken {t} {before} {after} {size} w room = let e : size ≡ length t = omega (arith, w.next) in rw e (written-first w room)

-- Laws of bytes that go into the buffer of a pen: what is written next stands behind. Assumes nothing.
use Rattle.std.specs.Prelude.{◌≡◌, refl, List, [], ◌++◌, ℕ, ◌+◌, ◌≤◌, length}
use Rattle.std.proofs.Common.{ap, sym, ◌∙◌}
use Rattle.std.proofs.Math.Seq.{length-sets, take-length}
use Rattle.std.proofs.lemmas.List.Edits.{sets, sets-eq}
use Rattle.std.proofs.lemmas.Slice.{put_mid-paste}
use borrow.Rule.Slice.PartMut.{put_mid}
use Rattle.counting.specs.Lists.{each}
use Rattle.counting.specs.Wrote.{Wrote}
use Rattle.counting.proofs.WroteLaws.{wrote_none, wrote_then, wrote_each_none, wrote_each-next}
use Rattle.storing.specs.declared.Pen.{Pen}
use Rattle.storing.specs.Went.{Went}

pub went_none : (pen : Pen) → Went [] pen pen
went_none pen = record { same_buffer = refl; wrote = wrote_none _ _ }

-- what is written next stands behind
pub went_then : {xs ys : List ℕ} {p q r : Pen} → Went xs p q → Went ys q r → Went (xs ++ ys) p r
went_then v w = record { same_buffer = w.same_buffer ∙ v.same_buffer; wrote = wrote_then v.wrote w.wrote }

-- the same bytes by another name
pub went_named : {xs ys : List ℕ} {p q : Pen} → xs ≡ ys → Went xs p q → Went ys p q
went_named e w = rw (← e) w

-- the buffer with a part of it replaced has the bytes of the part one after the other
pub replaced : {at k next : ℕ} {l t part : List ℕ} → at + length t ≤ length l → length t ≡ k → next ≡ at + length t → part ≡ t → Wrote at t l (put_mid at k l part) next
replaced {at} {k} {next} {l} {t} {part} room e past is =
    let stored : put_mid at k l part ≡ sets l at t = put_mid-paste at k l part t (length t) is e refl ∙ rw take-length (sym (sets-eq t l at room)) in
    record { next = past; stored = stored; long = ap length stored ∙ length-sets l at t }

-- ---- one more in a loop

-- part k behind the k parts before it
pub went_each_none : (f : ℕ → List ℕ) (pen : Pen) → Went (each 0 f) pen pen
went_each_none f pen = record { same_buffer = refl; wrote = wrote_each_none f _ _ }

pub went_each-next : (k : ℕ) (f : ℕ → List ℕ) {p q r : Pen} → Went (each k f) p q → Went (f k) q r → Went (each (k + 1) f) p r
went_each-next k f v w = record { same_buffer = w.same_buffer ∙ v.same_buffer; wrote = wrote_each-next k f v.wrote w.wrote }

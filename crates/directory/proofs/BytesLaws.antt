-- What is written is read back, byte by byte: the parts, the mark and the numbers of a list that stands at an offset. Assumes nothing.
use Rattle.std.specs.Prelude.{◌≡◌, refl, true, List, [], ◌∷◌, ◌++◌, ℕ, ◌+◌, ◌*◌, ◌/◌, ◌%◌, ◌≤◌, ◌<◌, length, take, drop}
use Rattle.std.proofs.Common.{ap, ◌∙◌, zero-add, add_assoc, arith, length-append, length-take, length-drop, get_or-append-add, get_or-take, get_or-drop, ext_get_or, eq-eqb}
use Rattle.std.proofs.Math.Nat.{add-zero}
use Rattle.std.proofs.Math.ListN.{get_or-append}
use Rattle.counting.proofs.TestLaws.{and_both}
use Rattle.counting.specs.Lists.{each}
use Rattle.counting.proofs.EachLaws.{place_inside, length-each, each_at}
use Rattle.directory.specs.Bytes.{two, two_in, byte_at, mark_length, under, marked, Stands}

pub two_back : (x : ℕ) → x % 256 + 256 * (x / 256) ≡ x
two_back x = omega arith

pub stands_itself : (f : List ℕ) → Stands (byte_at f) 0 f
stands_itself f = record { byte = λ i l. ap (byte_at f) (zero-add i) }

-- ---- what stands with a list

module _ {B : ℕ → ℕ} {a : ℕ} where
  -- its first part, and the rest of it
  pub stands_first : (s t : List ℕ) → Stands B a (s ++ t) → Stands B a s
  stands_first s t here = record { byte = λ i l. here.byte i (omega (arith, length-append s t)) ∙ get_or-append s t 0 i l }

  pub stands_rest : (s t : List ℕ) {k : ℕ} → length s ≡ k → Stands B a (s ++ t) → Stands B (a + k) t
  stands_rest s t {k} long here =
      record { byte = λ i l. rw (add_assoc a k i, ← long) (here.byte (length s + i) (omega (arith, length-append s t)) ∙ get_or-append-add s t i 0) }

  -- part i of k parts that have w bytes each
  pub stands_part : (w k : ℕ) (part : ℕ → List ℕ) → ((i : ℕ) → i < k → length (part i) ≡ w) → Stands B a (each k part) → (i : ℕ) → i < k → Stands B (a + w * i) (part i)
  stands_part w k part long here i m =
      record {
        byte = λ j l.
            let b : j < w = omega (arith, long i m) in
            rw (add_assoc a (w * i) j) (here.byte (w * i + j) (omega (arith, length-each w k part long, place_inside w k i j m b)) ∙ each_at w k part long i j m b);
      }

  -- the bytes of a record
  pub stands_under : (mark : ℕ × ℕ) (bytes : List ℕ) → Stands B a (under mark bytes) → Stands B (a + mark_length) bytes
  stands_under mark bytes = stands_rest (mark.0 ∷ mark.1 ∷ []) bytes refl

-- part i of a record of such parts
pub stands_in_record : {B : ℕ → ℕ} {a : ℕ} {mark : ℕ × ℕ} (w k : ℕ) (part : ℕ → List ℕ) → ((i : ℕ) → i < k → length (part i) ≡ w) → Stands B a (under mark (each k part)) → (i : ℕ) → i < k → Stands B (a + (mark_length + w * i)) (part i)
stands_in_record {a = a} {mark} w k part long here i l = rw (← add_assoc a mark_length (w * i)) (stands_part w k part long (stands_under mark (each k part) here) i l)

-- ---- what is read of a list that stands

-- a number in two bytes
pub two_read : {B : ℕ → ℕ} {a x : ℕ} → Stands B a (two x) → two_in B a ≡ x
two_read {B} {a} {x} here =
    let low : B a ≡ x % 256 = rw add-zero at (here.byte 0 (omega arith)) in
    omega (arith, low, here.byte 1 (omega arith), two_back x)

-- number i of a record of such numbers
pub twos_read : {B : ℕ → ℕ} {a : ℕ} {mark : ℕ × ℕ} (k : ℕ) (number : ℕ → ℕ) → Stands B a (under mark (each k (λ i. two (number i)))) → (i : ℕ) → i < k → two_in B (a + (mark_length + 2 * i)) ≡ number i
twos_read k number here i l = two_read (stands_in_record 2 k (λ i. two (number i)) (λ i m. refl) here i l)

module _ (f : List ℕ) {a : ℕ} where
  pub mark_read : {mark : ℕ × ℕ} {bytes : List ℕ} → Stands (byte_at f) a (under mark bytes) → marked f a mark ≡ true
  unfolding marked
  mark_read here = and_both (eq-eqb _ _ (rw add-zero at (here.byte 0 (omega arith)))) (eq-eqb _ _ (here.byte 1 (omega arith)))

  -- the list itself, as a part of the file
  pub part_read : {t : List ℕ} → Stands (byte_at f) a t → a + length t ≤ length f → take (length t) (drop a f) ≡ t
  part_read {t} here room =
      let long : length (take (length t) (drop a f)) ≡ length t = rw (length-take, length-drop) (omega arith) in
      ext_get_or 0 _ t long (λ i l. let m : i < length t = omega (arith, long) in get_or-take (length t) (drop a f) i 0 m ∙ get_or-drop a f i 0 ∙ here.byte i m)

-- Laws of bytes that are stored one after the other: what is written next stands behind, and in the end the bytes stand at the start of the buffer. Assumes nothing.
use Rattle.std.specs.Prelude.{◌≡◌, refl, List, [], ◌∷◌, ◌++◌, ℕ, suc, ◌+◌, ◌≤◌, ◌<◌, length, get_or, take, drop, set}
use Rattle.std.proofs.Common.{sym, ap, ◌∙◌, add-zero, add-one, arith, length-append, take-suc, take_all}
use Rattle.std.proofs.lemmas.List.Edits.{sets, sets-eq}
use Rattle.std.proofs.Math.Seq.{length-sets}
use Rattle.counting.specs.Lists.{each}
use Rattle.counting.specs.Wrote.{Wrote}

sets_append : (xs ys l : List ℕ) (i : ℕ) → sets l i (xs ++ ys) ≡ sets (sets l i xs) (i + length xs) ys
sets_append [] ys l i = rw (add-zero i)
sets_append (x ∷ xs) ys l i = let e : i + suc (length xs) ≡ suc i + length xs = omega arith in rw (e, sets_append xs ys (set l i x) (suc i))

pub wrote_none : (at : ℕ) (l : List ℕ) → Wrote at [] l l at
wrote_none at l = record { next = omega arith; stored = refl; long = refl }

pub wrote_one : (at x : ℕ) (l : List ℕ) → Wrote at (x ∷ []) l (set l at x) (at + 1)
wrote_one at x l = record { next = refl; stored = refl; long = length-sets l at (x ∷ []) }

-- what is written next stands behind
pub wrote_then : {a b c : ℕ} {xs ys l m k : List ℕ} → Wrote a xs l m b → Wrote b ys m k c → Wrote a (xs ++ ys) l k c
wrote_then {a} {b} {c} {xs} {ys} {l} {m} {k} v w =
    record {
      next = omega (arith, length-append xs ys);
      stored = w.stored ∙ join m b v.stored v.next ∙ sym (sets_append xs ys l a);
      long = omega arith;
    }
  where
    join : (m : List ℕ) (b : ℕ) → m ≡ sets l a xs → b ≡ a + length xs → sets m b ys ≡ sets (sets l a xs) (a + length xs) ys
    join m b e d = rw (e, d)

-- the same bytes by another name
pub wrote_named : {a b : ℕ} {xs ys l m : List ℕ} → xs ≡ ys → Wrote a xs l m b → Wrote a ys l m b
wrote_named e w = rw (← e) w

-- the same buffer and place by other names
pub wrote_moved : {a b c : ℕ} {xs l m n : List ℕ} → m ≡ n → b ≡ c → Wrote a xs l n c → Wrote a xs l m b
wrote_moved e d w = rw (e, d) w

-- ---- one more in a loop

-- part k behind the k parts before it
pub wrote_each_none : (f : ℕ → List ℕ) (at : ℕ) (l : List ℕ) → Wrote at (each 0 f) l l at
unfolding each
wrote_each_none f at l = wrote_none at l

pub wrote_each-next : (k : ℕ) (f : ℕ → List ℕ) {a b c : ℕ} {l m n : List ℕ} → Wrote a (each k f) l m b → Wrote b (f k) m n c → Wrote a (each (k + 1) f) l n c
unfolding each
wrote_each-next k f v w = rw (add-one k) (wrote_then v w)

-- byte i of a list behind the i bytes before it
pub wrote_take-next : (t : List ℕ) (i : ℕ) {a b c : ℕ} {l m n : List ℕ} → i < length t → Wrote a (take i t) l m b → Wrote b (get_or t i 0 ∷ []) m n c → Wrote a (take (i + 1) t) l n c
wrote_take-next t i h v w = rw (add-one i, take-suc t i 0 h) (wrote_then v w)

pub wrote_take_all : (t : List ℕ) (i : ℕ) {a b : ℕ} {l m : List ℕ} → length t ≤ i → Wrote a (take i t) l m b → Wrote a t l m b
wrote_take_all t i h v = wrote_named (take_all i t h) v

-- ---- all of it

-- bytes at the start of the buffer, and those after them unchanged
pub wrote_whole : {f l m : List ℕ} {b : ℕ} → Wrote 0 f l m b → length f ≤ length l → m ≡ f ++ drop (length f) l
wrote_whole {f} {l} {m} {b} w h =
    let e : 0 + length f ≡ length f = omega arith in
    w.stored ∙ sets-eq f l 0 (omega arith) ∙ ap (λ k. f ++ drop k l) e

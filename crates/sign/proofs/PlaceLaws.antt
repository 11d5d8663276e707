-- Places of a list: what is read there is what was put there, and other places stay. Assumes nothing.
use Rattle.std.specs.Prelude.{◌≡◌, refl, ◌≢◌, List, [], ◌∷◌, ◌++◌, ℕ, zero, suc, ◌+◌, ◌/◌, ◌%◌, ◌≤◌, ◌<◌, length, get_or, set, take, drop, ◌^◌}
use Rattle.std.specs.Int.{w32, from_le_bytes, to_le_bytes}
use Rattle.std.specs.Simd.{first_chunks}
use Rattle.std.proofs.Common.{ap, sym, lit<, ◌∙◌, arith, get_or-take, get_or-drop}
use Rattle.std.proofs.Math.ListN.{length-set}
use Rattle.std.proofs.Math.Seq.{get_or-set_same, get_or-set_other}
use Rattle.sign.specs.Places.{place_bytes, place_at, joined, byte0, byte1, byte2, byte3, number_at, with_number, filled}

pub length-with : (list : List ℕ) (line x : ℕ) → length (with_number list line x) ≡ length list
unfolding with_number
length-with list line x = simp length-set

-- the bytes of a number make it
bytes_joined : (x : ℕ) → joined (byte0 x) (byte1 x) (byte2 x) (byte3 x) ≡ x
bytes_joined x = omega arith

module _ (list : List ℕ) (line x : ℕ) where
  abbrev at : ℕ
  at = place_at line

  -- the list with the first byte put, the first two and the first three
  abbrev one : List ℕ
  one = set list at (byte0 x)

  abbrev two : List ℕ
  two = set one (at + 1) (byte1 x)

  abbrev three : List ℕ
  three = set two (at + 2) (byte2 x)

  -- a byte that is none of the four stays
  byte-other : (b : ℕ) → b ≢ at → b ≢ at + 1 → b ≢ at + 2 → b ≢ at + 3 → get_or (with_number list line x) b 0 ≡ get_or list b 0
  unfolding with_number
  byte-other b p q u v =
      get_or-set_other three (at + 3) b (byte3 x) 0 v
      ∙ get_or-set_other two (at + 2) b (byte2 x) 0 u
      ∙ get_or-set_other one (at + 1) b (byte1 x) 0 q
      ∙ get_or-set_other list at b (byte0 x) 0 p

  -- so are those of other places
  pub byte_stays : (b : ℕ) → b / place_bytes ≢ line → get_or (with_number list line x) b 0 ≡ get_or list b 0
  byte_stays b d = byte-other b (λ e. d (omega arith)) (λ e. d (omega arith)) (λ e. d (omega arith)) (λ e. d (omega arith))

  module _ (room : at + place_bytes ≤ length list) where
    first_byte : get_or (with_number list line x) at 0 ≡ byte0 x
    unfolding with_number
    first_byte =
        get_or-set_other three (at + 3) at (byte3 x) 0 (omega arith)
        ∙ get_or-set_other two (at + 2) at (byte2 x) 0 (omega arith)
        ∙ get_or-set_other one (at + 1) at (byte1 x) 0 (omega arith)
        ∙ get_or-set_same list at (byte0 x) 0 (omega arith)

    second_byte : get_or (with_number list line x) (at + 1) 0 ≡ byte1 x
    unfolding with_number
    second_byte =
        get_or-set_other three (at + 3) (at + 1) (byte3 x) 0 (omega arith)
        ∙ get_or-set_other two (at + 2) (at + 1) (byte2 x) 0 (omega arith)
        ∙ get_or-set_same one (at + 1) (byte1 x) 0 (simp length-set (omega arith))

    third_byte : get_or (with_number list line x) (at + 2) 0 ≡ byte2 x
    unfolding with_number
    third_byte =
        get_or-set_other three (at + 3) (at + 2) (byte3 x) 0 (omega arith)
        ∙ get_or-set_same two (at + 2) (byte2 x) 0 (simp length-set (omega arith))

    fourth_byte : get_or (with_number list line x) (at + 3) 0 ≡ byte3 x
    unfolding with_number
    fourth_byte = get_or-set_same three (at + 3) (byte3 x) 0 (simp length-set (omega arith))

    -- what is read is what was put there
    pub number_same : number_at (with_number list line x) line ≡ x
    unfolding number_at
    number_same = rw (first_byte, second_byte, third_byte, fourth_byte) (bytes_joined x)

-- another line's number stays
pub number-other : (list : List ℕ) (line x other : ℕ) → other ≢ line → number_at (with_number list line x) other ≡ number_at list other
unfolding number_at
number-other list line x other d =
    rw (
      byte_stays list line x (place_at other) (λ e. d (omega arith)),
      byte_stays list line x (place_at other + 1) (λ e. d (omega arith)),
      byte_stays list line x (place_at other + 2) (λ e. d (omega arith)),
      byte_stays list line x (place_at other + 3) (λ e. d (omega arith)),
    )

-- past the first place the lines count from there
number_later : (list : List ℕ) (line : ℕ) → number_at (drop place_bytes list) line ≡ number_at list (suc line)
unfolding number_at
number_later list line =
    let e0 : place_bytes + place_at line ≡ place_at (suc line) = omega arith in
    let e1 : place_bytes + (place_at line + 1) ≡ place_at (suc line) + 1 = omega arith in
    let e2 : place_bytes + (place_at line + 2) ≡ place_at (suc line) + 2 = omega arith in
    let e3 : place_bytes + (place_at line + 3) ≡ place_at (suc line) + 3 = omega arith in
    simp (get_or-drop, e0, e1, e2, e3)

-- ---- places that all hold one number

pub length-filled : (n x : ℕ) → length (filled n x) ≡ place_at n
unfolding filled
length-filled zero x = refl
length-filled (suc n) x = omega (arith, length-filled n x)

pub number-filled : (n x line : ℕ) → line < n → number_at (filled n x) line ≡ x
unfolding filled number_at
number-filled zero x line h = absurd (omega arith)
number-filled (suc n) x zero h = bytes_joined x
number-filled (suc n) x (suc line) h = sym (number_later (filled (suc n) x) line) ∙ number-filled n x line (omega arith)

-- ---- what the code does: it reads the chunk of four bytes at a line, and writes four bytes over a part of the list

pub number_read : (n line : ℕ) (list : List ℕ) → line < n → from_le_bytes w32 (get_or (first_chunks place_bytes n list) line []) ≡ number_at list line
unfolding number_at
number_read zero line list h = absurd (omega arith)
number_read (suc n) zero list h = omega (arith, get_or-take place_bytes list 0 0 (lit< tt), get_or-take place_bytes list 1 0 (lit< tt), get_or-take place_bytes list 2 0 (lit< tt), get_or-take place_bytes list 3 0 (lit< tt))
number_read (suc n) (suc line) list h = number_read n line (drop place_bytes list) (omega arith) ∙ number_later list line

part_put : (at : ℕ) (list : List ℕ) (a b c d : ℕ) → at + place_bytes ≤ length list → take at list ++ (a ∷ b ∷ c ∷ d ∷ drop place_bytes (drop at list)) ≡ set (set (set (set list at a) (at + 1) b) (at + 2) c) (at + 3) d
part_put zero (k ∷ l ∷ m ∷ n ∷ list) a b c d h = refl
part_put zero list a b c d h = absurd (omega arith)
part_put (suc at) [] a b c d h = absurd (omega arith)
part_put (suc at) (k ∷ list) a b c d h =
    let e1 : suc at + 1 ≡ suc (at + 1) = omega arith in
    let e2 : suc at + 2 ≡ suc (at + 2) = omega arith in
    let e3 : suc at + 3 ≡ suc (at + 3) = omega arith in
    rw (e1, e2, e3) (ap (λ (l : List ℕ). k ∷ l) (part_put at list a b c d (omega arith)))

pub number_put : (list : List ℕ) (line x k : ℕ) → x < 2 ^ 32 → k ≡ place_bytes → place_at line + place_bytes ≤ length list → take (place_at line) list ++ (to_le_bytes w32 x ++ drop k (drop (place_at line) list)) ≡ with_number list line x
unfolding with_number
number_put list line x k f e h =
    let b2 : x / 65536 % 256 ≡ byte2 x = omega arith in
    let b3 : x / 16777216 % 256 ≡ byte3 x = omega arith in
    rw (e, b2, b3) (part_put (place_at line) list (byte0 x) (byte1 x) (byte2 x) (byte3 x) h)

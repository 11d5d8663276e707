-- A number of 32 bits is what its bits say, and what the code makes of either. Assumes nothing.
use Rattle.std.specs.Prelude.{◌≡◌, refl, Bool, true, false, not, ℕ, suc, ◌-◌, ◌<◌, ◌≤◌, ◌^◌, ltb, ℤ, pos, negsuc}
use Rattle.std.proofs.Common.{arith, leb-true, ltb-false, lt-ltb, le-ltb}
use Rattle.std.specs.Int.Signed.{lt_z, le_z}
use Rattle.counting.proofs.TestLaws.{and_left, and_right}
use Rattle.sign.specs.Levels.{lowest_level, highest_level, in_range, twos, from_twos}

-- ---- a number, its bits, and the number of these

-- `pos n` below 2 ^ 31, and `negsuc k` with such a k
abbrev pub Of32Bits : ℤ → Type 0
Of32Bits (pos n) = n < 2 ^ 31
Of32Bits (negsuc k) = k < 2 ^ 31

pub level_back : (z : ℤ) → Of32Bits z → from_twos (twos z) ≡ z
level_back (pos n) h = rw (lt-ltb n (2 ^ 31) h)
level_back (negsuc k) h =
    let b : 2 ^ 32 - suc (2 ^ 32 - suc k) ≡ k = omega arith in
    rw (le-ltb (2 ^ 32 - suc k) (2 ^ 31) (omega arith), b)

pub bits_back : (u : ℕ) → u < 2 ^ 32 → twos (from_twos u) ≡ u
bits_back u h = go (ltb u (2 ^ 31)) refl
  where
    go : (b : Bool) → ltb u (2 ^ 31) ≡ b → twos (from_twos u) ≡ u
    go true e = rw e
    go false e = rw e (let l : 2 ^ 31 ≤ u = ltb-false u (2 ^ 31) e in omega arith)

-- a level in range has 32 bits
pub range_bits : (z : ℤ) → in_range z ≡ true → Of32Bits z
unfolding in_range
range_bits (pos n) e = omega (arith, leb-true n 20000 (and_right (not (lt_z (pos n) lowest_level)) (le_z (pos n) highest_level) e))
range_bits (negsuc k) e = go (ltb 19999 k) refl (and_left (not (lt_z (negsuc k) lowest_level)) (le_z (negsuc k) highest_level) e)
  where
    go : (b : Bool) → ltb 19999 k ≡ b → not b ≡ true → k < 2 ^ 31
    go true h i = absurd (let z : ◌≡◌ {A = ℕ} 0 1 = cc in omega arith)
    go false h i = omega (arith, ltb-false 19999 k h)

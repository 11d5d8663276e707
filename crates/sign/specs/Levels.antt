-- Levels in millimetres: their range, and their 32 bits in two's complement. Assumes nothing.
use Rattle.std.specs.Prelude.{Bool, not, ◌&&◌, cond, ℕ, suc, ◌-◌, ◌^◌, ltb, ℤ, pos, negsuc}
use Rattle.std.specs.Int.Signed.{lt_z, le_z}

-- `pos n` is n, `negsuc k` is -(k + 1): from -20,000 to 20,000
abbrev pub lowest_level : ℤ
lowest_level = negsuc 19_999

abbrev pub highest_level : ℤ
highest_level = pos 20_000

unfoldable pub in_range : ℤ → Bool
in_range level = not (lt_z level lowest_level) && le_z level highest_level

-- the bits of a level as a number of 32 bits, and the level of some bits
abbrev pub twos : ℤ → ℕ
twos (pos n) = n
twos (negsuc k) = 2 ^ 32 - suc k

abbrev pub from_twos : ℕ → ℤ
from_twos bits = cond (ltb bits (2 ^ 31)) (pos bits) (negsuc (2 ^ 32 - suc bits))

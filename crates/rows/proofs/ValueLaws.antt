-- How long levels and ages are as text. Assumes nothing.
use Rattle.std.specs.Prelude.{◌≡◌, refl, ℕ, suc, ◌+◌, ◌/◌, ◌^◌, ◌≤◌, ◌<◌, ℤ, pos, negsuc, length}
use Rattle.std.proofs.Common.{arith, length-append}
use Rattle.std.specs.Int.Signed.{mag}
use Rattle.std.proofs.lemmas.Int.{ints}
use Rattle.directory.specs.Listing.{decimal}
use Rattle.listing.proofs.TextLaws.{decimal-length}
use Rattle.rows.specs.Values.{two_digits, three_digits, metres, level_text, age_text, longest_value}

pub two-length : (x : ℕ) → length (two_digits x) ≡ 2
unfolding two_digits
two-length x = refl

pub three-length : (x : ℕ) → length (three_digits x) ≡ 3
unfolding three_digits two_digits
three-length x = refl

pub metres-length : (x : ℕ) → length (metres x) ≡ length (decimal (x / 1000)) + 6
unfolding metres three_digits two_digits
metres-length x = simp length-append (omega arith)

pub age_length : (age : ℕ) → length (age_text age) ≡ length (decimal (age / 3600)) + 6
unfolding age_text two_digits
age_length age = simp length-append (omega arith)

-- a level of 32 bits has at most seven digits before the point, and an age at most seven of hours
pub level_short : (level : ℤ) → mag level < 2 ^ 31 → length (level_text level) ≤ longest_value
unfolding level_text
level_short (pos n) m = omega (arith, metres-length n, decimal-length 6 (n / 1000) (omega arith))
level_short (negsuc k) m = omega (arith, metres-length (suc k), decimal-length 6 (suc k / 1000) (omega arith))

pub age_short : (age : ℕ) → age < 2 ^ 32 → length (age_text age) ≤ longest_value
age_short age m = omega (arith, age_length age, decimal-length 6 (age / 3600) (omega arith))

-- ---- what the code's goals need

pub ruleset lengths = (two-length, three-length, metres-length, age_length)

pub ruleset values = (level_short, age_short, ints)

-- The lists keep the last reports: what is kept at a line is what was put there, other lines stay, and cleared lists were never heard. Assumes nothing.
use Rattle.std.specs.Prelude.{◌≡◌, refl, ◌≢◌, true, false, ◌&&◌, ℕ, ◌/◌, ◌<◌, ℤ, pos, length, get_or}
use Rattle.std.proofs.Common.{arith, eqb-true, eq-eqb, lt-ltb, ltb-true}
use Rattle.counting.proofs.TestLaws.{and_left, and_right, and_both}
use Rattle.sign.specs.Levels.{in_range, twos}
use Rattle.sign.proofs.LevelLaws.{level_back, range_bits}
use Rattle.sign.specs.Places.{place_bytes, place_at, number_at, filled}
use Rattle.sign.proofs.PlaceLaws.{length-with, byte_stays, number_same, number-other, length-filled, number-filled}
use Rattle.sign.specs.Rules.{heard, never_heard, last_of}
use Rattle.sign.specs.Keeping.{Lists, long_enough, has_place, fits, Room, last_at, heard_at, keep, cleared}

-- ---- what stored numbers mean

pub last-heard : (level : ℤ) (time : ℕ) → in_range level ≡ true → last_of level time ≡ heard level time
unfolding last_of
last-heard level time e = rw e

-- cited by nothing: docs/DESIGN-PASS.md names it
pub last_never : (level : ℤ) (time : ℕ) → in_range level ≡ false → last_of level time ≡ never_heard
unfolding last_of
last_never level time e = rw e

-- ---- lists that fit

-- they have so many bytes
fits_long : (n : ℕ) (S : Lists) → fits n S ≡ true → (length S.levels ≡ place_at n) × (length S.times ≡ place_at n)
unfolding fits
fits_long n S h = (
  eqb-true _ _ (and_left (long_enough n (length S.levels)) (long_enough n (length S.times)) h),
  eqb-true _ _ (and_right (long_enough n (length S.levels)) (long_enough n (length S.times)) h),
)

-- and room for every line
pub fits_room : (n : ℕ) (S : Lists) (line : ℕ) → fits n S ≡ true → line < n → Room line S.levels S.times
fits_room n S line h l = let w = fits_long n S h in (omega (arith, w.0), omega (arith, w.1))

-- ---- where both lists have the place of a line, what was heard last is what stands there

module _ (S : Lists) (line : ℕ) where
  pub heard_room : Room line S.levels S.times → heard_at S line ≡ last_at S line
  unfolding heard_at
  heard_room room = rw (lt-ltb line (length S.levels / place_bytes) (omega (arith, room.0)), lt-ltb line (length S.times / place_bytes) (omega (arith, room.1)))

  -- cited by nothing: docs/DESIGN-PASS.md names it
  pub places_room : has_place line (length S.levels) && has_place line (length S.times) ≡ true → Room line S.levels S.times
  places_room h =
      let l = ltb-true line (length S.levels / place_bytes) (and_left (has_place line (length S.levels)) (has_place line (length S.times)) h) in
      let t = ltb-true line (length S.times / place_bytes) (and_right (has_place line (length S.levels)) (has_place line (length S.times)) h) in
      (omega (arith, l), omega (arith, t))

  -- lists that fit have every line's
  pub heard-fits : (n : ℕ) → fits n S ≡ true → line < n → heard_at S line ≡ last_at S line
  heard-fits n h l = heard_room (fits_room n S line h l)

-- ---- what is kept

module _ (S : Lists) (line : ℕ) (level : ℤ) (time : ℕ) where
  pub kept-fits : (n : ℕ) → fits n (keep S line level time) ≡ fits n S
  unfolding fits keep
  kept-fits n = rw (length-with S.levels line (twos level), length-with S.times line time)

  pub kept_same : Room line S.levels S.times → in_range level ≡ true → last_at (keep S line level time) line ≡ heard level time
  unfolding last_at keep
  kept_same room e =
      rw (number_same S.levels line (twos level) room.0, number_same S.times line time room.1, level_back level (range_bits level e)) (last-heard level time e)

  pub kept-other : (other : ℕ) → other ≢ line → last_at (keep S line level time) other ≡ last_at S other
  unfolding last_at keep
  kept-other other d = rw (number-other S.levels line (twos level) other d, number-other S.times line time other d)

  -- no byte of another place changes, nor the length of a list
  pub record OwnPlaceAlone (after : Lists) : Type 0 where
    pub level_there : number_at after.levels line ≡ twos level
    pub time_there : number_at after.times line ≡ time
    pub other_levels : (i : ℕ) → i / place_bytes ≢ line → get_or after.levels i 0 ≡ get_or S.levels i 0
    pub other_times : (i : ℕ) → i / place_bytes ≢ line → get_or after.times i 0 ≡ get_or S.times i 0
    pub as_many_levels : length after.levels ≡ length S.levels
    pub as_many_times : length after.times ≡ length S.times

  pub kept_own : Room line S.levels S.times → OwnPlaceAlone (keep S line level time)
  unfolding keep
  kept_own room =
      record {
        level_there = number_same S.levels line (twos level) room.0;
        time_there = number_same S.times line time room.1;
        other_levels = byte_stays S.levels line (twos level);
        other_times = byte_stays S.times line time;
        as_many_levels = length-with S.levels line (twos level);
        as_many_times = length-with S.times line time;
      }

-- ---- cleared lists

never : (time : ℕ) → last_of (pos 30000) time ≡ never_heard
unfolding last_of in_range
never time = refl

pub cleared-fits : (n : ℕ) → fits n (cleared n) ≡ true
unfolding fits cleared
cleared-fits n = and_both (eq-eqb _ _ (length-filled n 30000)) (eq-eqb _ _ (length-filled n 0))

pub cleared_never : (n line : ℕ) → line < n → last_at (cleared n) line ≡ never_heard
unfolding last_at cleared
cleared_never n line h = rw (number-filled n 30000 line h) (never (number_at (filled n 0) line))

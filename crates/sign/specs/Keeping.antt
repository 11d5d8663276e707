-- The last reports as the lists keep them: the levels and the times, one place a line. Assumes nothing.
use Rattle.std.specs.Prelude.{Bool, ◌&&◌, cond, List, ℕ, ◌+◌, ◌/◌, ◌≤◌, eqb, ltb, ℤ, length, Some, None, Ok, Err}
use Rattle.sign.specs.Levels.{twos, from_twos}
use Rattle.sign.specs.Places.{place_bytes, place_at, number_at, with_number, filled}
use Rattle.sign.specs.Rules.{Last, never_heard, Reported, last_of}

-- the two lists of bytes that are lent
pub record Lists : Type 0 where
  pub levels : List ℕ
  pub times : List ℕ

abbrev pub lists : List ℕ → List ℕ → Lists
lists levels times = record { levels = levels; times = times }

-- so many bytes are n places
abbrev pub long_enough : ℕ → ℕ → Bool
long_enough n bytes = eqb bytes (place_at n)

-- both lists have n places
unfoldable pub fits : ℕ → Lists → Bool
fits n S = long_enough n (length S.levels) && long_enough n (length S.times)

-- both have the place of a line
abbrev pub Room : ℕ → List ℕ → List ℕ → Type 0
Room line levels times = (place_at line + place_bytes ≤ length levels) × (place_at line + place_bytes ≤ length times)

-- the last report of a line
unfoldable pub last_at : Lists → ℕ → Last
last_at S line = last_of (from_twos (number_at S.levels line)) (number_at S.times line)

-- the same where the lists may have no such place: then it was never heard
abbrev pub has_place : ℕ → ℕ → Bool
has_place line bytes = ltb line (bytes / place_bytes)

unfoldable pub heard_at : Lists → ℕ → Last
heard_at S line = cond (has_place line (length S.levels) && has_place line (length S.times)) (last_at S line) never_heard

-- the lists with a report put at a line
unfoldable pub keep : Lists → ℕ → ℤ → ℕ → Lists
keep S line level time = lists (with_number S.levels line (twos level)) (with_number S.times line time)

-- an accepted report is put at its line, and no other changes a byte
unfoldable pub kept : Reported → ℤ → ℕ → Lists → Lists
kept (Ok (Some line)) level time S = keep S line level time
kept (Ok None) level time S = S
kept (Err why) level time S = S

-- lists of n lines that were never heard: 30,000 as every level and 0 as every time
unfoldable pub cleared : ℕ → Lists
cleared n = lists (filled n 30_000) (filled n 0)

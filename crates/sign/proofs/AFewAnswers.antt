-- Both sides of each edge of the sign's rules, computed. Assumes nothing.
use Rattle.std.specs.Prelude.{◌≡◌, refl, true, false, [], ◌∷◌, map, pos, negsuc, Some, Ok}
use Rattle.directory.specs.declared.Reason.TheVariants.{WrongLevel, EarlierTime, EarlierNow}
use Rattle.directory.specs.Refusals.{refused, first}
use Rattle.sign.specs.declared.Answer.TheVariants.{Never, Fresh, Stale}
use Rattle.sign.specs.Levels.{in_range}
use Rattle.sign.specs.Places.{number_at, with_number, filled}
use Rattle.sign.specs.Rules.{Last, heard, never_heard, last_of, told, answered, limit_allowed}
use Rattle.sign.specs.Keeping.{lists, last_at, keep, cleared}

-- ---- levels and limits

-- -20,001, -20,000, 20,000, 20,001
pub levels_are : map in_range (negsuc 20_000 ∷ negsuc 19_999 ∷ pos 20_000 ∷ pos 20_001 ∷ []) ≡ false ∷ true ∷ true ∷ false ∷ []
unfolding in_range
levels_are = refl

pub limits_are : map limit_allowed (0 ∷ 1 ∷ 86_400 ∷ 86_401 ∷ []) ≡ false ∷ true ∷ true ∷ false ∷ []
unfolding limit_allowed
limits_are = refl

-- ---- a line that was heard at the time 100, with the level -340

abbrev last : Last
last = heard (negsuc 339) 100

-- reports at line 7: a second before, at the same time, a second later; before and with a wrong level; and as the line's first
pub reports_are : map (told last 7 (pos 0)) (99 ∷ 100 ∷ 101 ∷ []) ≡ refused EarlierTime 0 ∷ Ok (Some 7) ∷ Ok (Some 7) ∷ []
unfolding told first in_range
reports_are = refl

pub a_wrong_level_comes_first : told last 7 (pos 20_001) 99 ≡ refused WrongLevel 0
unfolding told first in_range
a_wrong_level_comes_first = refl

pub a_first_report_may_have_any_time : told never_heard 7 (pos 0) 0 ≡ Ok (Some 7)
unfolding told first in_range
a_first_report_may_have_any_time = refl

-- asking with a limit of 60: a second before, at the same time, just at the limit, a second past it; and a line that was never heard
pub answers_are : map (λ now. answered last now 60) (99 ∷ 100 ∷ 160 ∷ 161 ∷ []) ≡ refused EarlierNow 0 ∷ Ok (Some (Fresh (negsuc 339))) ∷ Ok (Some (Fresh (negsuc 339))) ∷ Ok (Some (Stale (negsuc 339) 61)) ∷ []
unfolding answered first
answers_are = refl

pub never_heard_has_no_time : map (λ now. answered never_heard now 60) (0 ∷ 161 ∷ []) ≡ Ok (Some Never) ∷ Ok (Some Never) ∷ []
unfolding answered first
never_heard_has_no_time = refl

-- ---- bytes: the low one first, levels in two's complement

pub cleared_bytes_are : cleared 2 ≡ lists (0x30 ∷ 0x75 ∷ 0 ∷ 0 ∷ 0x30 ∷ 0x75 ∷ 0 ∷ 0 ∷ []) (0 ∷ 0 ∷ 0 ∷ 0 ∷ 0 ∷ 0 ∷ 0 ∷ 0 ∷ [])
unfolding cleared filled
cleared_bytes_are = refl

-- -340 at the time 67,305,985 kept at line 1, which nothing else changes
pub kept_bytes_are : keep (cleared 2) 1 (negsuc 339) 67_305_985 ≡ lists (0x30 ∷ 0x75 ∷ 0 ∷ 0 ∷ 0xAC ∷ 0xFE ∷ 0xFF ∷ 0xFF ∷ []) (0 ∷ 0 ∷ 0 ∷ 0 ∷ 0x01 ∷ 0x02 ∷ 0x03 ∷ 0x04 ∷ [])
unfolding keep cleared filled with_number
kept_bytes_are = refl

pub kept-lines_are : map (last_at (keep (cleared 2) 1 (negsuc 339) 67_305_985)) (0 ∷ 1 ∷ []) ≡ never_heard ∷ heard (negsuc 339) 67_305_985 ∷ []
unfolding last_at last_of in_range keep cleared filled with_number number_at
kept-lines_are = refl

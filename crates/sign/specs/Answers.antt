-- The sign's answers in numbers, for C: the kind, a refusal's number and place, and the values of each case. Assumes nothing.
use Rattle.std.specs.Prelude.{ℕ, ℤ, pos, Some, None, Ok, Err}
use Rattle.directory.specs.Refusals.{number_of}
use Rattle.sign.specs.declared.Answer.TheVariants.{Never, Fresh, Stale}
use Rattle.sign.specs.Rules.{Reported, Asked}

-- kind, number, place and line: Unknown is 1 and a refusal 2, as in looking up; Accepted is 3
abbrev pub reported_numbers : Reported → ℕ × ℕ × ℕ × ℕ
reported_numbers (Ok (Some line)) = (3, 0, 0, line)
reported_numbers (Ok None) = (1, 0, 0, 0)
reported_numbers (Err why) = (2, number_of why.reason, why.place, 0)

-- kind, number, place, level and age: Never is 4, Fresh 5 and Stale 6; no kind is 0, so that cleared memory does not look alive
abbrev pub answer_numbers : Asked → ℕ × ℕ × ℕ × ℤ × ℕ
answer_numbers (Ok (Some Never)) = (4, 0, 0, pos 0, 0)
answer_numbers (Ok (Some (Fresh level))) = (5, 0, 0, level, 0)
answer_numbers (Ok (Some (Stale level age))) = (6, 0, 0, level, age)
answer_numbers (Ok None) = (1, 0, 0, pos 0, 0)
answer_numbers (Err why) = (2, number_of why.reason, why.place, pos 0, 0)

-- The paper's numbers: for each answer its number and values, for each refusal number its group and what its place means: document 01, "Numbers given back". Assumes nothing.
use Rattle.std.specs.Prelude.{cond, ℕ, leb, Option, Some, None, Result, Ok, Err}
use Rattle.directory.specs.declared.Refused.{Refused}
use Rattle.directory.specs.declared.RefusalGroup.{RefusalGroup}
use Rattle.directory.specs.declared.RefusalGroup.TheVariants as group
use Rattle.directory.specs.declared.PlaceMeaning.{PlaceMeaning}
use Rattle.directory.specs.declared.PlaceMeaning.TheVariants as meaning
use Rattle.directory.specs.Sizes.{Header}
use Rattle.directory.specs.Refusals.{number_of}

-- the answers: of building the most codes that waited at once; of opening n, r and v; of looking up the line, or None where the code is Unknown
abbrev pub Built : Type 0
Built = Result ℕ Refused

abbrev pub Opening : Type 0
Opening = Result Header Refused

abbrev pub Found : Type 0
Found = Result (Option ℕ) Refused

-- number, place and the most codes that waited at once: success is 0, and so is its place; the last is 0 on refusal
abbrev pub built_numbers : Built → ℕ × ℕ × ℕ
built_numbers (Ok most) = (0, 0, most)
built_numbers (Err why) = (number_of why.reason, why.place, 0)

-- number, place, n, r and v: the last three are 0 on refusal
abbrev pub opening_numbers : Opening → ℕ × ℕ × ℕ × ℕ × ℕ
opening_numbers (Ok h) = (0, 0, h.n, h.r, h.v)
opening_numbers (Err why) = (number_of why.reason, why.place, 0, 0, 0)

-- kind, number, place and line: Unknown is neither success nor refusal, so it has a kind of its own; 0 is At, 1 Unknown, 2 a refusal
abbrev pub found_numbers : Found → ℕ × ℕ × ℕ × ℕ
found_numbers (Ok (Some l)) = (0, 0, 0, l)
found_numbers (Ok None) = (1, 0, 0, 0)
found_numbers (Err why) = (2, number_of why.reason, why.place, 0)

-- 1 to 8 building, 9 to 15 opening, 16 looking up; of document 02's so far 17 to 19, 22 and 23, which the sign gives
unfoldable pub group_of : ℕ → RefusalGroup
group_of k =
    cond (leb k 0) group.NoRefusal
    (cond (leb k 8) group.Building
    (cond (leb k 15) group.Opening
    (cond (leb k 16) group.LookingUp
    (cond (leb k 19) group.Sign
    (cond (leb k 21) group.NoRefusal
    (cond (leb k 23) group.Sign group.NoRefusal))))))

-- the column "Place" of the table; the sign's have none
unfoldable pub meaning_of : ℕ → PlaceMeaning
meaning_of k =
    cond (leb k 4) meaning.Nothing
    (cond (leb k 5) meaning.Code
    (cond (leb k 6) meaning.LengthNeeded
    (cond (leb k 7) meaning.Code
    (cond (leb k 8) meaning.CodesLeft
    (cond (leb k 9) meaning.Nothing
    (cond (leb k 10) meaning.Offset
    (cond (leb k 11) meaning.Nothing
    (cond (leb k 12) meaning.Vertex
    (cond (leb k 13) meaning.RankEntry
    (cond (leb k 15) meaning.Line meaning.Nothing))))))))))

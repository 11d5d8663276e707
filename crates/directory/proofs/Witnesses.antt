-- Points of document 01 that its cases 1 to 10 do not pin: the order of the queue at r = 3, more than one block, and each refusal on damaged and strangers' files. Computed, as one theorem. Assumes nothing.
use Rattle.std.specs.Prelude.{◌≡◌, refl, true, ◌&&◌, List, [], ◌∷◌, ◌++◌, map, ℕ, length, get_or, take, set, replicate}
use Rattle.counting.specs.Below.{those}
use Rattle.counting.specs.Lists.{every}
use Rattle.directory.specs.declared.RefusalGroup.TheVariants as G
use Rattle.directory.specs.declared.PlaceMeaning.TheVariants as P
use Rattle.directory.specs.Kind.{HD}
use Rattle.directory.specs.File.{file}
use Rattle.directory.specs.Building.{Lent}
use Rattle.directory.specs.Answers.{group_of, meaning_of}
use Rattle.directory.proofs.Sayings.{builds, waits, names, peels, ranks, lines, unknown, lands}
use Rattle.directory.proofs.Cases.{Case, holds, plain_weights, BA, BB, BC, DA, DB}
use Rattle.directory.specs.Calls.{buffer_after_of}
use Rattle.directory.proofs.Trials.{Trial, answers, leaves, measures, reads, stops, opens, fails, finds, misses, rejects, shows, prints, is_so}

-- ---- codes that differ from one another in each part: p(j,j) = 1, other weights 0

diagonal : List ℕ
diagonal = 1 ∷ replicate 32 0 ++ 1 ∷ replicate 32 0 ++ 1 ∷ replicate 29 0

AAA : List ℕ
AAA = 0x41 ∷ 0x41 ∷ 0x41 ∷ []

BAA : List ℕ
BAA = 0x42 ∷ 0x41 ∷ 0x41 ∷ []

BAE : List ℕ
BAE = 0x42 ∷ 0x41 ∷ 0x45 ∷ []

BBB : List ℕ
BBB = 0x42 ∷ 0x42 ∷ 0x42 ∷ []

BDF : List ℕ
BDF = 0x42 ∷ 0x44 ∷ 0x46 ∷ []

CCD : List ℕ
CCD = 0x43 ∷ 0x43 ∷ 0x44 ∷ []

CFF : List ℕ
CFF = 0x43 ∷ 0x46 ∷ 0x46 ∷ []

FDE : List ℕ
FDE = 0x46 ∷ 0x44 ∷ 0x45 ∷ []

FEF : List ℕ
FEF = 0x46 ∷ 0x45 ∷ 0x46 ∷ []

-- vertices 10 and 105, and 90 and 106, where v = 100
early : List ℕ
early = 0x0A ∷ 0x05 ∷ []

late : List ℕ
late = 0x5A ∷ 0x06 ∷ []

-- vertices 63 and 105, and 64 and 106: the two sides of the edge of a block
before : List ℕ
before = 0x3F ∷ 0x05 ∷ []

behind : List ℕ
behind = 0x40 ∷ 0x06 ∷ []

-- ---- what is lent, by its run and ends and otherwise as in case 1, and with a buffer of `room` bytes

lent_in : ℕ → List ℕ → List ℕ → Lent
lent_in room run ends = record { run = run; ends = ends; r = 2; v = 4; weights = plain_weights; buffer = replicate room 0 }

lent_of : List ℕ → List ℕ → Lent
lent_of = lent_in 400

-- no codes, by the other numbers
lent_by : ℕ → ℕ → ℕ → Lent
lent_by r v weights = record { run = []; ends = []; r = r; v = v; weights = replicate weights 0; buffer = [] }

-- no codes, and numbers that need both of their bytes: v is 0x0102, the first weight 0xFF01
tall : Lent
tall = record { run = []; ends = []; r = 2; v = 0x0102; weights = 0xFF01 ∷ replicate 63 0; buffer = replicate 300 0 }

-- eleven codes of one byte, F5 to FF, at the lines 0 to 10: v = 16, p(0,0) = 1
eleven : List ℕ
eleven = 0xF5 ∷ 0xF6 ∷ 0xF7 ∷ 0xF8 ∷ 0xF9 ∷ 0xFA ∷ 0xFB ∷ 0xFC ∷ 0xFD ∷ 0xFE ∷ 0xFF ∷ []

eleven_lent : Lent
eleven_lent = record { run = eleven; ends = 1 ∷ 2 ∷ 3 ∷ 4 ∷ 5 ∷ 6 ∷ 7 ∷ 8 ∷ 9 ∷ 10 ∷ 11 ∷ []; r = 2; v = 16; weights = 1 ∷ replicate 63 0; buffer = replicate 536 0 }

-- a KY record of a two-byte code
key_of : ℕ → ℕ → List ℕ
key_of x y = 0x4B ∷ 0x59 ∷ 2 ∷ x ∷ y ∷ replicate 30 0

-- ---- a file with r = 2 and case 1's weights, by v, its values and its codes in line order

file_by : ℕ → List ℕ → List (List ℕ) → List ℕ
file_by v values codes = file HD (record { n = length codes; r = 2; v = v }) (λ i. get_or plain_weights i 0) (λ x. get_or values x 2) (λ l. get_or codes l [])

-- case 1's: WT stands at 7, GV at 137, RK at 141, KY at 145, 180, 215 and 250
one : List ℕ
one = file_by 4 (0 ∷ 2 ∷ 0 ∷ 2 ∷ 2 ∷ 2 ∷ 1 ∷ 1 ∷ []) (DA ∷ BA ∷ BB ∷ BC ∷ [])

-- m = 5·2: the last byte of the values has four spare bits
ten : List ℕ
ten = file_by 5 [] []

-- m = 200: RK stands at 189, its four entries from 191 on
wide : List ℕ
wide = file_by 100 (replicate 10 2 ++ 0 ∷ replicate 79 2 ++ 0 ∷ []) (early ∷ late ∷ [])

-- the order j = 0, 1, .. of the vertices, and a stranger that lands on an unassigned vertex past the last line; a code that two vertices of one step would let join, and that waits once; rank entries of several blocks
pub worked : List Case
worked =
    record { r = 3; v = 5; weights = diagonal; codes = CFF ∷ BAE ∷ CCD ∷ BDF ∷ FDE ∷ []; sayings = peels (CCD ∷ FDE ∷ CFF ∷ BDF ∷ BAE ∷ []) ∷ lines CFF 2 ∷ lines BAE 1 ∷ lines CCD 3 ∷ lines BDF 4 ∷ lines FDE 0 ∷ lands FEF 10 ∷ unknown FEF ∷ builds 386 ∷ waits 3 ∷ [] }
    ∷ record { r = 3; v = 2; weights = diagonal; codes = BAA ∷ AAA ∷ BBB ∷ []; sayings = names BAA (0 ∷ 3 ∷ 5 ∷ []) ∷ peels (AAA ∷ BBB ∷ BAA ∷ []) ∷ lines BAA 0 ∷ lines AAA 1 ∷ lines BBB 2 ∷ builds 314 ∷ waits 2 ∷ [] }
    ∷ record { r = 2; v = 100; weights = plain_weights; codes = early ∷ late ∷ []; sayings = ranks (0 ∷ 1 ∷ 2 ∷ 2 ∷ []) ∷ lines early 0 ∷ lines late 1 ∷ builds 269 ∷ [] }
    ∷ record { r = 2; v = 100; weights = plain_weights; codes = before ∷ behind ∷ []; sayings = ranks (0 ∷ 1 ∷ 2 ∷ 2 ∷ []) ∷ lines before 0 ∷ lines behind 1 ∷ builds 269 ∷ [] }
    ∷ []

pub trials : List Trial
trials =
    -- 1, 2 and 3, the first that applies
    answers (lent_by 1 0 0) 1 0 0
    ∷ answers (lent_by 4 1 0) 1 0 0
    ∷ answers (lent_by 2 0 0) 2 0 0
    ∷ answers (lent_by 2 2049 0) 2 0 0
    ∷ answers (lent_by 3 1366 0) 2 0 0
    ∷ answers (lent_by 3 1 64) 3 0 0
    ∷ answers (lent_by 2 1 96) 3 0 0
    ∷ answers (lent_of [] (replicate 1025 0)) 4 0 0
    -- 5: an end falls, an end passes the run, a code is empty, a code has 33 bytes; the last end misses the run's length
    ∷ answers (lent_of (replicate 4 65) (2 ∷ 1 ∷ 4 ∷ [])) 5 1 0
    ∷ answers (lent_of (replicate 4 65) (2 ∷ 3 ∷ 5 ∷ [])) 5 2 0
    ∷ answers (lent_of (replicate 4 65) (0 ∷ 4 ∷ [])) 5 0 0
    ∷ answers (lent_of (replicate 4 65) (2 ∷ 2 ∷ 4 ∷ [])) 5 1 0
    ∷ answers (lent_of (replicate 33 65) (33 ∷ [])) 5 0 0
    ∷ answers (lent_of (replicate 32 65) (32 ∷ [])) 0 0 1
    ∷ answers (lent_of (replicate 5 65) (2 ∷ 4 ∷ [])) 5 2 0
    ∷ answers (lent_of (65 ∷ []) []) 5 0 0
    -- 6 before 7, and 7 before 8
    ∷ answers (lent_in 284 (BA ++ BB ++ BA ++ BA) (2 ∷ 4 ∷ 6 ∷ 8 ∷ [])) 6 285 0
    ∷ answers (lent_in 285 (BA ++ BB ++ BB ++ BA) (2 ∷ 4 ∷ 6 ∷ 8 ∷ [])) 7 2 0
    -- the length of a file; 0 where the sizes do not allow the numbers
    ∷ measures 4 2 4 285
    ∷ measures 1024 3 1365 37197
    -- m = 129: a byte and a rank entry for the last vertex alone
    ∷ measures 0 3 43 244
    ∷ measures 1025 3 1365 0
    ∷ measures 0 4 1 0
    ∷ measures 0 2 0 0
    -- every byte of case 1's file: HD, WT, GV, RK and the four KY, and the buffer's byte after it
    ∷ leaves (lent_in 286 (BA ++ BB ++ DA ++ BC) (2 ∷ 4 ∷ 6 ∷ 8 ∷ [])) (0x48 ∷ 0x44 ∷ 4 ∷ 0 ∷ 2 ∷ 4 ∷ 0 ∷ 0x57 ∷ 0x54 ∷ 1 ∷ 0 ∷ replicate 64 0 ++ 1 ∷ 0 ∷ replicate 60 0 ++ 0x47 ∷ 0x56 ∷ 0x88 ∷ 0x5A ∷ 0x52 ∷ 0x4B ∷ 0 ∷ 0 ∷ key_of 0x44 0x41 ++ key_of 0x42 0x41 ++ key_of 0x42 0x42 ++ key_of 0x42 0x43 ++ 0 ∷ [])
    -- the low byte first: v and a weight; m = 516 has 129 bytes of values and 9 rank entries
    ∷ leaves tall (0x48 ∷ 0x44 ∷ 0 ∷ 0 ∷ 2 ∷ 0x02 ∷ 0x01 ∷ 0x57 ∷ 0x54 ∷ 0x01 ∷ 0xFF ∷ replicate 126 0 ++ 0x47 ∷ 0x56 ∷ replicate 129 0xAA ++ 0x52 ∷ 0x4B ∷ replicate 18 0 ++ replicate 12 0)
    -- the header alone: 9, 10, 11, 9, and nothing after them
    ∷ reads one 4 2 4
    ∷ reads (set (set one 8 0) 139 0xFF) 4 2 4
    ∷ stops (take 6 one) 9 0
    ∷ stops (replicate 7 0) 10 0
    ∷ stops (set one 4 4) 11 0
    ∷ stops (one ++ 0 ∷ []) 9 0
    -- opening: 9, 10, 11, 9
    ∷ opens (take 288 (buffer_after_of tall)) 0 2 258
    ∷ opens one 4 2 4
    ∷ fails [] 9 0
    ∷ fails (take 6 one) 9 0
    ∷ fails (replicate 6 0) 9 0
    ∷ fails (replicate 7 0) 10 0
    ∷ fails (set one 1 0x45) 10 0
    ∷ fails (set one 3 4) 11 0
    ∷ fails (set one 4 4) 11 0
    ∷ fails (set one 5 0) 11 0
    ∷ fails (set one 6 16) 11 0
    ∷ fails (one ++ 0 ∷ []) 9 0
    ∷ fails (set one 2 3) 9 0
    -- 10: the offset of the first wrong mark, whichever of its letters is wrong
    ∷ fails (set one 8 0) 10 7
    ∷ fails (set one 137 0) 10 137
    ∷ fails (set one 142 0) 10 141
    ∷ fails (set (set one 181 0) 250 0) 10 180
    ∷ fails (set (set one 139 0xFF) 250 0) 10 250
    -- 12: a value over r, or spare bits
    ∷ fails (set one 140 0xDA) 12 7
    ∷ opens ten 0 2 5
    ∷ fails (set ten 141 0x1A) 12 10
    ∷ fails (set ten 141 0x1B) 12 8
    -- 13: a rank entry, or the total
    ∷ opens wide 2 2 100
    ∷ fails (set wide 191 1) 13 0
    ∷ fails (set wide 198 1) 13 3
    ∷ fails (set one 139 0x80) 13 1
    -- 14 for any line before 15 for any: a length, or the filling
    ∷ fails (set one 147 0) 14 0
    ∷ fails (set one 182 33) 14 1
    ∷ fails (set (set one 148 66) 284 1) 14 3
    -- 15: a code that leads elsewhere, or to a vertex that is not assigned
    ∷ fails (set one 148 66) 15 0
    ∷ fails (file_by 4 (2 ∷ 2 ∷ 2 ∷ 0 ∷ 2 ∷ 2 ∷ 2 ∷ 2 ∷ []) (BA ∷ [])) 15 0
    -- a cyclic graph that admits a table: the file opens
    ∷ opens (file_by 4 (0 ∷ 2 ∷ 1 ∷ 2 ∷ 2 ∷ 0 ∷ 1 ∷ 2 ∷ []) (DA ∷ BB ∷ BA ∷ DB ∷ [])) 4 2 4
    -- looking up: 9, 10, 11, 9 and then 16
    ∷ rejects (take 6 one) [] 9 0
    ∷ rejects (set one 0 0) [] 10 0
    ∷ rejects (set one 4 4) [] 11 0
    ∷ rejects (one ++ 0 ∷ []) [] 9 0
    ∷ rejects one [] 16 0
    ∷ rejects one (replicate 33 65) 16 0
    ∷ misses one (replicate 32 65)
    -- other marks and the filling are not looked at
    ∷ finds (set (set one 180 0) 284 1) BA 1
    -- a stored length that runs past the file is not the code's: the last record's 32 bytes are asked for
    ∷ misses (set one 252 200) (BC ++ replicate 30 0)
    -- 13: the rank entry leads past the last line, by much or in a later block; a stored 3 counts as assigned at r = 2; no codes but a value
    ∷ rejects (set (set one 143 0xFF) 144 0xFF) BC 13 0
    ∷ rejects (set wide 193 9) late 13 1
    ∷ rejects (set one 139 0x8C) BC 13 0
    ∷ rejects (file_by 4 (2 ∷ 2 ∷ 0 ∷ []) []) BA 13 0
    -- the lister: refused 9 0, refused 10 250, and eleven lines, the last of them 10 ff
    ∷ prints [] (0x72 ∷ 0x65 ∷ 0x66 ∷ 0x75 ∷ 0x73 ∷ 0x65 ∷ 0x64 ∷ 0x20 ∷ 0x39 ∷ 0x20 ∷ 0x30 ∷ 0x0A ∷ [])
    ∷ prints (set one 250 0) (0x72 ∷ 0x65 ∷ 0x66 ∷ 0x75 ∷ 0x73 ∷ 0x65 ∷ 0x64 ∷ 0x20 ∷ 0x31 ∷ 0x30 ∷ 0x20 ∷ 0x32 ∷ 0x35 ∷ 0x30 ∷ 0x0A ∷ [])
    ∷ prints (buffer_after_of eleven_lent) (0x30 ∷ 0x20 ∷ 0x66 ∷ 0x35 ∷ 0x0A ∷ 0x31 ∷ 0x20 ∷ 0x66 ∷ 0x36 ∷ 0x0A ∷ 0x32 ∷ 0x20 ∷ 0x66 ∷ 0x37 ∷ 0x0A ∷ 0x33 ∷ 0x20 ∷ 0x66 ∷ 0x38 ∷ 0x0A ∷ 0x34 ∷ 0x20 ∷ 0x66 ∷ 0x39 ∷ 0x0A ∷ 0x35 ∷ 0x20 ∷ 0x66 ∷ 0x61 ∷ 0x0A ∷ 0x36 ∷ 0x20 ∷ 0x66 ∷ 0x62 ∷ 0x0A ∷ 0x37 ∷ 0x20 ∷ 0x66 ∷ 0x63 ∷ 0x0A ∷ 0x38 ∷ 0x20 ∷ 0x66 ∷ 0x64 ∷ 0x0A ∷ 0x39 ∷ 0x20 ∷ 0x66 ∷ 0x65 ∷ 0x0A ∷ 0x31 ∷ 0x30 ∷ 0x20 ∷ 0x66 ∷ 0x66 ∷ 0x0A ∷ [])
    -- showing: the mark and the filling are not looked at
    ∷ shows one 2 218 2
    ∷ shows (set one 215 0) 2 218 2
    ∷ shows one 4 0 0
    ∷ shows (set one 217 0) 2 0 0
    ∷ shows (set one 217 33) 2 0 0
    ∷ shows (set one 217 32) 2 218 32
    ∷ shows (take 284 one) 2 0 0
    ∷ shows (set one 1 0x45) 2 0 0
    ∷ shows (set one 4 1) 2 0 0
    ∷ []

pub witnesses_hold : every holds worked && every is_so trials ≡ true
unfolding diagonal AAA BAA BAE BBB BDF CCD CFF FDE FEF early late before behind lent_in lent_of lent_by tall eleven eleven_lent key_of file_by one ten wide worked trials plain_weights BA BB BC DA DB holds is_so
witnesses_hold = refl

-- ---- the numbers 0 to 24: their groups, and what their places mean

abbrev numbers : List ℕ
numbers = those 25 (λ k. true)

pub groups_are : map group_of numbers ≡ G.NoRefusal ∷ replicate 8 G.Building ++ replicate 7 G.Opening ++ G.LookingUp ∷ replicate 3 G.Sign ++ replicate 2 G.NoRefusal ++ replicate 2 G.Sign ++ G.NoRefusal ∷ []
unfolding those group_of
groups_are = refl

pub meanings_are : map meaning_of numbers ≡ replicate 5 P.Nothing ++ P.Code ∷ P.LengthNeeded ∷ P.Code ∷ P.CodesLeft ∷ P.Nothing ∷ P.Offset ∷ P.Nothing ∷ P.Vertex ∷ P.RankEntry ∷ P.Line ∷ P.Line ∷ replicate 9 P.Nothing
unfolding those meaning_of
meanings_are = refl

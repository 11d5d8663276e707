-- The cases 1 to 10 of document 01, "Both sides of each edge": one list, and one theorem about the definitions, computed. Assumes nothing.
use Rattle.std.specs.Prelude.{◌≡◌, refl, Bool, true, List, [], ◌∷◌, ◌++◌, ℕ, ◌+◌, length, replicate}
use Rattle.counting.specs.Lists.{every}
use Rattle.directory.specs.Building.{Lent}
use Rattle.directory.proofs.Sayings.{Saying, refuses, builds, waits, names, peels, holds_values, packs, ranks, lines, unknown, lands, meets, passes, shows, prints, written, is_true}
use Rattle.directory.specs.Computing.{computing}

pub record Case : Type 0 where
  pub r : ℕ
  pub v : ℕ
  pub weights : List ℕ
  pub codes : List (List ℕ)
  pub sayings : List Saying

-- ---- a code list as it is lent, with a buffer of 400 bytes AA

run_of : List (List ℕ) → List ℕ
run_of [] = []
run_of (t ∷ codes) = t ++ run_of codes

ends_from : ℕ → List (List ℕ) → List ℕ
ends_from start [] = []
ends_from start (t ∷ codes) = let end = start + length t in end ∷ ends_from end codes

lent : Case → Lent
lent c = record { run = run_of c.codes; ends = ends_from 0 c.codes; r = c.r; v = c.v; weights = c.weights; buffer = replicate 400 0xAA }

unfoldable pub holds : Case → Bool
unfolding run_of ends_from lent written is_true computing
holds c = let I = lent c in every (is_true I (written I)) c.sayings

-- ---- the codes, in ASCII

AA : List ℕ
AA = 0x41 ∷ 0x41 ∷ []

unfoldable pub BA : List ℕ
BA = 0x42 ∷ 0x41 ∷ []

unfoldable pub BB : List ℕ
BB = 0x42 ∷ 0x42 ∷ []

unfoldable pub BC : List ℕ
BC = 0x42 ∷ 0x43 ∷ []

CA : List ℕ
CA = 0x43 ∷ 0x41 ∷ []

unfoldable pub DA : List ℕ
DA = 0x44 ∷ 0x41 ∷ []

unfoldable pub DB : List ℕ
DB = 0x44 ∷ 0x42 ∷ []

FA : List ℕ
FA = 0x46 ∷ 0x41 ∷ []

-- ---- the cases

-- p(0,0) = 1, p(1,1) = 1, other weights 0
unfoldable pub plain_weights : List ℕ
plain_weights = 1 ∷ replicate 32 0 ++ 1 ∷ replicate 30 0

-- unless said otherwise r = 2, v = 4 and these weights
usual : List (List ℕ) → List Saying → Case
usual codes sayings = record { r = 2; v = 4; weights = plain_weights; codes = codes; sayings = sayings }

-- r = 3, v = 1, all weights 0
three : List (List ℕ) → List Saying → Case
three codes sayings = record { r = 3; v = 1; weights = replicate 96 0; codes = codes; sayings = sayings }

-- the list of case 1
four : List (List ℕ)
four = BA ∷ BB ∷ DA ∷ BC ∷ []

pub cases : List Case
cases =
    -- 1
    usual four
    (names BA (2 ∷ 5 ∷ [])
    ∷ names BB (2 ∷ 6 ∷ [])
    ∷ names DA (0 ∷ 5 ∷ [])
    ∷ names BC (2 ∷ 7 ∷ [])
    ∷ peels (BB ∷ DA ∷ BC ∷ BA ∷ [])
    ∷ holds_values (0 ∷ 2 ∷ 0 ∷ 2 ∷ 2 ∷ 2 ∷ 1 ∷ 1 ∷ [])
    ∷ packs (0x88 ∷ 0x5A ∷ [])
    ∷ ranks (0 ∷ [])
    ∷ lines DA 0
    ∷ lines BA 1
    ∷ lines BB 2
    ∷ lines BC 3
    ∷ builds 285
    ∷ waits 3
    -- 0 4441, 1 4241, 2 4242, 3 4243
    ∷ prints ((0x30 ∷ 0x20 ∷ 0x34 ∷ 0x34 ∷ 0x34 ∷ 0x31 ∷ 0x0A ∷ []) ∷ (0x31 ∷ 0x20 ∷ 0x34 ∷ 0x32 ∷ 0x34 ∷ 0x31 ∷ 0x0A ∷ []) ∷ (0x32 ∷ 0x20 ∷ 0x34 ∷ 0x32 ∷ 0x34 ∷ 0x32 ∷ 0x0A ∷ []) ∷ (0x33 ∷ 0x20 ∷ 0x34 ∷ 0x32 ∷ 0x34 ∷ 0x33 ∷ 0x0A ∷ []) ∷ [])
    ∷ [])
    -- 2
    ∷ usual four (meets AA (2 ∷ 2 ∷ []) ∷ lands AA 1 ∷ unknown AA ∷ [])
    -- 3
    ∷ usual four (lands DB 6 ∷ passes DB 2 ∷ shows 2 BB ∷ unknown DB ∷ [])
    -- 4
    ∷ usual (BA ∷ []) (lines BA 0 ∷ lands CA 3 ∷ meets CA (2 ∷ 2 ∷ []) ∷ passes CA 1 ∷ unknown CA ∷ builds 180 ∷ [])
    -- 5
    ∷ usual (BA ∷ BB ∷ DA ∷ DB ∷ []) (refuses 8 4 ∷ [])
    -- 6
    ∷ usual (BA ∷ BB ∷ DA ∷ DB ∷ BC ∷ []) (refuses 8 4 ∷ [])
    -- 7
    ∷ usual (BA ∷ FA ∷ []) (names BA (2 ∷ 5 ∷ []) ∷ names FA (2 ∷ 5 ∷ []) ∷ refuses 8 2 ∷ [])
    -- 8
    ∷ usual (BA ∷ BB ∷ BA ∷ []) (refuses 7 2 ∷ [])
    -- 9
    ∷ usual [] (lands AA 1 ∷ unknown AA ∷ builds 145 ∷ waits 0 ∷ prints [] ∷ [])
    -- 10
    ∷ three (BA ∷ []) (holds_values (0 ∷ 3 ∷ 3 ∷ []) ∷ packs (0x3C ∷ []) ∷ lines BA 0 ∷ builds 243 ∷ [])
    ∷ three (BA ∷ BB ∷ []) (refuses 8 2 ∷ [])
    ∷ []

pub cases_hold : every holds cases ≡ true
unfolding holds AA BA BB BC CA DA DB FA plain_weights usual three four cases
cases_hold = refl

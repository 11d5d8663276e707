-- The numbers that each call refuses with, within its group; so number 0 is success alone; and each answer's numbers are the paper's. Assumes nothing.
use Rattle.std.specs.Prelude.{Result, Ok, Err, ◌≡◌, ◌↔◌, Bool, true, ◌&&◌, List, [], ◌∷◌, ℕ, ◌-◌, ◌≤◌, leb, map, get_or}
use Rattle.std.proofs.Math.Path.{refl}
use Rattle.std.proofs.Common.{ap, sym, ◌∙◌, arith, leb-true}
use Rattle.counting.proofs.TestLaws.{and_left, and_right}
use Rattle.counting.specs.Lists.{every}
use Rattle.directory.specs.Sizes.{headed, Header}
use Rattle.directory.specs.Kind.{Kind}
use Rattle.directory.specs.Refusals.{number_of, refused, Refusal, Given}
use Rattle.directory.proofs.RefusalLaws.{first-after}
use Rattle.directory.proofs.RowLaws.{given_passes}
use Rattle.directory.specs.Values.{table_refusals}
use Rattle.directory.specs.Building.{Lent, lent_refusals, graph_refusals, build_refusals, build}
use Rattle.directory.specs.Opening.{header_refusals, wrong_mark, mark_refusals, key_refusals, record_refusals, open_refusals, header, opening}
use Rattle.directory.specs.LookingUp.{lookup_refusals, lookup}
use Rattle.directory.specs.Answers.{Built, Opening, built_numbers, opening_numbers, found_numbers}
use Rattle.directory.specs.Calls.{build_of, header_of, open_of, lookup_of, build_numbers_of, open_numbers_by, header_numbers_of, open_numbers_of, lookup_numbers_of}
use Rattle.directory.specs.declared.Reason.{Reason}
use Rattle.directory.specs.declared.Refused.{Refused}
use Rattle.directory.specs.declared.Reason.TheVariants.{WrongArity, WrongPartSize, WrongWeights, TooManyCodes, WrongList, ShortBuffer, RepeatedCode, Cyclic, WrongSize, WrongMark, WrongHeader, WrongValue, WrongRank, WrongKey, StrayCode, WrongCode, WrongLevel, EarlierTime, EarlierNow, WrongLimit, WrongLists}

-- the number of a row's reason is from low to high
unfoldable numbered : ℕ → ℕ → Refusal → Bool
numbered low high row = leb low (number_of row.reason) && leb (number_of row.reason) high

-- where that holds of every row, it holds of the number that the table gives
given_numbered : (low high : ℕ) {table : List Refusal} {k : Reason} {p : ℕ} → every (numbered low high) table ≡ true → Given table k p → (low ≤ number_of k) × (number_of k ≤ high)
unfolding numbered
given_numbered low high all g =
    let t = given_passes (numbered low high) all g in
    rw (← g.its_reason) (leb-true low _ (and_left (leb low (number_of g.row.reason)) _ t), leb-true _ high (and_right (leb low (number_of g.row.reason)) _ t))

pub build-numbers : (K : Kind) (I : Lent) {k : Reason} {p : ℕ} → Given (build_refusals K I) k p → (1 ≤ number_of k) × (number_of k ≤ 8)
unfolding every numbered build_refusals lent_refusals graph_refusals
build-numbers K I = given_numbered 1 8 refl

module _ (K : Kind) (h : Header) (f : List ℕ) {k : Reason} {p : ℕ} where
  pub header-numbers : Given (header_refusals K h f) k p → (9 ≤ number_of k) × (number_of k ≤ 11)
  unfolding every numbered header_refusals
  header-numbers = given_numbered 9 11 refl

  pub open_numbers : Given (open_refusals K h f) k p → (9 ≤ number_of k) × (number_of k ≤ 15)
  unfolding every numbered open_refusals record_refusals header_refusals mark_refusals wrong_mark table_refusals key_refusals
  open_numbers = given_numbered 9 15 refl

  pub lookup-numbers : (t : List ℕ) → Given (lookup_refusals K h f t) k p → (9 ≤ number_of k) × (number_of k ≤ 16)
  unfolding every numbered lookup_refusals header_refusals
  lookup-numbers t = given_numbered 9 16 refl

-- ---- the numbers of documents 01 and 02, and each is that of one reason

pub numbers_are : map number_of (WrongArity ∷ WrongPartSize ∷ WrongWeights ∷ TooManyCodes ∷ WrongList ∷ ShortBuffer ∷ RepeatedCode ∷ Cyclic ∷ WrongSize ∷ WrongMark ∷ WrongHeader ∷ WrongValue ∷ WrongRank ∷ WrongKey ∷ StrayCode ∷ WrongCode ∷ WrongLevel ∷ EarlierTime ∷ EarlierNow ∷ WrongLimit ∷ WrongLists ∷ []) ≡ 1 ∷ 2 ∷ 3 ∷ 4 ∷ 5 ∷ 6 ∷ 7 ∷ 8 ∷ 9 ∷ 10 ∷ 11 ∷ 12 ∷ 13 ∷ 14 ∷ 15 ∷ 16 ∷ 17 ∷ 18 ∷ 19 ∷ 22 ∷ 23 ∷ []
numbers_are = refl

-- the reasons in the places of their numbers, from 1 on; in those of 20 and 21, which no reason has, another one stands
abbrev placed : List Reason
placed = WrongArity ∷ WrongPartSize ∷ WrongWeights ∷ TooManyCodes ∷ WrongList ∷ ShortBuffer ∷ RepeatedCode ∷ Cyclic ∷ WrongSize ∷ WrongMark ∷ WrongHeader ∷ WrongValue ∷ WrongRank ∷ WrongKey ∷ StrayCode ∷ WrongCode ∷ WrongLevel ∷ EarlierTime ∷ EarlierNow ∷ EarlierNow ∷ EarlierNow ∷ WrongLimit ∷ WrongLists ∷ []

at_its_number : (k : Reason) → get_or placed (number_of k - 1) WrongArity ≡ k
at_its_number k = elim k as (λ k. get_or placed (number_of k - 1) WrongArity ≡ k) [ WrongArity ↦ refl | WrongPartSize ↦ refl | WrongWeights ↦ refl | TooManyCodes ↦ refl | WrongList ↦ refl | ShortBuffer ↦ refl | RepeatedCode ↦ refl | Cyclic ↦ refl | WrongSize ↦ refl | WrongMark ↦ refl | WrongHeader ↦ refl | WrongValue ↦ refl | WrongRank ↦ refl | WrongKey ↦ refl | StrayCode ↦ refl | WrongCode ↦ refl | WrongLevel ↦ refl | EarlierTime ↦ refl | EarlierNow ↦ refl | WrongLimit ↦ refl | WrongLists ↦ refl ]

pub number_own : (i k : Reason) → number_of i ≡ number_of k → i ≡ k
number_own i k e = sym (at_its_number i) ∙ ap (λ number. get_or placed (number - 1) WrongArity) e ∙ at_its_number k

-- so what is refused for some reason with a number is refused for the one that has it
pub refused_by_number : {A : Type 0} {o : Result A Refused} (k : Reason) (p : ℕ) → (i : Reason) × (number_of i ≡ number_of k) × (o ≡ refused i p) → o ≡ refused k p
refused_by_number k p w = w.2 ∙ ap (λ i. refused i p) (number_own w.0 k w.1)

-- ---- no reason has the number 0, so an answer is told by its numbers

pub number_some : (k : Reason) → 1 ≤ number_of k
number_some k = elim k as (λ k. 1 ≤ number_of k) [ WrongArity ↦ omega arith | WrongPartSize ↦ omega arith | WrongWeights ↦ omega arith | TooManyCodes ↦ omega arith | WrongList ↦ omega arith | ShortBuffer ↦ omega arith | RepeatedCode ↦ omega arith | Cyclic ↦ omega arith | WrongSize ↦ omega arith | WrongMark ↦ omega arith | WrongHeader ↦ omega arith | WrongValue ↦ omega arith | WrongRank ↦ omega arith | WrongKey ↦ omega arith | StrayCode ↦ omega arith | WrongCode ↦ omega arith | WrongLevel ↦ omega arith | EarlierTime ↦ omega arith | EarlierNow ↦ omega arith | WrongLimit ↦ omega arith | WrongLists ↦ omega arith ]

module _ (o : Built) where
  pub numbers_of_done : (most : ℕ) → (built_numbers o ≡ (0, 0, most)) ↔ (o ≡ Ok most)
  numbers_of_done most = (there o, λ e. ap built_numbers e)
    where
      there : (a : Built) → built_numbers a ≡ (0, 0, most) → a ≡ Ok most
      there (Ok m) e = ap (λ x. Ok x.2) e
      there (Err why) e = absurd (let z : number_of why.reason ≡ 0 = ap (λ x. x.0) e in omega (arith, number_some why.reason))

  pub numbers_of_refused : (number p : ℕ) → 1 ≤ number → (built_numbers o ≡ (number, p, 0)) ↔ ((k : Reason) × (number_of k ≡ number) × (o ≡ refused k p))
  numbers_of_refused number p m = (there o, λ w. ap built_numbers w.2 ∙ ap (λ x. (x, p, 0)) w.1)
    where
      there : (a : Built) → built_numbers a ≡ (number, p, 0) → (k : Reason) × (number_of k ≡ number) × (a ≡ refused k p)
      there (Ok most) e = absurd (let z : 0 ≡ number = ap (λ x. x.0) e in omega arith)
      there (Err why) e = (why.reason, ap (λ x. x.0) e, ap (λ q. refused why.reason q) (ap (λ x. x.1) e))

module _ (o : Opening) where
  pub numbers_of_success : (n r v : ℕ) → (opening_numbers o ≡ (0, 0, n, r, v)) ↔ (o ≡ Ok (headed n r v))
  numbers_of_success n r v = (there o, λ e. ap opening_numbers e)
    where
      there : (a : Opening) → opening_numbers a ≡ (0, 0, n, r, v) → a ≡ Ok (headed n r v)
      there (Ok h) e = ap (λ x. Ok (headed x.2 x.3 x.4)) e
      there (Err why) e = absurd (let z : number_of why.reason ≡ 0 = ap (λ x. x.0) e in omega (arith, number_some why.reason))

  pub numbers_of-refusal : (number p : ℕ) → 1 ≤ number → (opening_numbers o ≡ (number, p, 0, 0, 0)) ↔ ((k : Reason) × (number_of k ≡ number) × (o ≡ refused k p))
  numbers_of-refusal number p m = (there o, λ w. ap opening_numbers w.2 ∙ ap (λ x. (x, p, 0, 0, 0)) w.1)
    where
      there : (a : Opening) → opening_numbers a ≡ (number, p, 0, 0, 0) → (k : Reason) × (number_of k ≡ number) × (a ≡ refused k p)
      there (Ok h) e = absurd (let z : 0 ≡ number = ap (λ x. x.0) e in omega arith)
      there (Err why) e = (why.reason, ap (λ x. x.0) e, ap (λ q. refused why.reason q) (ap (λ x. x.1) e))

-- ---- the numbers of an answer are the paper's

pub build_paper : (I : Lent) → built_numbers (build_of I) ≡ build_numbers_of I
unfolding build_of build build_numbers_of
build_paper I = first-after built_numbers _ refused _

pub header_paper : (f : List ℕ) → opening_numbers (header_of f) ≡ header_numbers_of f
unfolding header_of header header_numbers_of open_numbers_by
header_paper f = first-after opening_numbers _ refused _

pub open_paper : (f : List ℕ) → opening_numbers (open_of f) ≡ open_numbers_of f
unfolding open_of opening open_numbers_of open_numbers_by
open_paper f = first-after opening_numbers _ refused _

pub lookup_paper : (f t : List ℕ) → found_numbers (lookup_of f t) ≡ lookup_numbers_of f t
unfolding lookup_of lookup lookup_numbers_of
lookup_paper f t = first-after found_numbers _ refused _

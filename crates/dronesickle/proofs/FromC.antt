-- What a caller in C knows: the fields tell the answer, and each call decides what it gives back. Assumes nothing.
use Rattle.std.specs.Prelude.{◌≡◌, refl, ◌↔◌, List, ℕ, ◌≤◌, Result, Ok, Err, Some, None}
use Rattle.std.proofs.Common.{sym, ◌∙◌, arith}
use Rattle.directory.specs.declared.Reason.{Reason}
use Rattle.directory.specs.declared.Refused.{Refused}
use Rattle.directory.specs.Sizes.{headed}
use Rattle.directory.specs.Refusals.{number_of, refused}
use Rattle.directory.specs.Building.{Lent}
use Rattle.directory.specs.Answers.{Built, Opening, Found, built_numbers, opening_numbers, found_numbers}
use Rattle.directory.specs.Calls.{build_of, build_numbers_of, buffer_after_of, open_of, open_numbers_of, lookup_of, lookup_numbers_of, show_part_of}
use Rattle.directory.proofs.Demands.{the_numbers_of_building}
use Rattle.directory.proofs.NumberLaws.{number_some}
use Rattle.directory.proofs.EveryFile.{the_numbers_of_opening, the_numbers_of_looking_up}
use Rattle.sign.specs.declared.Answer.TheVariants.{Never, Fresh, Stale}
use Rattle.sign.specs.Rules.{Report, Question, Reported, Asked}
use Rattle.sign.specs.Keeping.{Lists}
use Rattle.sign.specs.Calls.{report_of, after_report, ask_of}
use Rattle.sign.specs.Answers.{reported_numbers, answer_numbers}
use Rattle.dronesickle.specs.declared.answers.DsAnswer.{DsAnswer}
use Rattle.dronesickle.specs.declared.answers.DsCounted.{DsCounted}
use Rattle.dronesickle.specs.declared.answers.DsOpened.{DsOpened}
use Rattle.dronesickle.specs.declared.answers.DsFound.{DsFound}
use Rattle.dronesickle.specs.declared.answers.DsPart.{DsPart}
use Rattle.dronesickle.specs.declared.answers.DsReported.{DsReported}
use Rattle.dronesickle.specs.declared.answers.DsAsked.{DsAsked}
use Rattle.dronesickle.specs.Numbers.{answer, counted, opened, found, part, reported, asked}

-- ---- the fields tell the answer

tells_built : (b : Built) → let c = counted (built_numbers b) in (c.number ≡ 0) ↔ (b ≡ Ok c.most_waiting)
tells_built (Ok most) = (λ e. refl, λ e. refl)
tells_built (Err why) = (λ e. absurd (omega (arith, number_some why.reason)), λ e. cc)

-- the number of a build is 0 exactly if it succeeded, with the most codes that waited at once beside it
pub number_is_0_exactly_if_it_is_built : (I : Lent) → let c = counted (build_numbers_of I) in (c.number ≡ 0) ↔ (build_of I ≡ Ok c.most_waiting)
number_is_0_exactly_if_it_is_built I = rw (← the_numbers_of_building I) (tells_built (build_of I))

-- the two calls that build give the same number and place
pub both_builds_answer_alike : (I : Lent) → ((answer (build_numbers_of I)).number ≡ (counted (build_numbers_of I)).number) × ((answer (build_numbers_of I)).place ≡ (counted (build_numbers_of I)).place)
both_builds_answer_alike I = (refl, refl)

tells-opened : (o : Opening) → let c = opened (opening_numbers o) in (c.number ≡ 0) ↔ (o ≡ Ok (headed c.n c.r c.v))
tells-opened (Ok h) = (λ e. refl, λ e. refl)
tells-opened (Err why) = (λ e. absurd (omega (arith, number_some why.reason)), λ e. cc)

-- the number of an opening is 0 exactly if the file opens, with the n, r and v beside it
pub number_is_0_exactly_if_it_opens : (f : List ℕ) → let c = opened (open_numbers_of f) in (c.number ≡ 0) ↔ (open_of f ≡ Ok (headed c.n c.r c.v))
number_is_0_exactly_if_it_opens f = rw (← the_numbers_of_opening f) (tells-opened (open_of f))

tells_at : (o : Found) → let c = found (found_numbers o) in (c.kind ≡ 0) ↔ (o ≡ Ok (Some c.line))
tells_at (Ok (Some l)) = (λ e. refl, λ e. refl)
tells_at (Ok None) = (λ e. absurd (omega arith), λ e. cc)
tells_at (Err why) = (λ e. absurd (omega arith), λ e. cc)

tells_unknown : (o : Found) → ((found (found_numbers o)).kind ≡ 1) ↔ (o ≡ Ok None)
tells_unknown (Ok (Some l)) = (λ e. absurd (omega arith), λ e. cc)
tells_unknown (Ok None) = (λ e. refl, λ e. refl)
tells_unknown (Err why) = (λ e. absurd (omega arith), λ e. cc)

-- the kind of a lookup is 0 exactly if the code has a line, the one beside it, and 1 exactly if it is unknown
pub kind_is_0_exactly_at_a_line : (f t : List ℕ) → let c = found (lookup_numbers_of f t) in (c.kind ≡ 0) ↔ (lookup_of f t ≡ Ok (Some c.line))
kind_is_0_exactly_at_a_line f t = rw (← the_numbers_of_looking_up f t) (tells_at (lookup_of f t))

pub kind_is_1_exactly_if_unknown : (f t : List ℕ) → ((found (lookup_numbers_of f t)).kind ≡ 1) ↔ (lookup_of f t ≡ Ok None)
kind_is_1_exactly_if_unknown f t = rw (← the_numbers_of_looking_up f t) (tells_unknown (lookup_of f t))

-- ---- the sign

-- a refusal with this number and place
abbrev RefusedWith : {A : Type 0} → ℕ → ℕ → Result A Refused → Type 0
RefusedWith number place o = (k : Reason) × (number_of k ≡ number) × (o ≡ refused k place)

-- of a report: 3 exactly if it was accepted, at the line beside it; 1 exactly if its code is unknown; 2 exactly if it was refused, with the number and place beside it
pub kind_tells_the_report : (o : Reported) → let c = reported (reported_numbers o) in ((c.kind ≡ 3) ↔ (o ≡ Ok (Some c.line))) × ((c.kind ≡ 1) ↔ (o ≡ Ok None)) × ((c.kind ≡ 2) ↔ RefusedWith c.number c.place o)
kind_tells_the_report (Ok (Some line)) = ((λ e. refl, λ e. refl), (λ e. absurd (omega arith), λ e. cc), (λ e. absurd (omega arith), λ w. let e = w.2 in cc))
kind_tells_the_report (Ok None) = ((λ e. absurd (omega arith), λ e. cc), (λ e. refl, λ e. refl), (λ e. absurd (omega arith), λ w. let e = w.2 in cc))
kind_tells_the_report (Err why) = ((λ e. absurd (omega arith), λ e. cc), (λ e. absurd (omega arith), λ e. cc), (λ e. (why.reason, refl, refl), λ w. refl))

-- of asking: 5 exactly if it is fresh, with the level beside it; 6 exactly if it is stale, with level and age; 4 exactly if it was never heard
pub kind_tells_what_is_shown : (a : Asked) → let c = asked (answer_numbers a) in ((c.kind ≡ 5) ↔ (a ≡ Ok (Some (Fresh c.level)))) × ((c.kind ≡ 6) ↔ (a ≡ Ok (Some (Stale c.level c.age)))) × ((c.kind ≡ 4) ↔ (a ≡ Ok (Some Never)))
kind_tells_what_is_shown (Ok (Some Never)) = ((λ e. absurd (omega arith), λ e. cc), (λ e. absurd (omega arith), λ e. cc), (λ e. refl, λ e. refl))
kind_tells_what_is_shown (Ok (Some (Fresh level))) = ((λ e. refl, λ e. refl), (λ e. absurd (omega arith), λ e. cc), (λ e. absurd (omega arith), λ e. cc))
kind_tells_what_is_shown (Ok (Some (Stale level age))) = ((λ e. absurd (omega arith), λ e. cc), (λ e. refl, λ e. refl), (λ e. absurd (omega arith), λ e. cc))
kind_tells_what_is_shown (Ok None) = ((λ e. absurd (omega arith), λ e. cc), (λ e. absurd (omega arith), λ e. cc), (λ e. absurd (omega arith), λ e. cc))
kind_tells_what_is_shown (Err why) = ((λ e. absurd (omega arith), λ e. cc), (λ e. absurd (omega arith), λ e. cc), (λ e. absurd (omega arith), λ e. cc))

-- 1 exactly if the code is unknown; 2 exactly if asking was refused, with the number and place beside it
pub kind_tells_what_is_not_shown : (a : Asked) → let c = asked (answer_numbers a) in ((c.kind ≡ 1) ↔ (a ≡ Ok None)) × ((c.kind ≡ 2) ↔ RefusedWith c.number c.place a)
kind_tells_what_is_not_shown (Ok (Some Never)) = ((λ e. absurd (omega arith), λ e. cc), (λ e. absurd (omega arith), λ w. let e = w.2 in cc))
kind_tells_what_is_not_shown (Ok (Some (Fresh level))) = ((λ e. absurd (omega arith), λ e. cc), (λ e. absurd (omega arith), λ w. let e = w.2 in cc))
kind_tells_what_is_not_shown (Ok (Some (Stale level age))) = ((λ e. absurd (omega arith), λ e. cc), (λ e. absurd (omega arith), λ w. let e = w.2 in cc))
kind_tells_what_is_not_shown (Ok None) = ((λ e. refl, λ e. refl), (λ e. absurd (omega arith), λ w. let e = w.2 in cc))
kind_tells_what_is_not_shown (Err why) = ((λ e. absurd (omega arith), λ e. cc), (λ e. (why.reason, refl, refl), λ w. refl))

-- ---- any two results that the contract of a call allows are equal

pub building_is_decided : (I : Lent) {a b : DsAnswer} {x y : List ℕ} → (a ≡ answer (build_numbers_of I)) × (x ≡ buffer_after_of I) → (b ≡ answer (build_numbers_of I)) × (y ≡ buffer_after_of I) → (a ≡ b) × (x ≡ y)
building_is_decided I a b = (a.0 ∙ sym b.0, a.1 ∙ sym b.1)

pub counted_building_is_decided : (I : Lent) {a b : DsCounted} {x y : List ℕ} → (a ≡ counted (build_numbers_of I)) × (x ≡ buffer_after_of I) → (b ≡ counted (build_numbers_of I)) × (y ≡ buffer_after_of I) → (a ≡ b) × (x ≡ y)
counted_building_is_decided I a b = (a.0 ∙ sym b.0, a.1 ∙ sym b.1)

pub opening_is_decided : (f : List ℕ) {o p : DsOpened} → o ≡ opened (open_numbers_of f) → p ≡ opened (open_numbers_of f) → o ≡ p
opening_is_decided f a b = a ∙ sym b

pub looking_up_is_decided : (f t : List ℕ) {o p : DsFound} → o ≡ found (lookup_numbers_of f t) → p ≡ found (lookup_numbers_of f t) → o ≡ p
looking_up_is_decided f t a b = a ∙ sym b

pub showing_is_decided : (f : List ℕ) (l : ℕ) {p q : DsPart} → p ≡ part (show_part_of f l) → q ≡ part (show_part_of f l) → p ≡ q
showing_is_decided f l a b = a ∙ sym b

pub reporting_is_decided : (f : List ℕ) (q : Report) (S : Lists) {a b : DsReported} {x y : Lists} → (a ≡ reported (reported_numbers (report_of f q S))) × (x ≡ after_report f q S) → (b ≡ reported (reported_numbers (report_of f q S))) × (y ≡ after_report f q S) → (a ≡ b) × (x ≡ y)
reporting_is_decided f q S a b = (a.0 ∙ sym b.0, a.1 ∙ sym b.1)

pub asking_is_decided : (f : List ℕ) (q : Question) (S : Lists) {a b : DsAsked} → a ≡ asked (answer_numbers (ask_of f q S)) → b ≡ asked (answer_numbers (ask_of f q S)) → a ≡ b
asking_is_decided f q S a b = a ∙ sym b

-- Reporting and asking give the first refusal of their table that applies, and none before it applies. Assumes nothing.
use Rattle.std.specs.Prelude.{◌≡◌, ◌↔◌, refl, Bool, true, List, ℕ, Option, Some, None, Result, Ok, Err}
use Rattle.std.proofs.Common.{sym, ap, ◌∙◌, inl, ⊎_elim}
use Rattle.directory.specs.declared.Reason.{Reason}
use Rattle.directory.specs.declared.Refused.{Refused}
use Rattle.directory.specs.Refusals.{refused, Refusal, first, ok_unless, NoneApplies, Given}
use Rattle.directory.specs.Answers.{Found}
use Rattle.directory.proofs.RefusalLaws.{first_none, first_is, first_refused, first-after, refused_own, ok_not_refused}
use Rattle.directory.specs.Calls.{lookup_of}
use Rattle.sign.specs.declared.Answer.{Answer}
use Rattle.sign.specs.Rules.{Report, Question, report_refusals, told, ask_refusals, judged, answered, limit_allowed}
use Rattle.sign.specs.Keeping.{Lists, fits, last_at}
use Rattle.sign.specs.Calls.{lines_in, checks, gated, entered, on_line, report_of, ask_of}
use Rattle.sign.specs.Refusing.{lookup_refusal, at_line, in_order, report_table, ask_table}

-- ---- in any answer

module _ {A : Type 0} (ok : ℕ → A) (limited fitting : Bool) (rows : ℕ → List Refusal) where
  abbrev table : List Refusal
  table = checks limited fitting

  -- what a call gives past the checks, ..
  abbrev rule : ℕ → Result (Option A) Refused
  rule line = ok_unless (Some (ok line)) (rows line)

  -- .. and past all refusals
  abbrev given : Found → Result (Option A) Refused
  given found = on_line (λ line. Ok (Some (ok line))) found

  -- the way to a line and the rule there are one table
  pub one_table : (found : Found) → on_line rule (gated found table) ≡ first (given found) refused (in_order found table rows)
  unfolding on_line gated first in_order lookup_refusal at_line
  one_table (Ok (Some line)) = first-after (on_line rule) (Ok (Some line)) refused table
  one_table (Ok None) = first-after (on_line rule) (Ok None) refused table
  one_table (Err why) = refl

  -- a refusal is that of the table
  pub refused_given : (found : Found) (k : Reason) (p : ℕ) → (on_line rule (gated found table) ≡ refused k p) ↔ Given (in_order found table rows) k p
  unfolding on_line in_order lookup_refusal
  refused_given found k p =
      let by_table = first_refused (given found) refused refused_own (in_order found table rows) k p in
      (λ e. ⊎_elim (λ g. g) (λ w. absurd (none found w)) (by_table.0 (sym (one_table found) ∙ e)), λ g. one_table found ∙ by_table.1 (inl g))
    where
      none : (found : Found) → NoneApplies (in_order found table rows) × (given found ≡ refused k p) → ⊥
      none (Ok (Some line)) w = ok_not_refused (Some (ok line)) k p w.1
      none (Ok None) w = ok_not_refused None k p w.1
      none (Err why) w = let e = w.0.0 in cc

  -- what is no refusal is given exactly if none applies
  given_exactly : (found : Found) (x : Option A) → (on_line rule (gated found table) ≡ Ok x) ↔ ((given found ≡ Ok x) × NoneApplies (in_order found table rows))
  given_exactly found x = (
    λ e. first_is (given found) refused (Ok x) (λ k p i. ok_not_refused x k p (sym i)) (in_order found table rows) (sym (one_table found) ∙ e),
    λ w. one_table found ∙ first_none (given found) refused (in_order found table rows) w.1 ∙ w.0,
  )

  -- so is that a code is unknown, ..
  pub unknown_exactly : (found : Found) → (on_line rule (gated found table) ≡ Ok None) ↔ ((found ≡ Ok None) × NoneApplies (in_order found table rows))
  unfolding on_line
  unknown_exactly found = let w = given_exactly found None in (λ e. (is found (w.0 e).0, (w.0 e).1), λ e. w.1 (ap given e.0, e.1))
    where
      is : (found : Found) → given found ≡ Ok None → found ≡ Ok None
      is (Ok (Some line)) e = cc
      is (Ok None) e = refl
      is (Err why) e = cc

  -- .. and what comes of a line
  pub line_exactly : (found : Found) (x : A) → (on_line rule (gated found table) ≡ Ok (Some x)) ↔ ((line : ℕ) × (found ≡ Ok (Some line)) × (ok line ≡ x) × NoneApplies (in_order found table rows))
  unfolding on_line
  line_exactly found x =
      let w = given_exactly found (Some x) in (
        λ e. let i = is found (w.0 e).0 in (i.0, i.1, i.2, (w.0 e).1),
        λ e. w.1 (ap given e.1 ∙ ap (λ (y : A). Ok (Some y)) e.2, e.3),
      )
    where
      is : (found : Found) → given found ≡ Ok (Some x) → (line : ℕ) × (found ≡ Ok (Some line)) × (ok line ≡ x)
      is (Ok (Some line)) e = (line, refl, cc)
      is (Ok None) e = absurd cc
      is (Err why) e = absurd cc

-- ---- reporting

module _ (f : List ℕ) (q : Report) (S : Lists) where
  abbrev looked : Found
  looked = lookup_of f q.code

  abbrev fitting : Bool
  fitting = fits (lines_in f) S

  abbrev report_rows : ℕ → List Refusal
  report_rows line = report_refusals (last_at S line) q.level q.time

  pub report_refused_given : (k : Reason) (p : ℕ) → (report_of f q S ≡ refused k p) ↔ Given (report_table f q S) k p
  unfolding report_of entered told report_table
  report_refused_given = refused_given (λ line. line) true fitting report_rows looked

  pub report_unknown_exactly : (report_of f q S ≡ Ok None) ↔ ((looked ≡ Ok None) × NoneApplies (report_table f q S))
  unfolding report_of entered told report_table
  report_unknown_exactly = unknown_exactly (λ line. line) true fitting report_rows looked

  pub report_accepted_exactly : (line : ℕ) → (report_of f q S ≡ Ok (Some line)) ↔ ((looked ≡ Ok (Some line)) × NoneApplies (report_table f q S))
  unfolding report_of entered told report_table
  report_accepted_exactly line =
      let given = line_exactly (λ line. line) true fitting report_rows looked line in
      (λ e. let w = given.0 e in (w.1 ∙ ap (λ (k : ℕ). Ok (Some k)) w.2, w.3), λ w. given.1 (line, w.0, refl, w.1))

-- ---- asking

module _ (f : List ℕ) (q : Question) (S : Lists) where
  abbrev asked : Found
  asked = lookup_of f q.code

  abbrev right : Bool
  right = limit_allowed q.limit

  abbrev ask_rows : ℕ → List Refusal
  ask_rows line = ask_refusals (last_at S line) q.now

  abbrev judgement : ℕ → Answer
  judgement line = judged (last_at S line) q.now q.limit

  pub ask_refused_given : (k : Reason) (p : ℕ) → (ask_of f q S ≡ refused k p) ↔ Given (ask_table f q S) k p
  unfolding ask_of entered answered ask_table
  ask_refused_given = refused_given judgement right (fits (lines_in f) S) ask_rows asked

  pub ask_unknown_exactly : (ask_of f q S ≡ Ok None) ↔ ((asked ≡ Ok None) × NoneApplies (ask_table f q S))
  unfolding ask_of entered answered ask_table
  ask_unknown_exactly = unknown_exactly judgement right (fits (lines_in f) S) ask_rows asked

  pub ask_judged : (line : ℕ) → asked ≡ Ok (Some line) → NoneApplies (ask_table f q S) → ask_of f q S ≡ Ok (Some (judgement line))
  unfolding ask_of entered answered ask_table
  ask_judged line e h = (line_exactly judgement right (fits (lines_in f) S) ask_rows asked (judgement line)).1 (line, e, refl, h)

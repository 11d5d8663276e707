-- What a report changes and what asking goes by, on any file and any lists. Assumes nothing.
use Rattle.std.specs.Prelude.{◌≡◌, refl, ◌≢◌, Bool, true, List, ℕ, Some, None, Ok, Err}
use Rattle.std.proofs.Common.{sym, ap, ◌∙◌}
use Rattle.std.proofs.lemmas.Bool.{not-false}
use Rattle.directory.specs.Refusals.{Refusal, NoneApplies}
use Rattle.directory.specs.Answers.{Found}
use Rattle.directory.proofs.RefusalLaws.{none_right}
use Rattle.directory.specs.Calls.{lookup_of}
use Rattle.sign.specs.Rules.{Report, Question, Last, Reported, report_refusals, ask_refusals, judged, limit_allowed}
use Rattle.sign.specs.Keeping.{Lists, fits, last_at, heard_at, kept}
use Rattle.sign.proofs.KeepingLaws.{fits_room, heard-fits, OwnPlaceAlone, kept_own}
use Rattle.sign.specs.Calls.{lines_in, checks, report_of, after_report, ask_of}
use Rattle.sign.proofs.CallSteps.{line-below}
use Rattle.sign.specs.Refusing.{lookup_refusal, in_order, report_table, ask_table}
use Rattle.sign.proofs.RefusingLaws.{report_accepted_exactly, ask_judged}

-- ---- a report that is not accepted changes no byte, whatever the file and the lists

pub not-kept : (f : List ℕ) (q : Report) (S : Lists) → ((line : ℕ) → report_of f q S ≢ Ok (Some line)) → after_report f q S ≡ S
unfolding after_report kept
not-kept f q S d = go (report_of f q S) d
  where
    go : (r : Reported) → ((line : ℕ) → r ≢ Ok (Some line)) → kept r q.level q.time S ≡ S
    go (Ok (Some line)) d = absurd (d line refl)
    go (Ok None) d = refl
    go (Err why) d = refl

-- ---- where no refusal applies

-- the lists fit
none_fits : (found : Found) (limited fitting : Bool) (rows : ℕ → List Refusal) → NoneApplies (in_order found (checks limited fitting) rows) → fitting ≡ true
unfolding in_order
none_fits found limited fitting rows h = not-false _ (none_right (lookup_refusal found) _ h).1.0

-- asking goes by what the lists have at the line
pub ask_heard : (f : List ℕ) (q : Question) (S : Lists) (line : ℕ) → lookup_of f q.code ≡ Ok (Some line) → NoneApplies (ask_table f q S) → ask_of f q S ≡ Ok (Some (judged (heard_at S line) q.now q.limit))
unfolding ask_table
ask_heard f q S line e h =
    let fit : fits (lines_in f) S ≡ true = none_fits (lookup_of f q.code) (limit_allowed q.limit) _ (λ line. ask_refusals (last_at S line) q.now) h in
    ask_judged f q S line e h ∙ ap (λ (m : Last). Ok (Some (judged m q.now q.limit))) (sym (heard-fits S line (lines_in f) fit (line-below f q.code line e)))

-- an accepted report changes its own place alone
pub accepted_own : (f : List ℕ) (q : Report) (S : Lists) (line : ℕ) → report_of f q S ≡ Ok (Some line) → OwnPlaceAlone S line q.level q.time (after_report f q S)
unfolding after_report kept report_table
accepted_own f q S line e =
    let w = (report_accepted_exactly f q S line).0 e in
    let fit : fits (lines_in f) S ≡ true = none_fits (lookup_of f q.code) true _ (λ line. report_refusals (last_at S line) q.level q.time) w.1 in
    rw e (kept_own S line q.level q.time (fits_room (lines_in f) S line fit (line-below f q.code line w.0)))

-- ---- what the lists have at a line is decided

pub what_was_heard_is_decided : (S : Lists) (line : ℕ) {a b : Last} → a ≡ heard_at S line → b ≡ heard_at S line → a ≡ b
what_was_heard_is_decided S line a b = a ∙ sym b

-- What the sign promises, for readers, about the definitions that its calls' contracts cite. Assumes nothing.
use Rattle.std.specs.Prelude.{◌≡◌, ◌≢◌, ◌↔◌, true, List, ℕ, ◌+◌, ◌-◌, ◌≤◌, ◌<◌, ℤ, Some, None, Ok}
use Rattle.std.proofs.Common.{sym, ◌∙◌}
use Rattle.directory.specs.declared.Reason.{Reason}
use Rattle.directory.specs.Sizes.{headed}
use Rattle.directory.specs.Refusals.{refused, NoneApplies, Given}
use Rattle.directory.specs.Calls.{open_of, lookup_of}
use Rattle.directory.proofs.EveryFile.{what_opens_has_its_header}
use Rattle.sign.specs.declared.Answer.TheVariants.{Never, Fresh, Stale}
use Rattle.sign.specs.Levels.{in_range}
use Rattle.sign.specs.Rules.{Report, Question, heard, Reported, Asked, limit_allowed, judged}
use Rattle.sign.specs.Keeping.{Lists, heard_at, cleared}
use Rattle.sign.proofs.KeepingLaws.{OwnPlaceAlone}
use Rattle.sign.specs.Calls.{report_of, after_report, ask_of}
use Rattle.sign.specs.Refusing.{report_table, ask_table}
use Rattle.sign.proofs.RefusingLaws.{report_refused_given, report_accepted_exactly, report_unknown_exactly, ask_refused_given, ask_unknown_exactly}
use Rattle.sign.proofs.AnyListsLaws.{not-kept, accepted_own, ask_heard}
use Rattle.sign.specs.Trace.{Call, log, after, sign, nothing, plain}
use Rattle.sign.proofs.TraceLaws.{log-same, cleared_stands}
use Rattle.sign.specs.History.{Entry, NoneAccepted, LastAccepted}
use Rattle.sign.proofs.PromiseLaws as laws

-- ---- any file and any lists

module _ (f : List ℕ) (S : Lists) where
  module _ (q : Report) where
    -- a report is refused exactly with the reason and place of the first that applies: what looking up refuses, then 23, 17 and 18
    pub a_report_is_refused_by_the_first_that_applies : (k : Reason) (p : ℕ) → (report_of f q S ≡ refused k p) ↔ Given (report_table f q S) k p
    a_report_is_refused_by_the_first_that_applies = report_refused_given f q S

    -- where none applies, it is accepted at the line of its code, or unknown if the code has none
    pub a_report_is_accepted_exactly_if_none_applies : (line : ℕ) → (report_of f q S ≡ Ok (Some line)) ↔ ((lookup_of f q.code ≡ Ok (Some line)) × NoneApplies (report_table f q S))
    a_report_is_accepted_exactly_if_none_applies = report_accepted_exactly f q S

    pub a_report_is_unknown_exactly_if_its_code_is : (report_of f q S ≡ Ok None) ↔ ((lookup_of f q.code ≡ Ok None) × NoneApplies (report_table f q S))
    a_report_is_unknown_exactly_if_its_code_is = report_unknown_exactly f q S

    -- an accepted report changes the four bytes of its line in each list, and no other byte
    pub an_accepted_report_changes_its_own_place_alone : (line : ℕ) → report_of f q S ≡ Ok (Some line) → OwnPlaceAlone S line q.level q.time (after_report f q S)
    an_accepted_report_changes_its_own_place_alone = accepted_own f q S

    -- an unknown or refused report changes nothing
    pub an_unknown_or_refused_report_changes_nothing : ((line : ℕ) → report_of f q S ≢ Ok (Some line)) → after_report f q S ≡ S
    an_unknown_or_refused_report_changes_nothing = not-kept f q S

  module _ (q : Question) where
    -- asking is refused exactly with the first that applies: what looking up refuses, then 22, 23 and 19
    pub asking_is_refused_by_the_first_that_applies : (k : Reason) (p : ℕ) → (ask_of f q S ≡ refused k p) ↔ Given (ask_table f q S) k p
    asking_is_refused_by_the_first_that_applies = ask_refused_given f q S

    -- where none applies, the answer is Unknown if the code has no line, or what its line's last report makes of now and the limit
    pub asking_gives_unknown_exactly_if_the_code_is : (ask_of f q S ≡ Ok None) ↔ ((lookup_of f q.code ≡ Ok None) × NoneApplies (ask_table f q S))
    asking_gives_unknown_exactly_if_the_code_is = ask_unknown_exactly f q S

    pub asking_gives_what_the_line_says : (line : ℕ) → lookup_of f q.code ≡ Ok (Some line) → NoneApplies (ask_table f q S) → ask_of f q S ≡ Ok (Some (judged (heard_at S line) q.now q.limit))
    asking_gives_what_the_line_says = ask_heard f q S

-- ---- any calls, one after the other, with any arguments, refused and unknown ones too: from cleared lists on, over one opened file, the lists written by nobody else

module _ (f : List ℕ) (n r v : ℕ) (o : open_of f ≡ Ok (headed n r v)) (calls : List Call) where
  -- every answer is that of a plain map from code to last accepted report
  pub every_answer_is_the_plain_maps : log (sign f) (cleared n) calls ≡ log (plain f) nothing calls
  every_answer_is_the_plain_maps = log-same f calls (cleared n) nothing (cleared_stands f (what_opens_has_its_header f n r v o))

  -- what was called, each call with its answer, and the lists that the calls left
  abbrev pub made : List Entry
  made = log (sign f) (cleared n) calls

  abbrev pub left : Lists
  left = after (sign f) (cleared n) calls

  -- a report is accepted exactly if its code is listed, its level is in range, and its time is not before this code's last accepted one
  pub accepted_means_exactly : (q : Report) (line : ℕ) → (report_of f q left ≡ Ok (Some line)) ↔ ((lookup_of f q.code ≡ Ok (Some line)) × (in_range q.level ≡ true) × ((d : Report) → LastAccepted q.code d made → d.time ≤ q.time))
  accepted_means_exactly = laws.accepted_exactly f (what_opens_has_its_header f n r v o) calls

  -- what the lists have at the line of a code is its last accepted report
  pub heard_means_exactly : (code : List ℕ) (line : ℕ) → lookup_of f code ≡ Ok (Some line) → (level : ℤ) (time : ℕ) → (heard_at left line ≡ heard level time) ↔ ((d : Report) × LastAccepted code d made × (d.level ≡ level) × (d.time ≡ time))
  heard_means_exactly = laws.heard_exactly f (what_opens_has_its_header f n r v o) calls

  module _ (q : Question) where
    -- Fresh means exactly: this code's last accepted report is at most the limit old, and the level is its own
    pub fresh_means_exactly : (level : ℤ) → (ask_of f q left ≡ Ok (Some (Fresh level))) ↔ ((limit_allowed q.limit ≡ true) × ((d : Report) × LastAccepted q.code d made × (d.level ≡ level) × (d.time ≤ q.now) × (q.now - d.time ≤ q.limit)))
    fresh_means_exactly = laws.fresh_exactly f (what_opens_has_its_header f n r v o) calls q

    -- Stale means exactly: it is older, by the age that is given
    pub stale_means_exactly : (level : ℤ) (age : ℕ) → (ask_of f q left ≡ Ok (Some (Stale level age))) ↔ ((limit_allowed q.limit ≡ true) × ((d : Report) × LastAccepted q.code d made × (d.level ≡ level) × (d.time ≤ q.now) × (age ≡ q.now - d.time) × (q.limit < age)))
    stale_means_exactly = laws.stale_exactly f (what_opens_has_its_header f n r v o) calls q

    -- Never means exactly: the code is listed, and no report of it was accepted
    pub never_means_exactly : (ask_of f q left ≡ Ok (Some Never)) ↔ ((limit_allowed q.limit ≡ true) × ((line : ℕ) × (lookup_of f q.code ≡ Ok (Some line))) × NoneAccepted q.code made)
    never_means_exactly = laws.never_exactly f (what_opens_has_its_header f n r v o) calls q

    -- no report of another code, listed or not, changes the answer for this one
    pub no_report_of_another_code_changes_the_answer : (d : Report) → d.code ≢ q.code → ask_of f q (after_report f d left) ≡ ask_of f q left
    no_report_of_another_code_changes_the_answer = laws.others_stay f (what_opens_has_its_header f n r v o) calls q

    -- nor do any further calls of which none is an accepted report of this code
    pub only_its_own_reports_change_the_answer : (more : List Call) → NoneAccepted q.code (log (sign f) left more) → ask_of f q (after (sign f) left more) ≡ ask_of f q left
    only_its_own_reports_change_the_answer = laws.stays f (what_opens_has_its_header f n r v o) calls q

    -- a gauge that goes silent is never Fresh once the limit has passed, whatever else is reported
    pub a_silent_gauge_is_never_fresh_past_the_limit : (d : Report) → LastAccepted q.code d made → d.time + q.limit < q.now → (level : ℤ) → ask_of f q left ≢ Ok (Some (Fresh level))
    a_silent_gauge_is_never_fresh_past_the_limit = laws.silent_not-fresh f (what_opens_has_its_header f n r v o) calls q

-- ---- each call decides what it gives back: any two results that its contract allows are equal

pub reporting_is_decided : (f : List ℕ) (q : Report) (S : Lists) {a b : Reported} {x y : Lists} → (a ≡ report_of f q S) × (x ≡ after_report f q S) → (b ≡ report_of f q S) × (y ≡ after_report f q S) → (a ≡ b) × (x ≡ y)
reporting_is_decided f q S a b = (a.0 ∙ sym b.0, a.1 ∙ sym b.1)

pub asking_is_decided : (f : List ℕ) (q : Question) (S : Lists) {a b : Asked} → a ≡ ask_of f q S → b ≡ ask_of f q S → a ≡ b
asking_is_decided f q S a b = a ∙ sym b

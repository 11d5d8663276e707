-- Over one file and from cleared lists on, the sign gives back what a plain map from code to last accepted report would. Assumes nothing.
use Rattle.std.specs.Prelude.{◌≡◌, Bool, ℕ, Option, Some, None, Result, Ok, Err}
use Rattle.std.proofs.Math.Path.{refl, ap, ap₂}
use Rattle.std.proofs.Common.{sym, ◌∙◌}
use Rattle.std.proofs.Math.Bool.{true, false, cond}
use mathlib.Core.List.{List, [], ◌∷◌}
use Rattle.counting.specs.Lists.{same}
use Rattle.counting.proofs.ListsLaws.{same_equal, same_self}
use Rattle.counting.proofs.TestLaws.{clash}
use Rattle.directory.specs.declared.Refused.{Refused}
use Rattle.directory.specs.Sizes.{headed}
use Rattle.directory.specs.Answers.{Found}
use Rattle.directory.specs.Calls.{header_of, lookup_of}
use Rattle.directory.proofs.EveryFile.{a_line_that_is_given_stores_the_code}
use Rattle.sign.specs.Levels.{in_range}
use Rattle.sign.specs.Rules.{Report, Question, Last, heard, Reported, told, answered, limit_allowed}
use Rattle.sign.proofs.RuleLaws.{told-accepted}
use Rattle.sign.specs.Keeping.{Lists, fits, last_at, keep, kept, cleared}
use Rattle.sign.proofs.KeepingLaws.{fits_room, kept-fits, kept_same, kept-other, cleared-fits, cleared_never}
use Rattle.sign.specs.Calls.{lines_of, lines_in, entered, on_line, report_of, after_report, ask_of}
use Rattle.sign.proofs.CallSteps.{line-below, entered_in}
use Rattle.sign.specs.Trace.{Call, Reply, log, after, sign_reply, sign_next, sign, Map, nothing, with, accepted, map_report, map_ask, map_reply, map_next, plain}

-- ---- what the sign needs of the directory: no line is given to two codes

pub one_code : (f s t : List ℕ) (line : ℕ) → lookup_of f s ≡ Ok (Some line) → lookup_of f t ≡ Ok (Some line) → s ≡ t
one_code f s t line d e = sym (a_line_that_is_given_stores_the_code f s line d).1 ∙ (a_line_that_is_given_stores_the_code f t line e).1

-- ---- the two machines go the same way

-- the rule of a line is looked at only where there is a line
on_same : {A : Type 0} (found : Found) (rule other : ℕ → Result (Option A) Refused) → ((line : ℕ) → found ≡ Ok (Some line) → rule line ≡ other line) → on_line rule found ≡ on_line other found
unfolding on_line
on_same (Ok (Some line)) rule other h = h line refl
on_same (Ok None) rule other h = refl
on_same (Err why) rule other h = refl

-- ---- lists that stand for a map

pub record Stands (f : List ℕ) (S : Lists) (M : Map) : Type 0 where
  pub fitting : fits (lines_in f) S ≡ true
  -- at the line of each listed code stands what the map has for the code
  pub lines : (code : List ℕ) (line : ℕ) → lookup_of f code ≡ Ok (Some line) → last_at S line ≡ M code

module _ (f : List ℕ) where
  module _ (S : Lists) (M : Map) (s : Stands f S M) where
    way_same : (code : List ℕ) (limited : Bool) → entered f code limited (fits (lines_in f) S) ≡ entered f code limited true
    way_same code limited = ap (entered f code limited) s.fitting

    pub report_same : (q : Report) → report_of f q S ≡ map_report f q M
    unfolding report_of map_report
    report_same q =
        rw (way_same q.code true)
        (on_same (entered f q.code true true) _ _
        (λ line e. ap (λ (m : Last). told m line q.level q.time) (s.lines q.code line (entered_in f q.code true true line e).found)))

    pub ask_same : (q : Question) → ask_of f q S ≡ map_ask f q M
    unfolding ask_of map_ask
    ask_same q =
        let right = limit_allowed q.limit in
        rw (way_same q.code right)
        (on_same (entered f q.code right true) _ _
        (λ line e. ap (λ (m : Last). answered m q.now q.limit) (s.lines q.code line (entered_in f q.code right true line e).found)))

    -- a call is answered alike
    reply_same : (k : Call) → sign_reply f S k ≡ map_reply f M k
    unfolding sign_reply map_reply
    reply_same (Call.report q) = ap Reply.reported (report_same q)
    reply_same (Call.ask q) = ap Reply.asked (ask_same q)

    -- a report that is kept at the line of its code is the map's for the code
    kept_stands : (q : Report) (line : ℕ) → lookup_of f q.code ≡ Ok (Some line) → in_range q.level ≡ true → Stands f (keep S line q.level q.time) (with M q)
    unfolding with
    kept_stands q line e r =
        record {
          fitting = kept-fits S line q.level q.time (lines_in f) ∙ s.fitting;
          lines = λ code k i. go code k i (same q.code code) refl;
        }
      where
        go : (code : List ℕ) (k : ℕ) → lookup_of f code ≡ Ok (Some k) → (b : Bool) → same q.code code ≡ b → last_at (keep S line q.level q.time) k ≡ cond b (heard q.level q.time) (M code)
        go code k i true h =
            let w : q.code ≡ code = same_equal q.code code h in
            let j : k ≡ line = cc in
            rw j (kept_same S line q.level q.time (fits_room (lines_in f) S line s.fitting (line-below f q.code line e)) r)
        go code k i false h =
            kept-other S line q.level q.time k (λ j.
            let w : q.code ≡ code = one_code f q.code code line e cc in
            clash (rw (← w) (same_self q.code)) h)
            ∙ s.lines code k i

    report_stands : (q : Report) → Stands f (after_report f q S) (cond (accepted (map_report f q M)) (with M q) M)
    unfolding after_report map_report on_line kept accepted
    report_stands q = rw (report_same q) (way (entered f q.code true true) refl)
      where
        at : (line : ℕ) → lookup_of f q.code ≡ Ok (Some line) → (r : Reported) → told (M q.code) line q.level q.time ≡ r → Stands f (kept r q.level q.time S) (cond (accepted r) (with M q) M)
        at line e (Ok (Some k)) i =
            let w = (told-accepted (M q.code) line q.level q.time k).0 i in
            rw (← w.0) (kept_stands q line e w.1)
        at line e (Ok None) i = s
        at line e (Err why) i = s

        way : (found : Found) → entered f q.code true true ≡ found → let r = on_line (λ line. told (M q.code) line q.level q.time) found in Stands f (kept r q.level q.time S) (cond (accepted r) (with M q) M)
        way (Ok (Some line)) e = at line (entered_in f q.code true true line e).found _ refl
        way (Ok None) e = s
        way (Err why) e = s

    pub next_stands : (k : Call) → Stands f (sign_next f S k) (map_next f M k)
    unfolding sign_next map_next
    next_stands (Call.report q) = report_stands q
    next_stands (Call.ask q) = s

  -- ---- calls, one after the other

  pub log-same : (ks : List Call) (S : Lists) (M : Map) → Stands f S M → log (sign f) S ks ≡ log (plain f) M ks
  unfolding log
  log-same [] S M s = refl
  log-same (k ∷ ks) S M s = ap₂ (λ (r : Reply) (rs : List (Call × Reply)). (k, r) ∷ rs) (reply_same S M s k) (log-same ks (sign_next f S k) (map_next f M k) (next_stands S M s k))

  pub after_stands : (ks : List Call) (S : Lists) (M : Map) → Stands f S M → Stands f (after (sign f) S ks) (after (plain f) M ks)
  unfolding after
  after_stands [] S M s = s
  after_stands (k ∷ ks) S M s = after_stands ks (sign_next f S k) (map_next f M k) (next_stands S M s k)

  pub cleared_stands : {n r v : ℕ} → header_of f ≡ Ok (headed n r v) → Stands f (cleared n) nothing
  unfolding nothing lines_in
  cleared_stands {n} {r} {v} o =
      let lines : lines_in f ≡ n = ap lines_of o in
      record { fitting = rw lines (cleared-fits n); lines = λ code line e. cleared_never n line (rw lines at (line-below f code line e)) }

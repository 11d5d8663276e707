-- What reporting and asking give after any calls from cleared lists on, by the code's last accepted report. Assumes nothing.
use Rattle.std.specs.Prelude.{◌≡◌, ◌≢◌, ◌↔◌, Bool, List, [], ◌∷◌, ◌++◌, ℤ, Some, None, Ok, Err}
use Rattle.std.proofs.Math.Path.{refl, sym, ap, subst}
use Rattle.std.proofs.Common.{◌∙◌, arith, ltb-false, le-ltb}
use Rattle.std.proofs.Math.Bool.{true, false}
use Prim.Native.Nat.{ℕ, ◌+◌, ◌-◌, ◌≤◌, ◌<◌}
use Rattle.counting.specs.Lists.{same}
use Rattle.counting.proofs.ListsLaws.{same_equal}
use Rattle.directory.specs.Sizes.{headed}
use Rattle.directory.specs.Answers.{Found}
use Rattle.directory.specs.Calls.{header_of, lookup_of}
use Rattle.sign.specs.declared.Answer.{Answer}
use Rattle.sign.specs.declared.Answer.TheVariants.{Never, Fresh, Stale}
use Rattle.sign.specs.Rules.{Report, Question, Last, heard, never_heard, Reported, Asked, before_last, told, answered, limit_allowed}
use Rattle.sign.specs.Levels.{in_range}
use Rattle.sign.specs.Keeping.{Lists, heard_at, cleared}
use Rattle.sign.proofs.KeepingLaws.{heard-fits}
use Rattle.sign.specs.Calls.{lines_in, entered, on_line, report_of, after_report, ask_of}
use Rattle.sign.proofs.CallSteps.{line-below, entered_in, enter_found}
use Rattle.sign.proofs.RuleLaws.{heard_same, told-accepted, answered_never, answered_fresh, answered_stale}
use Rattle.sign.proofs.RefusingLaws.{report_accepted_exactly}
use Rattle.sign.specs.Trace.{Call, log, after, sign_reply, sign_next, sign, Map, nothing, map_report, map_ask, plain}
use Rattle.sign.specs.Trace.Call.{report, ask}
use Rattle.sign.specs.Trace.Reply.{reported, asked}
use Rattle.sign.proofs.TraceLaws.{Stands, report_same, ask_same, log-same, after_stands, cleared_stands}
use Rattle.sign.specs.History.{Entry, accepts, NoneAccepted, LastAccepted}
use Rattle.sign.proofs.HistoryLaws.{last_in, map_last, last_none, last_is, heard-last, never_none}

-- ---- a report that was accepted is of a listed code

log_listed : (f : List ℕ) (q : Report) (line : ℕ) (since : List Entry) (ks : List Call) (S : Lists) (before : List Entry) → log (sign f) S ks ≡ before ++ (report q, reported (Ok (Some line))) ∷ since → lookup_of f q.code ≡ Ok (Some line)
unfolding log sign_reply
log_listed f q line since [] S [] e = absurd cc
log_listed f q line since [] S (b ∷ before) e = absurd cc
log_listed f q line since (report d ∷ ks) S [] e =
    let h : ◌≡◌ {A = Entry} (report d, reported (report_of f d S)) (report q, reported (Ok (Some line))) = cc in
    let c : report d ≡ report q = ap (λ (e : Entry). e.0) h in
    let g : reported (report_of f d S) ≡ reported (Ok (Some line)) = ap (λ (e : Entry). e.1) h in
    let i : d ≡ q = cc in
    let r : report_of f d S ≡ Ok (Some line) = cc in
    rw (← i) ((report_accepted_exactly f d S line).0 r).0
log_listed f q line since (ask d ∷ ks) S [] e =
    let h : ◌≡◌ {A = Entry} (ask d, asked (ask_of f d S)) (report q, reported (Ok (Some line))) = cc in
    let c : ask d ≡ report q = ap (λ (e : Entry). e.0) h in
    absurd cc
log_listed f q line since (k ∷ ks) S (b ∷ before) e = log_listed f q line since ks (sign_next f S k) before cc

-- ---- after any calls from cleared lists on

module _ (f : List ℕ) {n r v : ℕ} (o : header_of f ≡ Ok (headed n r v)) (ks : List Call) where
  abbrev pub lists : Lists
  lists = after (sign f) (cleared n) ks

  abbrev pub entries : List Entry
  entries = log (sign f) (cleared n) ks

  abbrev map : Map
  map = after (plain f) nothing ks

  abbrev last : List ℕ → Last
  last code = last_in code never_heard entries

  stands : Stands f lists map
  stands = after_stands f ks (cleared n) nothing (cleared_stands f o)

  map_is : (code : List ℕ) → map code ≡ last code
  unfolding nothing
  map_is code = map_last f code ks nothing ∙ ap (last_in code never_heard) (sym (log-same f ks (cleared n) nothing (cleared_stands f o)))

  -- what the lists have at a code's line is its last accepted report
  pub heard_exactly : (code : List ℕ) (line : ℕ) → lookup_of f code ≡ Ok (Some line) → (z : ℤ) (t : ℕ) → (heard_at lists line ≡ heard z t) ↔ ((d : Report) × LastAccepted code d entries × (d.level ≡ z) × (d.time ≡ t))
  heard_exactly code line e z t =
      let i : heard_at lists line ≡ last code = heard-fits lists line (lines_in f) stands.fitting (line-below f code line e) ∙ stands.lines code line e ∙ map_is code in
      (λ h. heard-last code entries (sym i ∙ h), λ w. i ∙ last_is code never_heard w.1 ∙ rw (w.2, w.3))

  -- a listed code gets through where the limit is right
  way : (code : List ℕ) (limited : Bool) (line : ℕ) → lookup_of f code ≡ Ok (Some line) → limited ≡ true → entered f code limited true ≡ Ok (Some line)
  way code limited line e t = enter_found f code limited true e t refl

  -- a report is accepted exactly if its code is listed, its level is in range, and its time is not before that of the last accepted
  pub accepted_exactly : (q : Report) (line : ℕ) → (report_of f q lists ≡ Ok (Some line)) ↔ ((lookup_of f q.code ≡ Ok (Some line)) × (in_range q.level ≡ true) × ((d : Report) → LastAccepted q.code d entries → d.time ≤ q.time))
  unfolding map_report on_line
  accepted_exactly q line = (λ e. to (entered f q.code true true) refl (sym by_last ∙ e), from)
    where
      rule : ℕ → Reported
      rule k = told (last q.code) k q.level q.time

      by_last : report_of f q lists ≡ on_line rule (entered f q.code true true)
      by_last = report_same f lists map stands q ∙ ap (λ (m : Last). on_line (λ k. told m k q.level q.time) (entered f q.code true true)) (map_is q.code)

      in_time : before_last q.time (last q.code) ≡ false → (d : Report) → LastAccepted q.code d entries → d.time ≤ q.time
      in_time h d w = ltb-false q.time d.time (sym (ap (before_last q.time) (last_is q.code never_heard w)) ∙ h)

      not-before : ((d : Report) → LastAccepted q.code d entries → d.time ≤ q.time) → (m : Last) → last q.code ≡ m → before_last q.time m ≡ false
      not-before h None i = refl
      not-before h (Some m) i = let l = heard-last q.code entries i in le-ltb q.time m.time (omega (arith, h l.0 l.1, l.3))

      to : (found : Found) → entered f q.code true true ≡ found → on_line rule found ≡ Ok (Some line) → (lookup_of f q.code ≡ Ok (Some line)) × (in_range q.level ≡ true) × ((d : Report) → LastAccepted q.code d entries → d.time ≤ q.time)
      to (Ok (Some k)) i e =
          let w = (told-accepted (last q.code) k q.level q.time line).0 e in
          ((entered_in f q.code true true k i).found ∙ ap (λ (k : ℕ). Ok (Some k)) w.0, w.1, in_time w.2)
      to (Ok None) i e = absurd cc
      to (Err why) i e = absurd cc

      from : (lookup_of f q.code ≡ Ok (Some line)) × (in_range q.level ≡ true) × ((d : Report) → LastAccepted q.code d entries → d.time ≤ q.time) → report_of f q lists ≡ Ok (Some line)
      from w =
          by_last ∙ ap (on_line rule) (way q.code true line w.0 refl)
          ∙ (told-accepted (last q.code) line q.level q.time line).1 (refl, w.1, not-before w.2 (last q.code) refl)

  -- what asking gives, by the code's last accepted report
  module _ (q : Question) where
    abbrev right : Bool
    right = limit_allowed q.limit

    abbrev rule : Asked
    rule = answered (last q.code) q.now q.limit

    ask_by_last : ask_of f q lists ≡ on_line (λ line. rule) (entered f q.code right true)
    unfolding map_ask
    ask_by_last = ask_same f lists map stands q ∙ ap (λ (m : Last). on_line (λ line. answered m q.now q.limit) (entered f q.code right true)) (map_is q.code)

    -- it is an answer exactly if the limit is right, the code is listed, and the rule says so
    pub record Says (a : Answer) : Type 0 where
      pub limit_right : right ≡ true
      pub line : ℕ
      pub listed : lookup_of f q.code ≡ Ok (Some line)
      pub by_rule : rule ≡ Ok (Some a)

    pub says_exactly : (a : Answer) → (ask_of f q lists ≡ Ok (Some a)) ↔ Says a
    unfolding on_line
    says_exactly a = (λ e. go (entered f q.code right true) refl (sym ask_by_last ∙ e), back)
      where
        go : (found : Found) → entered f q.code right true ≡ found → on_line (λ line. rule) found ≡ Ok (Some a) → Says a
        go (Ok (Some line)) i e = let w = entered_in f q.code right true line i in record { limit_right = w.limit_right; line = line; listed = w.found; by_rule = e }
        go (Ok None) i e = absurd cc
        go (Err why) i e = absurd cc

        back : Says a → ask_of f q lists ≡ Ok (Some a)
        back w = ask_by_last ∙ ap (on_line (λ line. rule)) (way q.code right w.line w.listed w.limit_right) ∙ w.by_rule

    -- what a last accepted report says
    last_says : {a : Answer} (d : Report) → LastAccepted q.code d entries → right ≡ true → answered (heard d.level d.time) q.now q.limit ≡ Ok (Some a) → Says a
    last_says {a} d w t e =
        record {
          limit_right = t;
          line = w.line;
          listed = rw w.its_code at (log_listed f d w.line w.since ks (cleared n) w.before w.made);
          by_rule = ap (λ (m : Last). answered m q.now q.limit) (last_is q.code never_heard w) ∙ e;
        }

    pub fresh_exactly : (z : ℤ) → (ask_of f q lists ≡ Ok (Some (Fresh z))) ↔ ((right ≡ true) × ((d : Report) × LastAccepted q.code d entries × (d.level ≡ z) × (d.time ≤ q.now) × (q.now - d.time ≤ q.limit)))
    fresh_exactly z = (
      λ e.
          let w = (says_exactly (Fresh z)).0 e in
          let h = (answered_fresh q.now q.limit (last q.code) z).0 w.by_rule in
          let l = heard-last q.code entries h.1 in
          (w.limit_right, (l.0, l.1, l.2, omega (arith, l.3, h.2), omega (arith, l.3, h.3))),
      λ w.
          let d = w.1.0 in
          let says = (answered_fresh q.now q.limit (heard d.level d.time) z).1 (d.time, ap (λ (y : ℤ). heard y d.time) w.1.2, w.1.3, w.1.4) in
          (says_exactly (Fresh z)).1 (last_says d w.1.1 w.0 says),
    )

    pub stale_exactly : (z : ℤ) (age : ℕ) → (ask_of f q lists ≡ Ok (Some (Stale z age))) ↔ ((right ≡ true) × ((d : Report) × LastAccepted q.code d entries × (d.level ≡ z) × (d.time ≤ q.now) × (age ≡ q.now - d.time) × (q.limit < age)))
    stale_exactly z age = (
      λ e.
          let w = (says_exactly (Stale z age)).0 e in
          let h = (answered_stale q.now q.limit (last q.code) z age).0 w.by_rule in
          let l = heard-last q.code entries h.1 in
          (w.limit_right, (l.0, l.1, l.2, omega (arith, l.3, h.2), omega (arith, l.3, h.4), h.3)),
      λ w.
          let d = w.1.0 in
          let says = (answered_stale q.now q.limit (heard d.level d.time) z age).1 (d.time, ap (λ (y : ℤ). heard y d.time) w.1.2, w.1.3, w.1.5, w.1.4) in
          (says_exactly (Stale z age)).1 (last_says d w.1.1 w.0 says),
    )

    pub never_exactly : (ask_of f q lists ≡ Ok (Some Never)) ↔ ((right ≡ true) × ((line : ℕ) × (lookup_of f q.code ≡ Ok (Some line))) × NoneAccepted q.code entries)
    never_exactly = (
      λ e.
          let w = (says_exactly Never).0 e in
          (w.limit_right, (w.line, w.listed), never_none q.code entries ((answered_never q.now q.limit (last q.code)).0 w.by_rule)),
      λ w. (says_exactly Never).1 (record { limit_right = w.0; line = w.1.0; listed = w.1.1; by_rule = (answered_never q.now q.limit (last q.code)).1 (last_none q.code never_heard entries w.2) }),
    )

    -- a gauge that goes silent is not fresh once the limit has passed
    pub silent_not-fresh : (d : Report) → LastAccepted q.code d entries → d.time + q.limit < q.now → (z : ℤ) → ask_of f q lists ≢ Ok (Some (Fresh z))
    silent_not-fresh d w h z e =
        let g = ((fresh_exactly z).0 e).1 in
        let i = sym (last_is q.code never_heard w) ∙ last_is q.code never_heard g.1 in
        omega (arith, g.4, h, (heard_same i).1)

    -- while no report of its code is accepted, the answer stays, whatever else is called
    pub stays : (js : List Call) → NoneAccepted q.code (log (sign f) lists js) → ask_of f q (after (sign f) lists js) ≡ ask_of f q lists
    unfolding map_ask
    stays js h =
        let quiet : NoneAccepted q.code (log (plain f) map js) = subst (NoneAccepted q.code) (log-same f js lists map stands) h in
        let same : after (plain f) map js q.code ≡ map q.code = map_last f q.code js map ∙ last_none q.code (map q.code) (log (plain f) map js) quiet in
        ask_same f (after (sign f) lists js) (after (plain f) map js) (after_stands f js lists map stands) q
        ∙ ap (λ (m : Last). on_line (λ line. answered m q.now q.limit) (entered f q.code right true)) same
        ∙ sym (ask_same f lists map stands q)

    -- a report of another code is none of its own
    pub others_stay : (d : Report) → d.code ≢ q.code → ask_of f q (after_report f d lists) ≡ ask_of f q lists
    unfolding after sign_next log sign_reply accepts
    others_stay d h = stays (report d ∷ []) (other (report_of f d lists), tt)
      where
        other : (r : Reported) → accepts q.code (report d, reported r) ≡ false
        other (Ok (Some line)) = go (same d.code q.code) refl
          where
            go : (b : Bool) → same d.code q.code ≡ b → same d.code q.code ≡ false
            go true i = absurd (h (same_equal d.code q.code i))
            go false i = i
        other (Ok None) = refl
        other (Err why) = refl

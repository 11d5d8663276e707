-- What the plain map has for a code is the code's last accepted report. Assumes nothing.
use Rattle.std.proofs.Math.Path.{◌≡◌, refl, ap}
use Rattle.std.proofs.Common.{sym, ◌∙◌, inl, inr, ⊎_elim}
use Rattle.std.specs.Prelude.{◌⊎◌, Bool, true, false, ℕ, ℤ, Some, None, Ok, Err}
use Rattle.std.proofs.Math.Bool.{cond}
use mathlib.Core.List.{List, [], ◌∷◌, ◌++◌}
use Rattle.counting.proofs.ListsLaws.{same_equal, same_self}
use Rattle.sign.specs.Rules.{Report, Last, heard, never_heard, Reported}
use Rattle.sign.proofs.RuleLaws.{heard_same}
use Rattle.sign.specs.Trace.{Call, log, after, Map, with, accepted, map_report, map_reply, map_next, plain}
use Rattle.sign.specs.Trace.Call.{report, ask}
use Rattle.sign.specs.Trace.Reply.{reported, asked}
use Rattle.sign.specs.History.{Entry, accepts, NoneAccepted, LastAccepted}

-- what the call of an entry brought
abbrev heard_in : Entry → Last
heard_in (report q, r) = heard q.level q.time
heard_in (ask q, r) = never_heard

-- what the entries leave of a code that was m before
unfoldable pub last_in : List ℕ → Last → List Entry → Last
last_in code m [] = m
last_in code m (e ∷ entries) = last_in code (cond (accepts code e) (heard_in e) m) entries

-- ---- it is what the map has

module _ (f code : List ℕ) where
  next_last : (M : Map) (k : Call) → map_next f M k code ≡ cond (accepts code (k, map_reply f M k)) (heard_in (k, map_reply f M k)) (M code)
  unfolding map_next map_reply accepts accepted with
  next_last M (report q) = go (map_report f q M)
    where
      go : (r : Reported) → cond (accepted r) (with M q) M code ≡ cond (accepts code (report q, reported r)) (heard q.level q.time) (M code)
      go (Ok (Some line)) = refl
      go (Ok None) = refl
      go (Err why) = refl
  next_last M (ask q) = refl

  pub map_last : (ks : List Call) (M : Map) → after (plain f) M ks code ≡ last_in code (M code) (log (plain f) M ks)
  unfolding after log last_in
  map_last [] M = refl
  map_last (k ∷ ks) M = map_last ks (map_next f M k) ∙ ap (λ (m : Last). last_in code m (log (plain f) (map_next f M k) ks)) (next_last M k)

-- ---- it is the last accepted report

module _ (code : List ℕ) where
  pub last_none : (m : Last) (entries : List Entry) → NoneAccepted code entries → last_in code m entries ≡ m
  unfolding last_in
  last_none m [] h = refl
  last_none m (e ∷ entries) h = rw h.0 (last_none m entries h.1)

  -- that report itself counts
  counts : (q : Report) (line : ℕ) → q.code ≡ code → accepts code (report q, reported (Ok (Some line))) ≡ true
  unfolding accepts
  counts q line e = rw (← e) (same_self q.code)

  last_through : (m : Last) (q : Report) (line : ℕ) (before since : List Entry) → q.code ≡ code → NoneAccepted code since → last_in code m (before ++ (report q, reported (Ok (Some line))) ∷ since) ≡ heard q.level q.time
  unfolding last_in
  last_through m q line [] since c h = ap (λ (b : Bool). last_in code (cond b (heard q.level q.time) m) since) (counts q line c) ∙ last_none (heard q.level q.time) since h
  last_through m q line (e ∷ before) since c h = last_through (cond (accepts code e) (heard_in e) m) q line before since c h

  pub last_is : (m : Last) {q : Report} {entries : List Entry} → LastAccepted code q entries → last_in code m entries ≡ heard q.level q.time
  last_is m {q} {entries} w = ap (last_in code m) w.made ∙ last_through m q w.line w.before w.since w.its_code w.none_since

  -- an entry that counts is an accepted report of the code
  record Counted (e : Entry) : Type 0 where
    q : Report
    line : ℕ
    is : e ≡ (report q, reported (Ok (Some line)))
    its : q.code ≡ code

  counted : (e : Entry) → accepts code e ≡ true → Counted e
  unfolding accepts
  counted (report q, reported (Ok (Some line))) h = record { q = q; line = line; is = refl; its = same_equal q.code code h }
  counted (report q, reported (Ok None)) h = absurd cc
  counted (report q, reported (Err why)) h = absurd cc
  counted (report q, asked a) h = absurd cc
  counted (ask q, r) h = absurd cc

  -- there is one, or none was accepted
  last-or_none : (entries : List Entry) → ((q : Report) × LastAccepted code q entries) ⊎ NoneAccepted code entries
  last-or_none [] = inr tt
  last-or_none (e ∷ entries) = ⊎_elim (λ w. inl (w.0, later w.1)) (λ h. go (accepts code e) refl h) (last-or_none entries)
    where
      later : {q : Report} → LastAccepted code q entries → LastAccepted code q (e ∷ entries)
      later w = record { before = e ∷ w.before; line = w.line; since = w.since; made = ap (λ (es : List Entry). e ∷ es) w.made; its_code = w.its_code; none_since = w.none_since }

      go : (b : Bool) → accepts code e ≡ b → NoneAccepted code entries → ((q : Report) × LastAccepted code q (e ∷ entries)) ⊎ NoneAccepted code (e ∷ entries)
      go true i h =
          let w = counted e i in
          inl (w.q, record { before = []; line = w.line; since = entries; made = ap (λ (e : Entry). e ∷ entries) w.is; its_code = w.its; none_since = h })
      go false i h = inr (i, h)

  -- so what is heard is that of the last accepted report, ..
  pub heard-last : {level : ℤ} {time : ℕ} (entries : List Entry) → last_in code never_heard entries ≡ heard level time → (q : Report) × LastAccepted code q entries × (q.level ≡ level) × (q.time ≡ time)
  heard-last entries e =
      ⊎_elim
      (λ w. let i = heard_same (sym (last_is never_heard w.1) ∙ e) in (w.0, w.1, i.0, i.1))
      (λ h. let i = sym (last_none never_heard entries h) ∙ e in absurd cc)
      (last-or_none entries)

  -- .. and where nothing is heard, none was accepted
  pub never_none : (entries : List Entry) → last_in code never_heard entries ≡ never_heard → NoneAccepted code entries
  never_none entries e =
      ⊎_elim
      (λ w. let i = sym (last_is never_heard w.1) ∙ e in absurd cc)
      (λ h. h)
      (last-or_none entries)

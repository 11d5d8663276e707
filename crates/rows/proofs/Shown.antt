-- What a row shows, for readers: the level and the age of what asking answers, and neither where there is none. Assumes nothing.
use Rattle.std.proofs.Math.Path.{◌≡◌, sym, ap}
use Rattle.std.specs.Prelude.{refl, List, ℕ, ◌-◌, ◌≤◌, ◌<◌, Some, None, Ok, Err}
use Rattle.std.proofs.Common.{⊎_elim, lt-ltb, le-ltb, le-leb}
use Rattle.std.proofs.lemmas.Bool.{lt-leb}
use Rattle.std.proofs.Math.Bool.{true}
use Rattle.counting.proofs.TestLaws.{lt?}
use Rattle.directory.specs.Sizes.{headed}
use Rattle.directory.specs.Refusals.{first}
use Rattle.directory.specs.Calls.{open_of, lookup_of, show_of}
use Rattle.directory.proofs.EveryFile.{what_opens_has_its_header, each_stored_code_is_found_at_its_line, each_line_shows_its_code}
use Rattle.sign.specs.declared.Answer.TheVariants.{Never, Fresh, Stale}
use Rattle.sign.specs.Rules.{Last, Asked, heard, a_question, answered, limit_allowed}
use Rattle.sign.specs.Keeping.{Lists, fits, heard_at}
use Rattle.sign.specs.Calls.{lines_of, lines_in, gated, entered, on_line, ask_of}
use Rattle.sign.proofs.KeepingLaws.{heard-fits}
use Rattle.rows.specs.Rows.{seen_of}

-- what a row has to show where asking answers so: beside `fresh` the level of the line's last report and its age, which is within the limit; beside `stale` the level and the age, past the limit, that asking gives; and otherwise neither
abbrev pub Shows : Last → ℕ → ℕ → Asked → Type 0
Shows last moment limit (Ok (Some Never)) = seen_of last (Ok (Some Never)) moment ≡ None
Shows last moment limit (Ok (Some (Fresh level))) = (time : ℕ) × (last ≡ heard level time) × (time ≤ moment) × (moment - time ≤ limit) × (seen_of last (Ok (Some (Fresh level))) moment ≡ Some (record { level = level; age = moment - time }))
Shows last moment limit (Ok (Some (Stale level age))) = (limit < age) × (seen_of last (Ok (Some (Stale level age))) moment ≡ Some (record { level = level; age = age }))
Shows last moment limit (Ok None) = seen_of last (Ok None) moment ≡ None
Shows last moment limit (Err why) = seen_of last (Err why) moment ≡ None

-- ---- by the rule of one line

by_rule_lem : (last : Last) (moment limit : ℕ) → Shows last moment limit (answered last moment limit)
unfolding seen_of answered first
by_rule_lem None moment limit = refl
by_rule_lem (Some last) moment limit =
    let t = last.time in
    ⊎_elim
    (λ (m : moment < t). rw (lt-ltb moment t m))
    (λ (m : t ≤ moment).
    ⊎_elim
    (λ (a : limit < moment - t). rw (le-ltb moment t m, lt-leb (moment - t) limit a) (a, rw (le-leb t moment m)))
    (λ (a : moment - t ≤ limit). rw (le-ltb moment t m, le-leb (moment - t) limit a) (t, refl, m, a, rw (le-leb t moment m)))
    (lt? limit (moment - t)))
    (lt? moment t)

-- ---- a file that opens, and lists that fit it

module _ (f : List ℕ) (n r v : ℕ) (o : open_of f ≡ Ok (headed n r v)) (S : Lists) (fit : fits n S ≡ true) (moment limit : ℕ) (allowed : limit_allowed limit ≡ true) (line : ℕ) (below : line < n) where
  fitting : fits (lines_in f) S ≡ true
  unfolding lines_in
  fitting = rw (ap lines_of (what_opens_has_its_header f n r v o)) fit

  found : lookup_of f (show_of f line) ≡ Ok (Some line)
  found = rw (each_line_shows_its_code f n r v o line below).0 (each_stored_code_is_found_at_its_line f n r v o line below)

  -- asking for the code that a line shows goes by that line's last report
  asked : ask_of f (a_question (show_of f line) moment limit) S ≡ answered (heard_at S line) moment limit
  unfolding ask_of on_line entered gated first
  asked = rw (found, allowed, fitting) (ap (λ m. answered m moment limit) (sym (heard-fits S line n fit below)))

  -- so each row shows what asking for its code answers
  pub each_row_shows_what_asking_answers : Shows (heard_at S line) moment limit (ask_of f (a_question (show_of f line) moment limit) S)
  each_row_shows_what_asking_answers = rw asked (by_rule_lem (heard_at S line) moment limit)

-- What the rules of one line make of its last report, by what they give. Assumes nothing.
use Rattle.std.specs.Prelude.{◌≡◌, ◌≢◌, ◌↔◌, refl, Bool, true, false, cond, ℕ, ◌-◌, ◌≤◌, ◌<◌, leb, ℤ, List, Some, None, Ok, Err}
use Rattle.std.proofs.Common.{sym, ap, arith, lt-ltb, le-ltb, le-leb, ltb-false, leb-true, leb-false}
use Rattle.std.proofs.lemmas.Bool.{lt-leb, not-false}
use Rattle.directory.specs.declared.Reason.TheVariants.{EarlierNow}
use Rattle.directory.specs.declared.Refused.{Refused}
use Rattle.directory.specs.Refusals.{refused, Refusal, first, ok_unless}
use Rattle.directory.proofs.RefusalLaws.{unless_ok, unless_refused}
use Rattle.sign.specs.declared.Reading.{Reading}
use Rattle.sign.specs.declared.Answer.{Answer}
use Rattle.sign.specs.declared.Answer.TheVariants.{Never, Fresh, Stale}
use Rattle.sign.specs.Levels.{in_range}
use Rattle.sign.specs.Rules.{Last, heard, never_heard, before_last, report_refusals, told, judged, ask_refusals, answered}

-- a last report has one level and one time
pub heard_same : {a b : ℤ} {t u : ℕ} → heard a t ≡ heard b u → (a ≡ b) × (t ≡ u)
heard_same {a} {b} {t} {u} e =
    let i : ◌≡◌ {A = Reading} (record { level = a; time = t }) (record { level = b; time = u }) = cc in
    (ap (λ (r : Reading). r.level) i, ap (λ (r : Reading). r.time) i)

-- ---- a report that is accepted: its level is in range, and its time is not before the last

pub told-accepted : (m : Last) (line : ℕ) (z : ℤ) (t k : ℕ) → (told m line z t ≡ Ok (Some k)) ↔ ((line ≡ k) × (in_range z ≡ true) × (before_last t m ≡ false))
unfolding told
told-accepted m line z t k =
    let given = unless_ok (Some line) (report_refusals m z t) (Some k) in (
      λ e. let w = given.0 e in let i = w.0 in (cc, not-false _ w.1.0, w.1.1.0),
      λ w. given.1 (ap Some w.0, (rw w.1, (w.2, tt))),
    )

-- ---- what is told of a report is what its refusals give, with the line

module _ (m : Last) (line : ℕ) (z : ℤ) (t : ℕ) where
  abbrev rows : List Refusal
  rows = report_refusals m z t

  pub told_refused : (why : Refused) → ok_unless {A = Unit {0}} tt rows ≡ Err why → told m line z t ≡ Err why
  unfolding told
  told_refused why e = (unless_refused (Some line) rows why.reason why.place).1 ((unless_refused {A = Unit {0}} tt rows why.reason why.place).0 e)

  pub told_passed : ok_unless {A = Unit {0}} tt rows ≡ Ok tt → told m line z t ≡ Ok (Some line)
  unfolding told
  told_passed e = (unless_ok (Some line) rows (Some line)).1 (refl, ((unless_ok {A = Unit {0}} tt rows tt).0 e).1)

-- ---- a question

module _ (now limit : ℕ) where
  -- an answer is what the last report says, and now is not before it
  answered-judged : (m : Last) (a : Answer) → answered m now limit ≡ Ok (Some a) → (judged m now limit ≡ a) × (before_last now m ≡ false)
  unfolding answered
  answered-judged m a e = let w = (unless_ok (Some (judged m now limit)) (ask_refusals m now) (Some a)).0 e in let i = w.0 in (cc, w.1.0)

  pub answered_never : (m : Last) → (answered m now limit ≡ Ok (Some Never)) ↔ (m ≡ never_heard)
  unfolding answered first
  answered_never m = (λ e. to m (answered-judged m Never e).0, λ i. rw i)
    where
      to : (m : Last) → judged m now limit ≡ Never → m ≡ never_heard
      to None e = refl
      to (Some last) e = absurd (go (leb (now - last.time) limit) e)
        where
          go : (b : Bool) → cond b (Fresh last.level) (Stale last.level (now - last.time)) ≢ Never
          go true e = cc
          go false e = cc

  pub answered_fresh : (m : Last) (z : ℤ) → (answered m now limit ≡ Ok (Some (Fresh z))) ↔ ((t : ℕ) × (m ≡ heard z t) × (t ≤ now) × (now - t ≤ limit))
  unfolding answered first
  answered_fresh m z = (λ e. let w = answered-judged m (Fresh z) e in to m w.0 w.1, λ w. rw (w.1, le-ltb now w.0 w.2, le-leb (now - w.0) limit w.3))
    where
      to : (m : Last) → judged m now limit ≡ Fresh z → before_last now m ≡ false → (t : ℕ) × (m ≡ heard z t) × (t ≤ now) × (now - t ≤ limit)
      to None e h = absurd cc
      to (Some last) e h = go (leb (now - last.time) limit) refl e
        where
          go : (b : Bool) → leb (now - last.time) limit ≡ b → cond b (Fresh last.level) (Stale last.level (now - last.time)) ≡ Fresh z → (t : ℕ) × (◌≡◌ {A = Last} (Some last) (heard z t)) × (t ≤ now) × (now - t ≤ limit)
          go true p e = let i : last.level ≡ z = cc in (last.time, ap (λ (z : ℤ). heard z last.time) i, ltb-false now last.time h, leb-true (now - last.time) limit p)
          go false p e = absurd cc

  pub answered_stale : (m : Last) (z : ℤ) (age : ℕ) → (answered m now limit ≡ Ok (Some (Stale z age))) ↔ ((t : ℕ) × (m ≡ heard z t) × (t ≤ now) × (limit < age) × (age ≡ now - t))
  unfolding answered first
  answered_stale m z age = (λ e. let w = answered-judged m (Stale z age) e in to m w.0 w.1, λ w. let h : limit < now - w.0 = omega (arith, w.3, w.4) in rw (w.1, le-ltb now w.0 w.2, lt-leb (now - w.0) limit h, w.4))
    where
      to : (m : Last) → judged m now limit ≡ Stale z age → before_last now m ≡ false → (t : ℕ) × (m ≡ heard z t) × (t ≤ now) × (limit < age) × (age ≡ now - t)
      to None e h = absurd cc
      to (Some last) e h = go (leb (now - last.time) limit) refl e
        where
          go : (b : Bool) → leb (now - last.time) limit ≡ b → cond b (Fresh last.level) (Stale last.level (now - last.time)) ≡ Stale z age → (t : ℕ) × (◌≡◌ {A = Last} (Some last) (heard z t)) × (t ≤ now) × (limit < age) × (age ≡ now - t)
          go true p e = absurd cc
          go false p e =
              let i : last.level ≡ z = cc in
              let j : now - last.time ≡ age = cc in
              (last.time, ap (λ (z : ℤ). heard z last.time) i, ltb-false now last.time h, omega (arith, leb-false (now - last.time) limit p), sym j)

  -- a question before the last report is refused
  pub answered_early : (z : ℤ) (t : ℕ) → now < t → answered (heard z t) now limit ≡ refused EarlierNow 0
  unfolding answered first
  answered_early z t h = rw (lt-ltb now t h)

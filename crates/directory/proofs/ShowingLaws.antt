-- What showing gives on any bytes, as facts. Assumes nothing.
use Rattle.std.specs.Prelude.{◌≡◌, refl, ◌⊎◌, ◌≢◌, ◌↔◌, Bool, true, ◌||◌, List, [], ℕ, ◌+◌, ◌≤◌, ◌<◌, ltb}
use Rattle.std.proofs.Math.Path.{sym, ap}
use Rattle.std.proofs.Common.{◌∙◌, inl, inr, arith, lt-ltb, le-ltb}
use Rattle.std.proofs.Math.Logic.{⊎_elim}
use Rattle.std.proofs.Math.Bool.{false, not}
use Rattle.std.proofs.Math.ListN.{length}
use Rattle.counting.proofs.TestLaws.{lt?, or_second, or_none}
use Rattle.directory.specs.declared.Part.{Part}
use Rattle.directory.specs.Sizes.{Header}
use Rattle.directory.specs.Codes.{wrong_length}
use Rattle.directory.proofs.CodesLaws.{length_wrong, length-right}
use Rattle.directory.specs.Kind.{Kind}
use Rattle.directory.specs.Refusals.{NoneApplies}
use Rattle.directory.proofs.RefusalLaws.{first_none, given_first, given_or_none}
use Rattle.directory.specs.File.{header_in, code_at, key_length, stored_code}
use Rattle.directory.specs.Opening.{header_refusals}
use Rattle.directory.proofs.WholeLaws.{framed, framed_back}
use Rattle.directory.proofs.KeyLaws.{key_inside, stored-length}
use Rattle.directory.specs.Showing.{empty_part, key_part, shown_part, shown, ShowsNothing, refused, past_last, length_zero, length_over, ShowsCode}

module _ (K : Kind) (f : List ℕ) (l : ℕ) where
  open K use {positions}

  abbrev h : Header
  h = header_in f

  abbrev k : ℕ
  k = key_length K h f l

  -- each line shows nothing or a code
  pub nothing-or-code : ShowsNothing K f l ⊎ ShowsCode K f l
  nothing-or-code = ⊎_elim (λ w. inl (refused w.0 w.1 w.2)) (λ c. ⊎_elim (λ (b : l < h.n). go c b (wrong_length positions k) refl) (λ b. inl (past_last b)) (lt? l h.n)) (given_or_none (header_refusals K h f))
    where
      go : NoneApplies (header_refusals K h f) → l < h.n → (t : Bool) → wrong_length positions k ≡ t → ShowsNothing K f l ⊎ ShowsCode K f l
      go c b true t = inl (⊎_elim length_zero length_over ((length_wrong positions k).0 t))
      go c b false t = let w = (length-right positions k).0 t in inr (record { framed = framed K h f c; below = b; some = w.0; most = w.1 })

  -- ---- nothing

  key-nothing : not (ltb l h.n) || wrong_length positions k ≡ true → shown_part K f l ≡ empty_part
  unfolding shown_part key_part
  key-nothing t = ⊎_elim (λ w. given_first _ _ w.2) (λ c. first_none _ _ _ c ∙ rw t) (given_or_none (header_refusals K h f))

  pub shown-nothing : ShowsNothing K f l → shown_part K f l ≡ empty_part
  unfolding shown_part
  shown-nothing (refused number place g) = given_first _ _ g
  shown-nothing (past_last b) = key-nothing (rw (le-ltb l h.n b))
  shown-nothing (length_zero e) = key-nothing (or_second (not (ltb l h.n)) (wrong_length positions k) ((length_wrong positions k).1 (inl e)))
  shown-nothing (length_over o) = key-nothing (or_second (not (ltb l h.n)) (wrong_length positions k) ((length_wrong positions k).1 (inr o)))

  -- ---- a code

  module _ (w : ShowsCode K f l) where
    pub shown-part : shown_part K f l ≡ record { start = code_at K h l; size = k }
    unfolding shown_part key_part
    shown-part =
        let t : not (ltb l h.n) || wrong_length positions k ≡ false = or_none (ap not (lt-ltb l h.n w.below)) ((length-right positions k).1 (w.some, w.most)) in
        first_none _ _ _ (framed_back K h f w.framed) ∙ rw t

    pub shown-stored : shown K f l ≡ stored_code K h f l
    unfolding shown stored_code
    shown-stored = rw shown-part

    pub shown-length : length (shown K f l) ≡ k
    shown-length = ap length shown-stored ∙ stored-length K h f w.framed.size l w.below w.most

  -- ---- either way the part lies within the file

  pub part_within : (shown_part K f l).start + (shown_part K f l).size ≤ length f
  part_within = ⊎_elim (λ w. rw (shown-nothing w) (omega arith)) (λ w. rw (shown-part w) (omega (arith, w.most, w.framed.size, key_inside K h l w.below))) nothing-or-code

  -- ---- so the two cannot be confused

  pub part_empty : (shown_part K f l ≡ empty_part) ↔ ShowsNothing K f l
  part_empty = (λ e. ⊎_elim (λ w. w) (λ w. let i : k ≡ 0 = ap (λ (p : Part). p.size) (sym (shown-part w) ∙ e) in absurd (omega (arith, w.some))) nothing-or-code, shown-nothing)

  pub shown_empty : (shown K f l ≡ []) ↔ ShowsNothing K f l
  unfolding shown
  shown_empty = (λ e. ⊎_elim (λ w. w) (λ w. let i : k ≡ 0 = sym (shown-length w) ∙ ap length e in absurd (omega (arith, w.some))) nothing-or-code, λ w. rw (shown-nothing w))

  pub shown_bytes : shown K f l ≢ [] → (1 ≤ length (shown K f l)) × (length (shown K f l) ≤ positions)
  shown_bytes d = ⊎_elim (λ w. absurd (d (shown_empty.1 w))) (λ w. rw (shown-length w) (w.some, w.most)) nothing-or-code

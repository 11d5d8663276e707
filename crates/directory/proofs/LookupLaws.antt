-- What looking up gives on any bytes, as facts. Assumes nothing.
use Rattle.std.proofs.Math.Path.{◌≡◌, refl}
use Rattle.std.proofs.Common.{sym, ap, ◌∙◌, eqb-true, eq-eqb}
use Rattle.std.specs.Prelude.{Ok, Some, None, ◌⊎◌, ◌↔◌, Bool, List, ℕ, ◌<◌, eqb}
use Rattle.std.proofs.Math.Logic.{inl, inr, ⊎_elim}
use Rattle.std.proofs.Math.Bool.{true, false, cond}
use native.Mathlib.Omega.{arith}
use Rattle.std.proofs.Math.ListN.{length}
use Rattle.counting.proofs.TestLaws.{and_left, and_right, and_both}
use Rattle.counting.proofs.ListsLaws.{same_equal, same_self}
use Rattle.directory.specs.declared.Lead.{Lead}
use Rattle.directory.specs.declared.Lead.TheVariants.{Nowhere, ToLine, PastLast}
use Rattle.directory.specs.Sizes.{Header}
use Rattle.directory.specs.Kind.{Kind, vertex}
use Rattle.directory.specs.Refusals.{refused, first, NoneApplies, Given}
use Rattle.directory.proofs.RefusalLaws.{first_none, first_is, first_refused, refused_own}
use Rattle.directory.proofs.LeadLaws.{lead_below}
use Rattle.directory.specs.File.{header_in, weight_in, table_in, key_length, stored_code, lead_in}
use Rattle.directory.specs.LookingUp.{lookup_refusals, holds_code, found, lookup}
use Rattle.directory.specs.declared.Reason.{Reason}
use Rattle.directory.specs.declared.Reason.TheVariants.{WrongRank}
use Rattle.directory.specs.Answers.{Found}

module _ (K : Kind) (h : Header) (f t : List ℕ) where
  -- ---- the KY record of line l has the code's length and bytes

  pub holds-code : (l : ℕ) → holds_code K h f t l ≡ true → (key_length K h f l ≡ length t) × (stored_code K h f l ≡ t)
  unfolding holds_code
  holds-code l e = (eqb-true _ _ (and_left (eqb (key_length K h f l) (length t)) _ e), same_equal _ t (and_right (eqb (key_length K h f l) (length t)) _ e))

  pub code_holds : (l : ℕ) → key_length K h f l ≡ length t → stored_code K h f l ≡ t → holds_code K h f t l ≡ true
  unfolding holds_code
  code_holds l e s = and_both (eq-eqb _ _ e) (rw s (same_self t))

  -- ---- what is found where the code leads

  pub found_at : (d : Lead) (l : ℕ) → found K h f t d ≡ Ok (Some l) → (d ≡ ToLine l) × (holds_code K h f t l ≡ true)
  unfolding found
  found_at Nowhere l e = absurd (let z : ◌≡◌ {A = ℕ} 0 1 = cc in omega arith)
  found_at (ToLine k) l e = go (holds_code K h f t k) refl e
    where
      go : (b : Bool) → holds_code K h f t k ≡ b → cond {A = Found} b (Ok (Some k)) (Ok None) ≡ Ok (Some l) → (ToLine k ≡ ToLine l) × (holds_code K h f t l ≡ true)
      go true q e = let i : k ≡ l = cc in (ap ToLine i, rw (← i) q)
      go false q e = absurd (let z : ◌≡◌ {A = ℕ} 0 1 = cc in omega arith)
  found_at (PastLast b) l e = absurd (let z : ◌≡◌ {A = ℕ} 0 1 = cc in omega arith)

  pub found_here : {d : Lead} {l : ℕ} → d ≡ ToLine l → holds_code K h f t l ≡ true → found K h f t d ≡ Ok (Some l)
  unfolding found
  found_here e q = rw (e, q)

  pub found_nowhere : {d : Lead} → d ≡ Nowhere → found K h f t d ≡ Ok None
  unfolding found
  found_nowhere e = rw e

  pub found-other : {d : Lead} {l : ℕ} → d ≡ ToLine l → holds_code K h f t l ≡ false → found K h f t d ≡ Ok None
  unfolding found
  found-other e q = rw (e, q)

  pub found_past : (d : Lead) (k : Reason) (p : ℕ) → found K h f t d ≡ refused k p → (k ≡ WrongRank) × (d ≡ PastLast p)
  unfolding found
  found_past Nowhere k p e = absurd (let z : ◌≡◌ {A = ℕ} 0 1 = cc in omega arith)
  found_past (ToLine l) k p e = absurd (go (holds_code K h f t l) e)
    where
      go : (b : Bool) → cond {A = Found} b (Ok (Some l)) (Ok None) ≡ refused k p → ⊥
      go true e = let z : ◌≡◌ {A = ℕ} 0 1 = cc in omega arith
      go false e = let z : ◌≡◌ {A = ℕ} 0 1 = cc in omega arith
  found_past (PastLast b) k p e = let w = refused_own WrongRank b k p e in (sym w.0, ap PastLast w.1)

  pub past_found : {d : Lead} {k : Reason} {p : ℕ} → k ≡ WrongRank → d ≡ PastLast p → found K h f t d ≡ refused k p
  unfolding found
  past_found a e = rw (e, a)

  -- a line that it leads to is below n
  pub lead_in-below : (l : ℕ) → lead_in K h f t ≡ ToLine l → l < h.n
  unfolding lead_in
  lead_in-below = lead_below h (table_in K h f) (vertex K h.v (weight_in K h f) t)

-- ---- the answer

module _ (K : Kind) (f t : List ℕ) where
  abbrev h : Header
  h = header_in f

  -- a line exactly if no refusal applies, the code leads to it, and the KY record there has the code's length and bytes
  pub lookup-line : (l : ℕ) → (lookup K f t ≡ Ok (Some l)) ↔ (NoneApplies (lookup_refusals K h f t) × (lead_in K h f t ≡ ToLine l) × (key_length K h f l ≡ length t) × (stored_code K h f l ≡ t))
  unfolding lookup
  lookup-line l = (there, λ w. first_none _ refused _ w.0 ∙ found_here K h f t w.1 (code_holds K h f t l w.2 w.3))
    where
      there : first (found K h f t (lead_in K h f t)) refused (lookup_refusals K h f t) ≡ Ok (Some l) → NoneApplies (lookup_refusals K h f t) × (lead_in K h f t ≡ ToLine l) × (key_length K h f l ≡ length t) × (stored_code K h f l ≡ t)
      there e =
          let w = first_is _ refused (Ok (Some l)) (λ k p i. let z : ◌≡◌ {A = ℕ} 0 1 = cc in omega arith) (lookup_refusals K h f t) e in
          let a = found_at K h f t (lead_in K h f t) l w.0 in
          let b = holds-code K h f t l a.1 in
          (w.1, a.0, b.0, b.1)

  -- such a line is below n
  pub lookup-below : (l : ℕ) → lookup K f t ≡ Ok (Some l) → l < h.n
  lookup-below l e = lead_in-below K h f t l ((lookup-line l).0 e).1

  -- a refusal exactly if the table gives it, or no row applies, the reason is 13's and the code leads past the last line by that rank entry
  pub lookup_refused : (k : Reason) (p : ℕ) → (lookup K f t ≡ refused k p) ↔ (Given (lookup_refusals K h f t) k p ⊎ (NoneApplies (lookup_refusals K h f t) × (k ≡ WrongRank) × (lead_in K h f t ≡ PastLast p)))
  unfolding lookup
  lookup_refused k p =
      let w = first_refused (found K h f t (lead_in K h f t)) refused refused_own (lookup_refusals K h f t) k p in (
        λ e. ⊎_elim inl (λ b. let c = found_past K h f t (lead_in K h f t) k p b.1 in inr (b.0, c.0, c.1)) (w.0 e),
        λ e. w.1 (⊎_elim inl (λ b. inr (b.0, past_found K h f t b.1 b.2)) e),
      )

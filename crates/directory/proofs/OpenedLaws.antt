-- A file that is whole: where codes lead in it, and what looking up and showing give. Assumes nothing.
use Rattle.std.proofs.Math.Path.{◌≡◌, refl, sym}
use Rattle.std.proofs.Common.{ap, ◌∙◌, arith}
use Rattle.std.specs.Prelude.{Ok, Some, None, ◌⊎◌, ◌≢◌, ◌↔◌, Bool, ℕ, ◌≤◌, ◌<◌}
use Rattle.std.proofs.Math.Logic.{inl, inr, ⊎_elim}
use Rattle.std.proofs.Math.Bool.{true, false}
use mathlib.Core.List.{List, []}
use Rattle.std.proofs.Math.ListN.{length}
use Rattle.counting.proofs.TestLaws.{never_true}
use Rattle.directory.specs.declared.Lead.{Lead}
use Rattle.directory.specs.declared.Lead.TheVariants.{Nowhere, ToLine, PastLast}
use Rattle.directory.specs.Sizes.{Header}
use Rattle.directory.specs.Codes.{wrong_length}
use Rattle.directory.proofs.CodesLaws.{length_wrong, length-right}
use Rattle.directory.specs.Kind.{Kind, vertex}
use Rattle.directory.specs.Refusals.{refused, NoneApplies}
use Rattle.directory.proofs.RefusalLaws.{none_both, first_none, first_past, first_one, refused_own}
use Rattle.directory.proofs.LeadLaws.{lead_below}
use Rattle.directory.specs.File.{header_in, weight_in, table_in, key_length, stored_code, lead_in}
use Rattle.directory.specs.Opening.{header_refusals}
use Rattle.directory.specs.Whole.{Whole}
use Rattle.directory.proofs.WholeLaws.{framed_back, leads_back, leads_never_past}
use Rattle.directory.proofs.KeyLaws.{stored-length}
use Rattle.directory.specs.LookingUp.{lookup_refusals, found, lookup}
use Rattle.directory.proofs.LookupLaws.{holds-code, found_past, lookup-line, lookup-below}
use Rattle.directory.specs.Showing.{shown, past_last}
use Rattle.directory.proofs.ShowingLaws.{shown-stored, shown_empty}
use Rattle.directory.specs.declared.Reason.{Reason}
use Rattle.directory.specs.declared.Reason.TheVariants.{WrongCode}

-- ---- where codes lead

module _ (K : Kind) (h : Header) (f : List ℕ) (w : Whole K h f) where
  open K use {positions}
  open h use {n, v}

  -- a code leads to a line below n, or nowhere
  pub leads_below : (t : List ℕ) → (lead_in K h f t ≡ Nowhere) ⊎ ((l : ℕ) × (l < n) × (lead_in K h f t ≡ ToLine l))
  unfolding lead_in
  leads_below t = go (lead_in K h f t) refl
    where
      go : (d : Lead) → lead_in K h f t ≡ d → (d ≡ Nowhere) ⊎ ((l : ℕ) × (l < n) × (d ≡ ToLine l))
      go Nowhere e = inl refl
      go (ToLine l) e = inr (l, lead_below h (table_in K h f) (vertex K v (weight_in K h f) t) l e, refl)
      go (PastLast b) e = absurd (leads_never_past K h f w.framed.sizes w.table t b e)

  -- each stored code has 1 to 32 bytes, ..
  pub stored-size : (l : ℕ) → l < n → length (stored_code K h f l) ≡ key_length K h f l
  stored-size l m = stored-length K h f w.framed.size l m (w.keys l m).most

  pub stored_some : (l : ℕ) → l < n → 1 ≤ length (stored_code K h f l)
  stored_some l m = rw (stored-size l m) (w.keys l m).some

  pub stored_most : (l : ℕ) → l < n → length (stored_code K h f l) ≤ positions
  stored_most l m = rw (stored-size l m) (w.keys l m).most

  -- .. leads to its own line, ..
  pub stored_leads : (l : ℕ) → l < n → lead_in K h f (stored_code K h f l) ≡ ToLine l
  stored_leads l m = leads_back K h f w.framed.sizes w.table _ l (w.homes l m)

  -- .. and differs from those of the other lines
  pub stored_own : (k l : ℕ) → k < n → l < n → stored_code K h f k ≡ stored_code K h f l → k ≡ l
  stored_own k l a b e = let i : ToLine k ≡ ToLine l = sym (stored_leads k a) ∙ ap (lead_in K h f) e ∙ stored_leads l b in cc

  -- what is found of a code that no line stores
  pub found_unknown : (t : List ℕ) → ((l : ℕ) → l < n → stored_code K h f l ≢ t) → found K h f t (lead_in K h f t) ≡ Ok None
  unfolding found
  found_unknown t d = ⊎_elim (λ e. rw e) (λ c. rw (c.2, never_true _ (λ q. d c.0 c.1 (holds-code K h f t c.0 q).1))) (leads_below t)

-- ---- looking up and showing

module _ (K : Kind) (f : List ℕ) (w : Whole K (header_in f) f) where
  open K use {positions}

  abbrev h : Header
  h = header_in f

  none_applies : (t : List ℕ) → 1 ≤ length t → length t ≤ positions → NoneApplies (lookup_refusals K h f t)
  unfolding lookup_refusals
  none_applies t a b = none_both (header_refusals K h f) _ (framed_back K h f w.framed) ((length-right positions (length t)).1 (a, b), tt)

  -- a line is given exactly to the code that is stored there
  pub lookup-stored : (t : List ℕ) (l : ℕ) → (lookup K f t ≡ Ok (Some l)) ↔ ((l < h.n) × (stored_code K h f l ≡ t))
  lookup-stored t l = (λ e. (lookup-below K f t l e, ((lookup-line K f t l).0 e).3), λ c. rw (← c.1) (own c.0))
    where
      own : l < h.n → lookup K f (stored_code K h f l) ≡ Ok (Some l)
      own m = (lookup-line K f (stored_code K h f l) l).1 (none_applies _ (stored_some K h f w l m) (stored_most K h f w l m), stored_leads K h f w l m, sym (stored-size K h f w l m), refl)

  -- a refusal is 16, and is given exactly to a code that is empty or over 32 bytes
  pub lookup_sixteen : (t : List ℕ) → wrong_length positions (length t) ≡ true → lookup K f t ≡ refused WrongCode 0
  unfolding lookup lookup_refusals
  lookup_sixteen t u = first_past _ refused (header_refusals K h f) _ (framed_back K h f w.framed) ∙ first_one _ refused _ [] u

  pub lookup_wrong : (t : List ℕ) (k : Reason) (p : ℕ) → (lookup K f t ≡ refused k p) ↔ ((k ≡ WrongCode) × (p ≡ 0) × ((length t ≡ 0) ⊎ (positions < length t)))
  unfolding lookup
  lookup_wrong t k p = (λ e. there e (wrong_length positions (length t)) refl, λ c. lookup_sixteen t ((length_wrong positions (length t)).1 c.2) ∙ cc)
    where
      there : lookup K f t ≡ refused k p → (b : Bool) → wrong_length positions (length t) ≡ b → (k ≡ WrongCode) × (p ≡ 0) × ((length t ≡ 0) ⊎ (positions < length t))
      there e true u = let i = refused_own k p WrongCode 0 (sym e ∙ lookup_sixteen t u) in (i.0, i.1, (length_wrong positions (length t)).0 u)
      there e false u =
          let c = (length-right positions (length t)).0 u in
          let d = found_past K h f t (lead_in K h f t) k p (sym (first_none _ refused _ (none_applies t c.0 c.1)) ∙ e) in
          absurd (leads_never_past K h f w.framed.sizes w.table t p d.1)

  -- every other code is unknown
  pub lookup_unknown : (t : List ℕ) → (lookup K f t ≡ Ok None) ↔ ((1 ≤ length t) × (length t ≤ positions) × ((l : ℕ) → l < h.n → stored_code K h f l ≢ t))
  unfolding lookup
  lookup_unknown t = (λ e. there e (wrong_length positions (length t)) refl, λ c. first_none _ refused _ (none_applies t c.0 c.1) ∙ found_unknown K h f w t c.2)
    where
      there : lookup K f t ≡ Ok None → (b : Bool) → wrong_length positions (length t) ≡ b → (1 ≤ length t) × (length t ≤ positions) × ((l : ℕ) → l < h.n → stored_code K h f l ≢ t)
      there e true u = absurd (let i = lookup_sixteen t u in let z : ◌≡◌ {A = ℕ} 0 1 = cc in omega arith)
      there e false u =
          let c = (length-right positions (length t)).0 u in
          (c.0, c.1, λ l m s. let i = (lookup-stored t l).1 (m, s) in let z : ◌≡◌ {A = ℕ} 0 1 = cc in omega arith)

  -- a line below n shows the code that is stored there, any other nothing
  pub shows_stored : (l : ℕ) → l < h.n → shown K f l ≡ stored_code K h f l
  shows_stored l m = shown-stored K f l (record { framed = w.framed; below = m; some = (w.keys l m).some; most = (w.keys l m).most })

  pub shows_none : (l : ℕ) → h.n ≤ l → shown K f l ≡ []
  shows_none l m = (shown_empty K f l).1 (past_last m)

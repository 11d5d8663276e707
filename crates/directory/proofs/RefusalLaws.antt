-- The first row that applies: what a table of refusals gives, and when, for any answer and any table. Assumes nothing.
use Rattle.std.specs.Prelude.{◌≡◌, ◌⊎◌, ◌≢◌, ◌↔◌, Bool, true, false, ℕ, Result, Ok}
use Rattle.std.proofs.Math.Path.{refl}
use Rattle.std.proofs.Common.{sym, ap, ◌∙◌, inl, inr, ⊎_elim, arith}
use mathlib.Core.List.{List, [], ◌∷◌, ◌++◌, append_assoc}
use Rattle.directory.specs.declared.Reason.{Reason}
use Rattle.directory.specs.declared.Refused.{Refused}
use Rattle.directory.specs.Refusals.{refused_at, refused, Refusal, first, ok_unless, NoneApplies, Given}

-- ---- tables of which no row applies

pub none_left : (table more : List Refusal) → NoneApplies (table ++ more) → NoneApplies table
none_left [] more h = tt
none_left (row ∷ table) more h = (h.0, none_left table more h.1)

pub none_right : (table more : List Refusal) → NoneApplies (table ++ more) → NoneApplies more
none_right [] more h = h
none_right (row ∷ table) more h = none_right table more h.1

pub none_both : (table more : List Refusal) → NoneApplies table → NoneApplies more → NoneApplies (table ++ more)
none_both [] more h k = k
none_both (row ∷ table) more h k = (h.0, none_both table more h.1 k)

-- ---- what a table gives

-- a row that applies, at the start
given_here : (row : Refusal) (after : List Refusal) → row.applies ≡ true → Given (row ∷ after) row.reason row.place
given_here row after t = record { before = []; row = row; after = after; rows = refl; passed = tt; applies = t; its_reason = refl; its_place = refl }

-- what a table gives, it gives behind rows of which none applies, ..
pub given_later : (table : List Refusal) {more : List Refusal} {k : Reason} {p : ℕ} → NoneApplies table → Given more k p → Given (table ++ more) k p
given_later table {more} h g =
    record {
      before = table ++ g.before;
      row = g.row;
      after = g.after;
      rows = ap (λ m. table ++ m) g.rows ∙ sym (append_assoc table g.before _);
      passed = none_both table g.before h g.passed;
      applies = g.applies;
      its_reason = g.its_reason;
      its_place = g.its_place;
    }

-- .. and before any rows
pub given_more : {table : List Refusal} (more : List Refusal) {k : Reason} {p : ℕ} → Given table k p → Given (table ++ more) k p
given_more more g =
    record {
      before = g.before;
      row = g.row;
      after = g.after ++ more;
      rows = ap (λ m. m ++ more) g.rows ∙ append_assoc g.before _ more;
      passed = g.passed;
      applies = g.applies;
      its_reason = g.its_reason;
      its_place = g.its_place;
    }

-- a table gives a reason and place, or none of its rows applies
pub given_or_none : (table : List Refusal) → ((k : Reason) × (p : ℕ) × Given table k p) ⊎ NoneApplies table
given_or_none [] = inr tt
given_or_none (row ∷ table) = go row.applies refl (given_or_none table)
  where
    go : (b : Bool) → row.applies ≡ b → ((k : Reason) × (p : ℕ) × Given table k p) ⊎ NoneApplies table → ((k : Reason) × (p : ℕ) × Given (row ∷ table) k p) ⊎ NoneApplies (row ∷ table)
    go true t w = inl (row.reason, row.place, given_here row table t)
    go false t (inl w) = inl (w.0, w.1, given_later (row ∷ []) (t, tt) w.2)
    go false t (inr w) = inr (t, w)

-- ---- what `first` gives, in any answer

module _ {A : Type 0} (ok : A) (refuse : Reason → ℕ → A) where
  pub first_none : (table : List Refusal) → NoneApplies table → first ok refuse table ≡ ok
  unfolding first
  first_none [] h = refl
  first_none (row ∷ table) h = rw h.0 (first_none table h.1)

  -- rows of which none applies are passed
  pub first_past : (table more : List Refusal) → NoneApplies table → first ok refuse (table ++ more) ≡ first ok refuse more
  unfolding first
  first_past [] more h = refl
  first_past (row ∷ table) more h = rw h.0 (first_past table more h.1)

  pub first_one : (row : Refusal) (after : List Refusal) → row.applies ≡ true → first ok refuse (row ∷ after) ≡ refuse row.reason row.place
  unfolding first
  first_one row after t = rw t

  -- the reason and place that the table gives are those of the refusal
  pub given_first : {table : List Refusal} {k : Reason} {p : ℕ} → Given table k p → first ok refuse table ≡ refuse k p
  given_first {table} {k} {p} g = rw g.rows (first_past g.before (g.row ∷ g.after) g.passed ∙ first_one g.row g.after g.applies ∙ cc)

  -- what is no refusal is `ok`, and no row applies
  pub first_is : (x : A) → ((k : Reason) (p : ℕ) → refuse k p ≢ x) → (table : List Refusal) → first ok refuse table ≡ x → (ok ≡ x) × NoneApplies table
  first_is x d table e = ⊎_elim (λ w. absurd (d _ _ (sym (given_first w.2) ∙ e))) (λ w. (sym (first_none table w) ∙ e, w)) (given_or_none table)

  -- where no two refusals are one answer, ..
  module _ (own : (i : Reason) (q : ℕ) (k : Reason) (p : ℕ) → refuse i q ≡ refuse k p → (i ≡ k) × (q ≡ p)) where
    -- .. a refusal is that of the table, or no row applies and `ok` itself is one; ..
    pub first_refused : (table : List Refusal) (k : Reason) (p : ℕ) → (first ok refuse table ≡ refuse k p) ↔ (Given table k p ⊎ (NoneApplies table × (ok ≡ refuse k p)))
    first_refused table k p = (λ e. ⊎_elim (λ w. inl (there e w)) (λ w. inr (w, sym (first_none table w) ∙ e)) (given_or_none table), ⊎_elim given_first (λ w. first_none table w.0 ∙ w.1))
      where
        there : first ok refuse table ≡ refuse k p → (i : Reason) × (q : ℕ) × Given table i q → Given table k p
        there e w = let s = own w.0 w.1 k p (sym (given_first w.2) ∙ e) in rw (← s.0, ← s.1) w.2

    -- .. and where `ok` is none, it is that of the table
    pub first_given : ((k : Reason) (p : ℕ) → ok ≢ refuse k p) → (table : List Refusal) (k : Reason) (p : ℕ) → (first ok refuse table ≡ refuse k p) ↔ Given table k p
    first_given d table k p = (λ e. ⊎_elim (λ g. g) (λ w. absurd (d k p w.1)) ((first_refused table k p).0 e), given_first)

-- what is made of an answer is made of its refusals and of its success
pub first-after : {A B : Type 0} (g : A → B) (ok : A) (refuse : Reason → ℕ → A) (table : List Refusal) → g (first ok refuse table) ≡ first (g ok) (λ k p. g (refuse k p)) table
first-after g ok refuse table =
    ⊎_elim
    (λ w. ap g (given_first ok refuse w.2) ∙ sym (given_first (g ok) (λ k p. g (refuse k p)) w.2))
    (λ c. ap g (first_none ok refuse table c) ∙ sym (first_none (g ok) (λ k p. g (refuse k p)) table c))
    (given_or_none table)

-- ---- what `ok_unless` gives

-- no two refusals are one answer, and none is a success
pub refused_own : {A : Type 0} (i : Reason) (q : ℕ) (k : Reason) (p : ℕ) → ◌≡◌ {A = Result A Refused} (refused i q) (refused k p) → (i ≡ k) × (q ≡ p)
refused_own i q k p e = let w : refused_at i q ≡ refused_at k p = cc in (ap (λ (r : Refused). r.reason) w, ap (λ (r : Refused). r.place) w)

pub ok_not_refused : {A : Type 0} (x : A) (k : Reason) (p : ℕ) → ◌≢◌ {A = Result A Refused} (Ok x) (refused k p)
ok_not_refused x k p e = let z : ◌≡◌ {A = ℕ} 0 1 = cc in omega arith

module _ {A : Type 0} (x : A) (table : List Refusal) where
  -- success exactly if no row applies, ..
  pub unless_ok : (y : A) → (ok_unless x table ≡ Ok y) ↔ ((x ≡ y) × NoneApplies table)
  unless_ok y = (there, λ w. first_none (Ok x) refused table w.1 ∙ ap Ok w.0)
    where
      there : ok_unless x table ≡ Ok y → (x ≡ y) × NoneApplies table
      there e = let w = first_is (Ok x) refused (Ok y) (λ k p i. ok_not_refused y k p (sym i)) table e in let o = w.0 in (cc, w.1)

  -- .. and otherwise the refusal that the table gives
  pub unless_refused : (k : Reason) (p : ℕ) → (ok_unless x table ≡ refused k p) ↔ Given table k p
  unless_refused = first_given (Ok x) refused refused_own (ok_not_refused x) table

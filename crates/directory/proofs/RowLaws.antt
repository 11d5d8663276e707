-- The row that a table of refusals gives: what every row passes it passes too, and its reason alone tells which it is where no other row has it. Assumes nothing.
use Rattle.std.specs.Prelude.{◌≡◌, refl, ◌≢◌, ◌↔◌, Bool, true, false, not, List, [], ◌∷◌, ◌++◌, ℕ, eqb, length, get_or}
use Rattle.std.proofs.Common.{sym, ap, ◌∙◌, ⊎_elim, arith, length-append}
use Rattle.std.proofs.Math.Seq.{get_or-append_seam}
use Rattle.std.proofs.lemmas.Bool.{eqb-false, not-true}
use Rattle.counting.proofs.TestLaws.{clash}
use Rattle.counting.specs.Lists.{every}
use Rattle.counting.proofs.ListsLaws.{every_passes}
use Rattle.directory.specs.declared.Reason.{Reason}
use Rattle.directory.specs.declared.Reason.TheVariants.{WrongArity}
use Rattle.directory.specs.Refusals.{number_of, Refusal, NoneApplies, Given}
use Rattle.directory.proofs.RefusalLaws.{none_right, none_both, given_later, given_more, given_or_none, given_first}

-- a test that every row passes
pub given_passes : (test : Refusal → Bool) {table : List Refusal} {k : Reason} {p : ℕ} → every test table ≡ true → (g : Given table k p) → test g.row ≡ true
given_passes test all g =
    let i = length g.before in
    let at : get_or (g.before ++ g.row ∷ g.after) i g.row ≡ g.row = get_or-append_seam g.before g.row g.after g.row in
    rw (← at) (every_passes test (g.before ++ g.row ∷ g.after) (rw (← g.rows) all) i g.row (rw (length-append g.before (g.row ∷ g.after)) (omega arith)))

-- a table gives one reason and place, ..
pub given_only : {table : List Refusal} {i k : Reason} {q p : ℕ} → Given table i q → Given table k p → (i ≡ k) × (q ≡ p)
given_only g h = (sym (given_first WrongArity (λ k p. k) g) ∙ given_first WrongArity (λ k p. k) h, sym (given_first 0 (λ k p. p) g) ∙ given_first 0 (λ k p. p) h)

-- .. and none where no row applies
given_not_none : {table : List Refusal} {k : Reason} {p : ℕ} → Given table k p → NoneApplies table → ⊥
given_not_none g c = clash g.applies (none_right g.before _ (rw g.rows at c)).0

-- ---- the reasons of a table

-- a row has another reason than k
unfoldable pub another : Reason → Refusal → Bool
another k row = not (eqb (number_of row.reason) (number_of k))

-- where every row has, that reason is not given
another_given : (k : Reason) {table : List Refusal} {i : Reason} {q : ℕ} → every (another k) table ≡ true → Given table i q → i ≢ k
unfolding another
another_given k all g e = eqb-false _ (number_of k) (not-true _ (given_passes (another k) all g)) (ap number_of (g.its_reason ∙ e))

-- so a reason that one row alone has is given, with the place p, exactly if no row before it applies, it applies, and its place is p
pub given_row : (before : List Refusal) (row : Refusal) (after : List Refusal) (p : ℕ) → every (another row.reason) before ≡ true → every (another row.reason) after ≡ true → Given (before ++ row ∷ after) row.reason p ↔ (NoneApplies before × (row.applies ≡ true) × (row.place ≡ p))
given_row before row after p left right = (
  λ g. ⊎_elim (λ w. absurd (another_given _ left w.2 (given_only (given_more (row ∷ after) w.2) g).0)) (λ c. there g c row.applies refl) (given_or_none before),
  λ w. record { before = before; row = row; after = after; rows = refl; passed = w.0; applies = w.1; its_reason = refl; its_place = w.2 },
)
  where
    itself : row.applies ≡ true → Given (row ∷ after) row.reason row.place
    itself t = record { before = []; row = row; after = after; rows = refl; passed = tt; applies = t; its_reason = refl; its_place = refl }

    there : Given (before ++ row ∷ after) row.reason p → NoneApplies before → (b : Bool) → row.applies ≡ b → NoneApplies before × (row.applies ≡ true) × (row.place ≡ p)
    there g c true t = (c, t, (given_only (given_later before c (itself t)) g).1)
    there g c false t =
        absurd
        (⊎_elim
        (λ w. another_given _ right w.2 (given_only (given_later before c (given_later (row ∷ []) (t, tt) w.2)) g).0)
        (λ d. given_not_none g (none_both before _ c (t, d)))
        (given_or_none after))

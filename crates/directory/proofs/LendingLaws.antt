-- The refusals 1 to 7 of building as facts: for each test what it tests, and back; and the places of 5 and 7. Assumes nothing.
use Rattle.std.specs.Prelude.{◌≡◌, refl, ◌≢◌, ◌↔◌, Bool, true, false, ◌||◌, ℕ, ◌*◌, ◌≤◌, ◌<◌, eqb, ltb, length}
use Rattle.std.proofs.Common.{sym, arith}
use Rattle.std.proofs.Math.Path.{ap}
use Rattle.std.proofs.Math.Logic.{inl, inr, ⊎_elim}
use Rattle.std.proofs.Math.Bool.{not}
use borrow.Author.Tests.{eqb-true, eq-eqb, ltb-true, ltb-false, lt-ltb, le-ltb, leb-true, le-leb, not-false}
use Rattle.counting.proofs.TestLaws.{eq?, lt?, clash, not_exactly, never_true, and_left, and_right, and_both, or_either, or_second, or_neither, or_neither_second, or_none}
use Rattle.counting.specs.Below.{any, lowest}
use Rattle.counting.proofs.SearchLaws.{any_has, any_some, any_none, any_false, lowest_is, lowest_only, lowest_some, lowest_missed}
use Rattle.counting.proofs.ListsLaws.{same_equal, same_self}
use Rattle.directory.specs.Sizes.{arity_allowed, part_allowed, codes_allowed}
use Rattle.directory.specs.Codes.{start, wrong_code, run_missed, repeated}
use Rattle.directory.proofs.CodesLaws.{code-right}
use Rattle.directory.specs.Kind.{Kind}
use Rattle.directory.specs.Refusals.{NoneApplies}
use Rattle.directory.specs.Building.{Lent, code_of, length_needed, lent_refusals}
use Rattle.directory.specs.Lending.{WithinLimits, Different}
use Rattle.directory.specs.Conditions.{ArityRight, PartRight, WeightsRight, FewCodes, ListRight, RoomEnough, FirstWrong, FirstRepeated}

module _ (K : Kind) (I : Lent) where
  open K use {positions}
  open I use {run, ends, r, v, weights, buffer}

  abbrev n : ℕ
  n = length ends

  -- ---- each of 1 to 6 by itself

  pub arity_right : (not (arity_allowed r) ≡ false) ↔ ArityRight K I
  unfolding arity_allowed
  arity_right = (
    λ t. ⊎_elim (λ a. inl (eqb-true r 2 a)) (λ a. inr (eqb-true r 3 a)) (or_either (eqb r 2) (eqb r 3) (not-false _ t)),
    ⊎_elim (λ e. rw (eq-eqb r 2 e)) (λ e. ap not (or_second (eqb r 2) (eqb r 3) (eq-eqb r 3 e))),
  )

  pub part_right : (not (part_allowed r v) ≡ false) ↔ PartRight K I
  unfolding part_allowed
  part_right = (
    λ t. let both = not-false _ t in (ltb-true 0 v (and_left (ltb 0 v) _ both), leb-true _ _ (and_right (ltb 0 v) _ both)),
    λ w. ap not (and_both (lt-ltb 0 v w.0) (le-leb _ _ w.1)),
  )

  pub weights_right : (not (eqb (length weights) (positions * r)) ≡ false) ↔ WeightsRight K I
  weights_right = (λ t. eqb-true _ _ (not-false _ t), λ e. ap not (eq-eqb _ _ e))

  pub few_codes : (not (codes_allowed n) ≡ false) ↔ FewCodes K I
  unfolding codes_allowed
  few_codes = (λ t. leb-true _ _ (not-false _ t), λ l. ap not (le-leb _ _ l))

  run_met : (run_missed run ends ≡ false) ↔ (start ends n ≡ length run)
  unfolding run_missed
  run_met = (λ t. eqb-true _ _ (not-false _ t), λ e. ap not (eq-eqb _ _ e))

  pub list_right : (any n (wrong_code positions run ends) || run_missed run ends ≡ false) ↔ ListRight K I
  list_right = (
    λ t. (λ k l. (code-right positions run ends k).0 (any_false n _ (or_neither (any n (wrong_code positions run ends)) _ t) k l), run_met.0 (or_neither_second (any n (wrong_code positions run ends)) _ t)),
    λ w. or_none (any_none n _ (λ k l. (code-right positions run ends k).1 (w.0 k l))) (run_met.1 w.1),
  )

  pub room_enough : (ltb (length buffer) (length_needed K I) ≡ false) ↔ RoomEnough K I
  room_enough = (ltb-false _ _, le-ltb _ _)

  -- ---- 1 to 6 together

  pub limits : NoneApplies (lent_refusals K I) → WithinLimits K I
  unfolding lent_refusals
  limits c =
      let arity = arity_right.0 c.0 in
      let part = part_right.0 c.1.0 in
      let list = list_right.0 c.1.1.1.1.0 in
      record {
        sizes = record { two = ⊎_elim (λ e. omega arith) (λ e. omega arith) arity; three = ⊎_elim (λ e. omega arith) (λ e. omega arith) arity; some = part.0; room = part.1; few = few_codes.0 c.1.1.1.0 };
        weighed = weights_right.0 c.1.1.0;
        codes = list.0;
        run_ends = list.1;
        room = room_enough.0 c.1.1.1.1.1.0;
      }

  pub limits_back : WithinLimits K I → NoneApplies (lent_refusals K I)
  unfolding lent_refusals
  limits_back w =
      let s = w.sizes in
      let arity : ArityRight K I = ⊎_elim (λ (e : r ≡ 2). inl e) (λ (d : r ≢ 2). inr (omega arith)) (eq? r 2) in
      (arity_right.1 arity, (part_right.1 (s.some, s.room), (weights_right.1 w.weighed, (few_codes.1 s.few, (list_right.1 (w.codes, w.run_ends), (room_enough.1 w.room, tt))))))

  -- ---- 7

  -- code k is repeated exactly if it equals an earlier one, and is not exactly if it equals none
  is_repeated : (k : ℕ) → (repeated (code_of K I) k ≡ true) ↔ ((i : ℕ) × (i < k) × (code_of K I i ≡ code_of K I k))
  unfolding repeated
  is_repeated k = (λ t. let w = any_some k _ t in (w.0, w.1, same_equal _ _ w.2), λ w. any_has k _ w.0 w.1 (rw w.2 (same_self (code_of K I k))))

  not-repeated : (k : ℕ) → (repeated (code_of K I) k ≡ false) ↔ ((i : ℕ) → i < k → code_of K I i ≢ code_of K I k)
  not-repeated k = (λ t i l e. clash ((is_repeated k).1 (i, l, e)) t, λ d. never_true _ (λ t. let w = (is_repeated k).0 t in d w.0 w.1 w.2))

  pub different : any n (repeated (code_of K I)) ≡ false → Different K I
  different t i k l m = (not-repeated k).0 (any_false n _ t k m) i l

  pub different_back : Different K I → any n (repeated (code_of K I)) ≡ false
  different_back d = any_none n _ (λ k m. (not-repeated k).1 (λ i l. d i k l m))

  -- ---- the places of 5 and 7

  pub wrong_is : (p : ℕ) → ((any n (wrong_code positions run ends) || run_missed run ends ≡ true) × (lowest n (wrong_code positions run ends) ≡ p)) ↔ FirstWrong K I p
  wrong_is p = (λ w. rw (← w.1) (there w.0), λ w. (applies w, sym (place w)))
    where
      wrong : ℕ → Bool
      wrong = wrong_code positions run ends

      there : any n wrong || run_missed run ends ≡ true → FirstWrong K I (lowest n wrong)
      there t =
          let low = lowest_is n wrong in
          record {
            most = low.most;
            before = λ k l. (code-right positions run ends k).0 (low.none_before k l);
            wrong = λ l. (not_exactly (code-right positions run ends _)).0 (low.passes l);
            missed = λ e. (not_exactly run_met).0 (⊎_elim (λ a. absurd (clash a (lowest_missed n wrong (lowest n wrong) refl (omega arith)))) (λ b. b) (or_either (any n wrong) _ t));
          }

      place : FirstWrong K I p → p ≡ lowest n wrong
      place w = lowest_only (record { none_before = λ k l. (code-right positions run ends k).1 (w.before k l); most = w.most; passes = λ l. (not_exactly (code-right positions run ends p)).1 (w.wrong l) })

      applies : FirstWrong K I p → any n wrong || run_missed run ends ≡ true
      applies w =
          ⊎_elim
          (λ (l : p < n). rw (any_has n wrong p l ((not_exactly (code-right positions run ends p)).1 (w.wrong l))))
          (λ (l : n ≤ p). or_second (any n wrong) _ ((not_exactly run_met).1 (w.missed (omega (arith, w.most)))))
          (lt? p n)

  pub repeated_is : (p : ℕ) → ((any n (repeated (code_of K I)) ≡ true) × (lowest n (repeated (code_of K I)) ≡ p)) ↔ FirstRepeated K I p
  repeated_is p = (λ w. rw (← w.1) (there w.0), λ w. (any_has n _ p w.inside ((is_repeated p).1 w.repeats), sym (place w)))
    where
      there : any n (repeated (code_of K I)) ≡ true → FirstRepeated K I (lowest n (repeated (code_of K I)))
      there t =
          let some = any_some n _ t in
          let low = lowest_some n _ some.0 some.1 some.2 in
          record { inside = low.0; repeats = (is_repeated _).0 low.1; before = λ i k l m. (not-repeated k).0 ((lowest_is n _).none_before k m) i l }

      place : FirstRepeated K I p → p ≡ lowest n (repeated (code_of K I))
      place w = lowest_only (record { none_before = λ k l. (not-repeated k).1 (λ i m. w.before i k m l); most = omega (arith, w.inside); passes = λ l. (is_repeated p).1 w.repeats })

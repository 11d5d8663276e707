-- Each number that building refuses with but 8, and its place, as facts: the conditions before it hold, its own does not, and back. Assumes nothing.
use Rattle.std.specs.Prelude.{◌≡◌, ◌↔◌, ℕ}
use Rattle.std.proofs.Math.Path.{refl, sym}
use mathlib.Core.List.{[], ◌∷◌}
use Rattle.counting.specs.Lists.{every}
use Rattle.counting.proofs.TestLaws.{not_exactly}
use Rattle.directory.specs.Kind.{Kind}
use Rattle.directory.proofs.RowLaws.{another, given_row}
use Rattle.directory.specs.Building.{Lent, length_needed, lent_refusals, graph_refusals, build_refusals, build}
use Rattle.directory.specs.Lending.{WithinLimits}
use Rattle.directory.specs.Conditions.{ArityRight, PartRight, WeightsRight, FewCodes, ListRight, RoomEnough, FirstWrong, FirstRepeated}
use Rattle.directory.proofs.LendingLaws.{arity_right, part_right, weights_right, few_codes, list_right, room_enough, limits, limits_back, wrong_is, repeated_is}
use Rattle.directory.proofs.BuildingLaws.{refused_by}
use Rattle.directory.specs.declared.Reason.TheVariants.{WrongArity, WrongPartSize, WrongWeights, TooManyCodes, WrongList, ShortBuffer, RepeatedCode}
use Rattle.directory.specs.Refusals.{refused}

module _ (K : Kind) (I : Lent) (p : ℕ) where
  pub refused_1 : (build K I ≡ refused WrongArity p) ↔ ((¬ ArityRight K I) × (p ≡ 0))
  unfolding build_refusals lent_refusals graph_refusals every another
  refused_1 = refused_by K I (given_row [] _ _ p refl refl) (λ w. ((not_exactly (arity_right K I)).0 w.1, sym w.2), λ w. (tt, (not_exactly (arity_right K I)).1 w.0, sym w.1))

  pub refused_2 : (build K I ≡ refused WrongPartSize p) ↔ (ArityRight K I × (¬ PartRight K I) × (p ≡ 0))
  unfolding build_refusals lent_refusals graph_refusals every another
  refused_2 = refused_by K I (given_row (_ ∷ []) _ _ p refl refl) (λ w. ((arity_right K I).0 w.0.0, (not_exactly (part_right K I)).0 w.1, sym w.2), λ w. (((arity_right K I).1 w.0, tt), (not_exactly (part_right K I)).1 w.1, sym w.2))

  pub refused_3 : (build K I ≡ refused WrongWeights p) ↔ (ArityRight K I × PartRight K I × (¬ WeightsRight K I) × (p ≡ 0))
  unfolding build_refusals lent_refusals graph_refusals every another
  refused_3 =
      refused_by K I (given_row (_ ∷ _ ∷ []) _ _ p refl refl) (
        λ w. ((arity_right K I).0 w.0.0, (part_right K I).0 w.0.1.0, (not_exactly (weights_right K I)).0 w.1, sym w.2),
        λ w. (((arity_right K I).1 w.0, ((part_right K I).1 w.1, tt)), (not_exactly (weights_right K I)).1 w.2, sym w.3),
      )

  pub refused_4 : (build K I ≡ refused TooManyCodes p) ↔ (ArityRight K I × PartRight K I × WeightsRight K I × (¬ FewCodes K I) × (p ≡ 0))
  unfolding build_refusals lent_refusals graph_refusals every another
  refused_4 =
      refused_by K I (given_row (_ ∷ _ ∷ _ ∷ []) _ _ p refl refl) (
        λ w. ((arity_right K I).0 w.0.0, (part_right K I).0 w.0.1.0, (weights_right K I).0 w.0.1.1.0, (not_exactly (few_codes K I)).0 w.1, sym w.2),
        λ w. (((arity_right K I).1 w.0, ((part_right K I).1 w.1, ((weights_right K I).1 w.2, tt))), (not_exactly (few_codes K I)).1 w.3, sym w.4),
      )

  pub refused_5 : (build K I ≡ refused WrongList p) ↔ (ArityRight K I × PartRight K I × WeightsRight K I × FewCodes K I × FirstWrong K I p)
  unfolding build_refusals lent_refusals graph_refusals every another
  refused_5 =
      refused_by K I (given_row (_ ∷ _ ∷ _ ∷ _ ∷ []) _ _ p refl refl) (
        λ w. ((arity_right K I).0 w.0.0, (part_right K I).0 w.0.1.0, (weights_right K I).0 w.0.1.1.0, (few_codes K I).0 w.0.1.1.1.0, (wrong_is K I p).0 (w.1, w.2)),
        λ w. let a = (wrong_is K I p).1 w.4 in (((arity_right K I).1 w.0, ((part_right K I).1 w.1, ((weights_right K I).1 w.2, ((few_codes K I).1 w.3, tt)))), a.0, a.1),
      )

  pub refused_6 : (build K I ≡ refused ShortBuffer p) ↔ (ArityRight K I × PartRight K I × WeightsRight K I × FewCodes K I × ListRight K I × (¬ RoomEnough K I) × (p ≡ length_needed K I))
  unfolding build_refusals lent_refusals graph_refusals every another
  refused_6 =
      refused_by K I (given_row (_ ∷ _ ∷ _ ∷ _ ∷ _ ∷ []) _ _ p refl refl) (
        λ w. ((arity_right K I).0 w.0.0, (part_right K I).0 w.0.1.0, (weights_right K I).0 w.0.1.1.0, (few_codes K I).0 w.0.1.1.1.0, (list_right K I).0 w.0.1.1.1.1.0, (not_exactly (room_enough K I)).0 w.1, sym w.2),
        λ w. (((arity_right K I).1 w.0, ((part_right K I).1 w.1, ((weights_right K I).1 w.2, ((few_codes K I).1 w.3, ((list_right K I).1 w.4, tt))))), (not_exactly (room_enough K I)).1 w.5, sym w.6),
      )

  pub refused_7 : (build K I ≡ refused RepeatedCode p) ↔ (WithinLimits K I × FirstRepeated K I p)
  unfolding build_refusals lent_refusals graph_refusals every another
  refused_7 =
      refused_by K I (given_row (lent_refusals K I) _ _ p refl refl) (
        λ w. (limits K I w.0, (repeated_is K I p).0 (w.1, w.2)),
        λ w. let a = (repeated_is K I p).1 w.1 in (limits_back K I w.0, a.0, a.1),
      )

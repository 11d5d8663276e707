-- Refusal 8 and its place as facts; of different codes within the limits it is given exactly if there is a group, and the build succeeds exactly if there is none. Assumes nothing.
use Rattle.std.specs.Prelude.{◌≡◌, ◌≢◌, ◌↔◌, Bool, true, not, ◌++◌, ℕ, ◌≤◌, eqb}
use Rattle.std.proofs.Math.Path.{refl}
use Rattle.std.proofs.Common.{ap, ◌∙◌, ⊎_elim, arith, ne_eqb}
use Rattle.std.proofs.Math.ListN.{take}
use Rattle.std.proofs.lemmas.Bool.{eqb-false, not-true}
use Rattle.counting.proofs.TestLaws.{eq?}
use Rattle.counting.specs.Lists.{every}
use Rattle.graph.specs.Peeling.{number_left}
use Rattle.graph.proofs.GroupLaws.{refused_exactly, largest_bound, largest_attained}
use Rattle.directory.specs.Kind.{Kind}
use Rattle.directory.proofs.RefusalLaws.{none_left, none_right, none_both}
use Rattle.directory.proofs.RowLaws.{another, given_row}
use Rattle.directory.specs.Building.{Lent, Succeeds, graph, GroupOfCodes, lent_refusals, graph_refusals, build_refusals, build}
use Rattle.directory.specs.Lending.{WithinLimits, Different}
use Rattle.directory.specs.Conditions.{LargestGroup}
use Rattle.directory.proofs.LendingLaws.{limits, limits_back, different, different_back}
use Rattle.directory.proofs.BuildingLaws.{refused_by}
use Rattle.directory.proofs.DoneLaws.{done_nothing, done_back}
use Rattle.directory.specs.declared.Reason.TheVariants.{Cyclic}
use Rattle.directory.specs.Refusals.{refused}

module _ (K : Kind) (I : Lent) (p : ℕ) where
  -- some codes are left over, p of them, exactly if the largest group has the size p
  left_largest : ((not (eqb (number_left (graph K I)) 0) ≡ true) × (number_left (graph K I) ≡ p)) ↔ LargestGroup K I p
  left_largest = (
    λ w.
        let d = eqb-false (number_left (graph K I)) 0 (not-true _ w.0) in
        let a = largest_attained (graph K I) (omega arith) in
        record { attained = (a.0, a.1, a.2 ∙ w.1); most = λ S g. omega (arith, largest_bound (graph K I) S g, w.1) },
    λ w.
        let a = w.attained in
        let some : 1 ≤ number_left (graph K I) = omega (arith, a.1.not_empty, largest_bound (graph K I) a.0 a.1) in
        let b = largest_attained (graph K I) some in
        (ap not (ne_eqb (number_left (graph K I)) 0 (omega arith)), omega (arith, a.2, largest_bound (graph K I) a.0 a.1, b.2, w.most b.0 b.1)),
  )

  pub refused_8 : (build K I ≡ refused Cyclic p) ↔ (WithinLimits K I × Different K I × LargestGroup K I p)
  unfolding build_refusals lent_refusals graph_refusals every another
  refused_8 =
      let seven = take 1 (graph_refusals K I) in
      refused_by K I (given_row (lent_refusals K I ++ seven) _ _ p refl refl) (
        λ w. (limits K I (none_left (lent_refusals K I) seven w.0), different K I (none_right (lent_refusals K I) seven w.0).0, left_largest.0 (w.1, w.2)),
        λ w. let a = left_largest.1 w.2 in (none_both (lent_refusals K I) seven (limits_back K I w.0) (different_back K I w.1, tt), a.0, a.1),
      )

-- ---- different codes within the limits

module _ (K : Kind) (I : Lent) (w : WithinLimits K I) (d : Different K I) where
  pub cyclic_exactly : ((p : ℕ) × (build K I ≡ refused Cyclic p)) ↔ ((S : ℕ → Bool) × GroupOfCodes K I S)
  cyclic_exactly = (
    λ a. let g = ((refused_8 K I a.0).0 a.1).2.attained in (g.0, g.1),
    λ g. (number_left (graph K I), (refused_8 K I _).1 (w, d, record { attained = largest_attained (graph K I) ((refused_exactly (graph K I)).1 g); most = largest_bound (graph K I) })),
  )

  pub done_exactly : (¬ ((S : ℕ → Bool) × GroupOfCodes K I S)) ↔ Succeeds (build K I)
  done_exactly = (λ none. done_back K I w d (zero none), λ e g. omega (arith, done_nothing K I e, (refused_exactly (graph K I)).1 g))
    where
      zero : (¬ ((S : ℕ → Bool) × GroupOfCodes K I S)) → number_left (graph K I) ≡ 0
      zero none = ⊎_elim (λ (z : number_left (graph K I) ≡ 0). z) (λ (c : number_left (graph K I) ≢ 0). absurd (none ((refused_exactly (graph K I)).0 (omega arith)))) (eq? (number_left (graph K I)) 0)

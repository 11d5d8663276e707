-- A build that succeeds, as facts: within the limits, different codes, and nothing left over; and back. Assumes nothing.
use Rattle.std.specs.Prelude.{◌≡◌}
use Rattle.std.proofs.Common.{ap}
use Rattle.std.proofs.Math.Bool.{not}
use borrow.Author.Tests.{eqb-true, eq-eqb, not-false}
use Rattle.graph.specs.Peeling.{number_left}
use Rattle.directory.specs.Kind.{Kind}
use Rattle.directory.specs.Refusals.{NoneApplies}
use Rattle.directory.proofs.RefusalLaws.{none_left, none_right, none_both}
use Rattle.directory.specs.Building.{Lent, Succeeds, graph, lent_refusals, graph_refusals, build_refusals, build}
use Rattle.directory.proofs.BuildingLaws.{build_done}
use Rattle.directory.specs.Lending.{WithinLimits, Different}
use Rattle.directory.proofs.LendingLaws.{limits, limits_back, different, different_back}

module _ (K : Kind) (I : Lent) where
  pub done_limits : Succeeds (build K I) → WithinLimits K I
  unfolding build_refusals
  done_limits d = limits K I (none_left (lent_refusals K I) _ ((build_done K I).0 d))

  graph_none : Succeeds (build K I) → NoneApplies (graph_refusals K I)
  unfolding build_refusals
  graph_none d = none_right (lent_refusals K I) (graph_refusals K I) ((build_done K I).0 d)

  pub done_different : Succeeds (build K I) → Different K I
  unfolding graph_refusals
  done_different d = different K I (graph_none d).0

  pub done_nothing : Succeeds (build K I) → number_left (graph K I) ≡ 0
  unfolding graph_refusals
  done_nothing d = eqb-true _ 0 (not-false _ (graph_none d).1.0)

  pub done_back : WithinLimits K I → Different K I → number_left (graph K I) ≡ 0 → Succeeds (build K I)
  unfolding build_refusals graph_refusals
  done_back w d z = (build_done K I).1 (none_both (lent_refusals K I) _ (limits_back K I w) (different_back K I d, (ap not (eq-eqb _ 0 z), tt)))

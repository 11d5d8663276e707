-- The lines, where nothing is left over: each of 0, 1, .. below the number of edges is the line of one edge. Assumes nothing.
use Rattle.std.specs.Prelude.{◌≡◌, Bool, ℕ, ◌<◌}
use Rattle.std.proofs.Math.Path.{ap}
use Rattle.std.proofs.Common.{◌∙◌, arith}
use Rattle.std.proofs.Math.Dec.{eqb}
use borrow.Author.Tests.{eqb-true, eq-eqb}
use Rattle.counting.proofs.CountLaws.{rank_less, rank_own, rank_onto}
use Rattle.counting.proofs.SearchLaws.{lowest_some}
use Rattle.graph.specs.Graph.{Graph, Proper}
use Rattle.graph.specs.Peeling.{number_left}
use Rattle.graph.specs.Assignment.{assigned, assigned_below, values, landing_vertex, line, edge_of_line}
use Rattle.graph.proofs.LandingLaws.{landing_inside, landing-assigned, landing_own, assigned-landing, assigned-number}

module _ (G : Graph) (ok : Proper G) (nothing : number_left G ≡ 0) where
  open G use {edges, arity, vertices}

  abbrev is_assigned : ℕ → Bool
  is_assigned x = assigned arity (values G x)

  pub line-below : (e : ℕ) → e < edges → line G e < edges
  unfolding line assigned_below
  line-below e l = omega (arith, rank_less vertices is_assigned (landing_vertex G e) (landing_inside G ok e l) (landing-assigned G ok nothing e l), assigned-number G ok nothing)

  pub line_own : (e f : ℕ) → e < edges → f < edges → line G e ≡ line G f → e ≡ f
  unfolding line assigned_below
  line_own e f l m i = landing_own G ok nothing e f l m (rank_own is_assigned (landing_vertex G e) (landing_vertex G f) (landing-assigned G ok nothing e l) (landing-assigned G ok nothing f m) i)

  pub line_onto : (l : ℕ) → l < edges → (e : ℕ) × (e < edges) × (line G e ≡ l)
  unfolding line assigned_below
  line_onto l h =
      let x = rank_onto vertices is_assigned l (omega (arith, assigned-number G ok nothing)) in
      let e = assigned-landing G ok x.0 x.2 in
      (e.0, e.1, ap (assigned_below arity (values G)) e.2 ∙ x.3)

  -- ---- the edge of a line

  -- it is an edge, and has that line
  pub edge_line : (l : ℕ) → l < edges → (edge_of_line G l < edges) × (line G (edge_of_line G l) ≡ l)
  unfolding edge_of_line
  edge_line l h =
      let w = line_onto l h in
      let s = lowest_some edges (λ e. eqb (line G e) l) w.0 w.1 (eq-eqb _ _ w.2) in
      (s.0, eqb-true _ _ s.1)

  -- so each edge is that of its line
  pub line_edge : (e : ℕ) → e < edges → edge_of_line G (line G e) ≡ e
  line_edge e l = let w = edge_line (line G e) (line-below e l) in line_own _ e w.0 l w.1

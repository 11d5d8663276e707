-- What `builder::lending::Lent::build_within` owes: where no code is left over the file is written, else a repeated code is named, and where there is none the number left. Assumes nothing.
use Rattle.std.proofs.Common.{ap, arith, sym, Err, ◌≡◌, ◌≢◌, ◌∙◌}
use Rattle.graph.specs.Peeling.{number_left}
use Rattle.directory.specs.Kind.{HD}
use Rattle.directory.specs.Building.{Lent, graph}
use Rattle.builder.specs.Graphs.{lent_of}
use Rattle.builder.proofs.DecisionsLaws.{graph_done, graph-repeated, graph-cyclic}
use Rattle.builder.proofs.lending.Lent.build_within.Goals as goal
use Rattle.builder.proofs.lending.Lent.build_within.Goals.{After-arrange_codes-counts}

-- what is lent, and how many of its codes are left over
module _ (c : After-arrange_codes-counts) where
  abbrev I : Lent
  I = lent_of c.args.self c.args.buffer.now

  left_is : c.arrange_codes-counts.result.left ≡ number_left (graph HD I)
  left_is = (c.arrange_codes-counts.ensures c.args.buffer.now).is_left

pub returns-then-counts-eq0 : goal.returns-then-counts-eq0
returns-then-counts-eq0 c =
    let d = (goal.at.returns-then-counts-eq0 c).After-arrange_codes-counts in
    let none : c.arrange_codes-counts.result.left ≡ 0 = omega arith in
    let done = graph_done (I d) (sym (left_is d) ∙ none) _ (c.arrange_codes-counts.ensures c.args.buffer.now).is_most in
    record { answer = done.0; bytes = c.write.ensures ∙ done.1 }

pub returns-in-Some : goal.returns-in-Some
returns-in-Some c =
    let d = (goal.at.returns-in-Some c).After-arrange_codes-counts in
    let repeated = graph-repeated (I d) c.in-Some.k c.in-Some.ensures in
    record { answer = ap Err c.at.ensures ∙ repeated.0; bytes = repeated.1 }

pub returns-in-None : goal.returns-in-None
returns-in-None c =
    let d = (goal.at.returns-in-None c).After-arrange_codes-counts in
    let some : c.arrange_codes-counts.result.left ≢ 0 = omega arith in
    let cyclic = graph-cyclic (I d) c.in-None.ensures c.arrange_codes-counts.result.left (left_is d) some in
    record { answer = ap Err c.at-in-None.ensures ∙ cyclic.0; bytes = cyclic.1 }

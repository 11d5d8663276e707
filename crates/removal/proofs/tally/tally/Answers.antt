-- `removal::tally::tally` meets its contract: each turn puts one edge more on its vertices. Assumes nothing.
use Rattle.std.proofs.Common.{[], arith, lt-ltb, ◌∙◌}
use Rattle.counting.specs.Lists.{occurrences}
use Rattle.graph.specs.Peeling.{unremoved}
use Rattle.removal.proofs.TallyLaws.{first-one_more, tallied_none, tallied_equal, tallied_more, tallied_room}
use Rattle.removal.proofs.tally.tally.Goals as goal

pub loop-e-init : goal.loop-e-init
loop-e-init c = tallied_none _ c.requires.clear

pub loop-e-preserved : goal.loop-e-preserved
loop-e-preserved c = tallied_more c.requires.held (first-one_more _) c.loop-e-test.true c.link.ensures c.loop-e.invariant

pub link-requires : goal.link-requires
link-requires c =
    let kept = c.loop-e.auto in
    tallied_room c.requires.held (first-one_more _) c.loop-e-test.true (record { for_degrees = kept.degrees; for_sums = kept.sums ∙ c.requires.even }) c.loop-e.invariant

pub returns : goal.returns
unfolding unremoved occurrences
returns c = tallied_equal c.loop-e.invariant (unremoved []) (λ i l. lt-ltb i _ (omega arith))

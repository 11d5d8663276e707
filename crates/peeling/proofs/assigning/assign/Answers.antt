-- What `peeling::assigning::assign` owes beside its invariant: in each turn the edge before those of the removal list that have theirs gets its value. Assumes nothing.
use Rattle.std.proofs.Common.{ap, arith, drop, get_or, length, List, ℕ, ◌+◌, ◌-◌, ◌<◌, ◌∙◌, ◌≡◌}
use Rattle.std.proofs.lemmas.List.{get_or-replicate}
use Rattle.std.proofs.Math.ListN.{replicate}
use Rattle.graph.specs.Peeling.{removal_list}
use Rattle.removal.specs.Arrays.{graph_in}
use Rattle.peeling.proofs.AssigningSteps.{Back, back_none, back_free, back_more, back_all}
use Rattle.peeling.proofs.assigning.assign.Goals as goal
use Rattle.peeling.proofs.assigning.assign.Goals.{In-loop-k}

-- in a turn: edge number k of the removal list
module _ (c : In-loop-k) where
  abbrev n : ℕ
  n = length c.args.order.now

  abbrev k : ℕ
  k = c.loop-k.k - 1

  abbrev list : List ℕ
  list = removal_list (graph_in n c.args.edges.r (length c.args.visited.now) c.args.edges.list.now)

  k-below : k < n
  k-below = omega (arith, c.loop-k-test.true)

  back : let v = c.loop-k in Back n c.args.edges.r (length c.args.visited.now) c.args.edges.list.now v.visited v.landed v.values (drop (k + 1) list)
  back = let i : k + 1 ≡ c.loop-k.k = omega (arith, c.loop-k-test.true) in rw i c.loop-k.invariant

  e-is : get_or c.args.order.now k 0 ≡ get_or list k 0
  e-is = ap (λ l. get_or l k 0) c.requires.list

pub loop-k-init : goal.loop-k-init
loop-k-init c =
    let p = c.requires in
    let filled : c.fill.new.self ≡ replicate (length c.args.values.now) c.args.edges.r = c.fill.ensures.after (λ y e. e) in
    back_none p c.fill.new.self (c.fill.ensures.len ∙ p.for_values) (λ x l. rw filled (get_or-replicate (length c.args.values.now) x _ 0 (omega (arith, p.for_values))))

pub assign_edge-requires : goal.assign_edge-requires
assign_edge-requires c =
    let t = (goal.at.assign_edge-requires c).In-loop-k in
    rw (e-is t) (back_free c.requires.held c.requires.nothing (k t) (k-below t) (back t))

pub loop-k-preserved : goal.loop-k-preserved
loop-k-preserved c =
    let t = (goal.at.loop-k-preserved c).In-loop-k in
    let w = (back t).wide in
    let kept = c.assign_edge.auto in
    back_more c.requires.held c.requires.nothing (k t) (k-below t) (back t) (rw (e-is t) at c.assign_edge.ensures)
    (record { for_degrees = kept.visited ∙ w.for_degrees; for_sums = kept.landed ∙ w.for_sums })

pub returns : goal.returns
returns c = let z : c.loop-k.k ≡ 0 = omega arith in back_all c.requires.nothing (rw z at c.loop-k.invariant)

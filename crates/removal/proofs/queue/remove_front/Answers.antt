-- What `removal::queue::remove_front` owes beside its invariant: in each turn the front edge is taken off one of its vertices. Assumes nothing.
use Rattle.std.proofs.Common.{arith, get_or, length, ◌≡◌, ◌+◌, ◌-◌, ◌*◌, ◌≤◌, ◌<◌, ◌∙◌}
use Rattle.removal.proofs.LinkingSteps.{UnlinkTurn}
use Rattle.removal.proofs.TallyLaws.{held_vertices}
use Rattle.removal.proofs.PeelSteps.{front_below, removing_none, off, one_joins, removing_more, removing_joined, removing_all, removing_stepped}
use Rattle.removal.proofs.queue.remove_front.Goals as goal
use Rattle.removal.proofs.queue.remove_front.Goals.{After-vertex-x}

-- in a turn, at vertex x
turn : (c : After-vertex-x) → let a = c.args in let v = c.loop-j in UnlinkTurn a.edges.r (get_or a.order.now a.head 0) a.edges.list.now v.j c.vertex-x.result a.degrees.now a.sums.now v.degrees v.sums
turn c = off c.requires.going c.requires.some c.loop-j.invariant c.loop-j-test.true c.vertex-x.ensures

pub loop-j-init : goal.loop-j-init
loop-j-init c = removing_none c.requires.going c.requires.some

pub join_back-t-requires : goal.join_back-t-requires
join_back-t-requires c =
    let one : get_or c.loop-j.degrees c.vertex-x.result 0 - 1 ≡ 1 = omega arith in
    one_joins c.requires.going c.requires.some c.loop-j.invariant c.loop-j-test.true c.vertex-x.ensures one

pub loop-j-preserved : goal.loop-j-preserved
loop-j-preserved c =
    let i = c.loop-j.invariant in
    elim c.if-degree-eq1.branch [
      | goal.then-degree-eq1 w ↦ rw (w.sums-is, w.queued-is, w.order-is, w.t-is) (removing_joined c.requires.going c.requires.some i c.loop-j-test.true c.vertex-x.ensures w.if-degree-eq1.true w.join_back-t.ensures (w.join_back-t.auto.queued ∙ i.for_marks) (w.join_back-t.auto.order ∙ i.for_order))
      | goal.else-degree-eq1 w ↦ rw (w.sums-is, w.queued-is, w.order-is, w.t-is) (removing_more c.requires.going c.requires.some i c.loop-j-test.true c.vertex-x.ensures w.if-degree-eq1.false)
    ]

pub returns-clause-going : goal.returns-clause-going
returns-clause-going c = removing_all c.requires.going c.requires.some c.loop-j.invariant (omega arith)

pub returns-clause-stepped : goal.returns-clause-stepped
returns-clause-stepped c = removing_stepped c.requires.going c.requires.some c.loop-j.invariant (omega arith)

pub vertex-x-requires : goal.vertex-x-requires
vertex-x-requires c =
    let a = c.args in
    let below : get_or a.order.now a.head 0 < length a.order.now = front_below c.requires.going c.requires.some in
    let fits : get_or a.order.now a.head 0 * a.edges.r + a.edges.r ≤ length a.edges.list.now = (held_vertices c.requires.going.ready.held below (length a.degrees.now) (omega arith)).fits in
    omega (arith, fits)

pub bounds-degrees-x : goal.bounds-degrees-x
bounds-degrees-x c = (turn (goal.at.bounds-degrees-x c).After-vertex-x).in_degrees

pub overflow_sub-degree : goal.overflow_sub-degree
overflow_sub-degree c = omega (arith, (turn (goal.at.overflow_sub-degree c).After-vertex-x).degree_left)

pub bounds-sums-x : goal.bounds-sums-x
bounds-sums-x c = (turn (goal.at.bounds-sums-x c).After-vertex-x).in_sums

pub overflow_sub-sum : goal.overflow_sub-sum
overflow_sub-sum c = omega (arith, (turn (goal.at.overflow_sub-sum c).After-vertex-x).sum_left)

pub offset_bounds-degrees-x : goal.offset_bounds-degrees-x
offset_bounds-degrees-x c = omega (arith, (turn (goal.at.offset_bounds-degrees-x c).After-vertex-x).in_degrees)

pub offset_bounds-sums-x : goal.offset_bounds-sums-x
offset_bounds-sums-x c = omega (arith, (turn (goal.at.offset_bounds-sums-x c).After-vertex-x).in_sums)

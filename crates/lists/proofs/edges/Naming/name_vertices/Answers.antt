-- What `lists::edges::Naming::name_vertices` owes beside its invariant: in each turn one vertex more is written, and it has two bytes. Assumes nothing.
use Rattle.std.proofs.Common.{arith, refl, get_or, get_or-take, length-take-le, ◌∙◌, ◌<◌, ◌≡◌, take}
use Rattle.directory.specs.Kind.{HD, vertex}
use Rattle.directory.proofs.KindLaws.{vertex-below}
use Rattle.lists.proofs.NamingSteps.{noted_more}
use Rattle.lists.proofs.edges.Naming.name_vertices.Goals as goal
use Rattle.lists.proofs.edges.Naming.name_vertices.Goals.{In-loop-j}

below : (c : In-loop-j) → c.loop-j.j < c.args.self.r
below c = omega (arith, c.loop-j-test.true, length-take-le c.args.self.r c.name_vertices-vertices.result (omega arith))

-- the number that is written
written : (c : In-loop-j) → get_or (take c.args.self.r c.name_vertices-vertices.result) c.loop-j.j 0 ≡ vertex HD c.args.self.v (λ i. get_or c.args.self.weights.now i 0) c.args.code.bytes.now c.loop-j.j
written c = get_or-take c.args.self.r c.name_vertices-vertices.result c.loop-j.j 0 (below c) ∙ c.name_vertices-vertices.ensures c.loop-j.j (below c)

pub loop-j-preserved : goal.loop-j-preserved
loop-j-preserved c =
    let t = (goal.at.loop-j-preserved c).In-loop-j in
    noted_more _ _ _ _ _ _ _ c.loop-j.invariant refl (omega (arith, below t, c.requires, c.loop-j.auto.edges)) (written t)

pub overflow_cast-edges : goal.overflow_cast-edges
overflow_cast-edges c =
    let a = c.args in
    let t = (goal.at.overflow_cast-edges c).In-loop-j in
    let small = vertex-below HD a.self.v (λ i. get_or a.self.weights.now i 0) a.code.bytes.now a.self.sizes.some a.self.r c.loop-j.j (below t) in
    record { fits = omega (arith, written t, small, a.self.sizes.room) }

pub returns : goal.returns
returns c =
    let all : c.args.self.r ≡ c.loop-j.j = omega (arith, c.loop-j-test.false, c.loop-j.auto.j-end, length-take-le c.args.self.r c.name_vertices-vertices.result (omega arith)) in
    rw all c.loop-j.invariant

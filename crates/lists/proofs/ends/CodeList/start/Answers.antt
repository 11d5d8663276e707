-- What `lists::ends::CodeList::start` owes: the first code starts at 0, and any other where the one before it ends. Assumes nothing.
use Rattle.std.proofs.Common.{ap, arith, ◌+◌, ◌-◌, ◌∙◌, ◌≡◌}
use Rattle.directory.specs.Codes.{start}
use Rattle.lists.proofs.CodeSteps.{start_first, start-after}
use Rattle.lists.proofs.ends.CodeList.start.Goals as goal

pub returns-then-k-eq0 : goal.returns-then-k-eq0
returns-then-k-eq0 c = (start_first _ _ c.if-k-eq0.true, omega arith)

pub returns-else-k-eq0 : goal.returns-else-k-eq0
returns-else-k-eq0 c =
    let a = c.args in
    let e : a.k - 1 + 1 ≡ a.k = omega arith in
    (c.end.ensures.0 ∙ start-after a.self.ends.now (a.k - 1) ∙ ap (start a.self.ends.now) e, c.end.ensures.1)

-- What `builder::build` owes: what is lent decides, or else the codes and their graph. Assumes nothing.
use Rattle.std.proofs.Common.{◌∙◌}
use Rattle.std.proofs.lemmas.Result.{err_from_is_err_and}
use Rattle.directory.specs.Building.{lent}
use Rattle.builder.proofs.DecisionsLaws.{lent_refused, lent_limits, graph_decides, answered}
use Rattle.builder.proofs.build.Goals as goal

pub build_within-requires : goal.build_within-requires
build_within-requires c = let a = c.args in lent_limits (lent a.run.now a.ends.now a.r a.v a.weights.now a.buffer.now) c.in_ok-check.ensures

pub returns-in_err-check : goal.returns-in_err-check
returns-in_err-check c =
    let a = c.args in
    let I = lent a.run.now a.ends.now a.r a.v a.weights.now a.buffer.now in
    let why = c.in_err-check.field-0.0 in
    let e = answered I (lent_refused I {k = why.reason} {p = why.place} c.in_err-check.ensures) in
    let p = err_from_is_err_and c.from_residual.result c.from_residual.ensures.1 in
    rw (p.1, p.2) (record { answer = e.0; bytes = e.1.0; paper = e.1.1 })

pub returns : goal.returns
returns c =
    let a = c.args in
    let I = lent a.run.now a.ends.now a.r a.v a.weights.now a.buffer.now in
    let d = graph_decides I c.in_ok-check.ensures in
    let e = answered I (c.build_within.ensures.answer ∙ d.0, c.build_within.ensures.bytes ∙ d.1) in
    record { answer = e.0; bytes = e.1.0; paper = e.1.1 }

-- `making::make` meets its contract: the goals that the check leaves open.
use Rattle.std.proofs.Common.{arith, ◌∙◌, ◌≡◌}
use Rattle.std.proofs.lemmas.Result.{err_from_is_err_and}
use Rattle.directory.specs.Building.{lent}
use Rattle.making.specs.Making.{lent_of}
use Rattle.making.proofs.MakingLaws.{lent_same, made-wrong_line, made_wrong_word, read_lent, made_built}
use Rattle.making.proofs.make.Goals as goal
use Rattle.making.proofs.make.Goals.{After-first-numbers}

pub returns-in_err-read : goal.returns-in_err-read
returns-in_err-read c =
    let a = c.args in
    let r = made-wrong_line a.codes.now a.weights.now a.r a.v a.buffer.now _ c.in_err-read.ensures.answer in
    let is = err_from_is_err_and c.from_residual.result c.from_residual.ensures.1 in
    record { answer = rw (is.1, is.2) r.0; bytes = r.1 }

pub returns-in_err-count : goal.returns-in_err-count
returns-in_err-count c =
    let a = c.args in
    let r = made_wrong_word a.codes.now a.weights.now a.r a.v a.buffer.now _ c.in_ok-read.ensures.answer _ c.in_err-count.ensures.answer in
    let is = err_from_is_err_and c.from_residual-in_err-count.result c.from_residual-in_err-count.ensures.1 in
    record { answer = rw (is.1, is.2) r.0; bytes = r.1 }

-- what is lent to building is what was read
here : (c : After-first-numbers) → let a = c.args in lent c.first-run.result.now c.first-ends.result.now a.r a.v c.first-numbers.result.now a.buffer.now ≡ lent_of a.codes.now a.weights.now a.r a.v a.buffer.now
here c =
    let a = c.args in
    let run = c.read_codes.ensures.bytes in
    let ends = c.read_codes.ensures.stops in
    let numbers = c.read_weights.ensures.stored in
    lent_same a.r a.v a.buffer.now c.first-run.ensures c.first-ends.ensures c.first-numbers.ensures
    ∙ read_lent a.codes.now a.weights.now a.r a.v a.buffer.now _ c.in_ok-read.ensures.answer _ c.in_ok-count.ensures.answer run (omega arith) ends (omega arith) numbers (omega arith)

pub returns-in_err-build : goal.returns-in_err-build
returns-in_err-build c =
    let a = c.args in
    let s = here (goal.at.returns-in_err-build c).After-first-numbers in
    let r = made_built a.codes.now a.weights.now a.r a.v a.buffer.now _ c.in_ok-read.ensures.answer _ c.in_ok-count.ensures.answer s c.in_err-build.ensures.answer c.build.ensures.bytes in
    let is = err_from_is_err_and c.from_residual-in_err-build.result c.from_residual-in_err-build.ensures.1 in
    record { answer = rw (is.1, is.2) r.0; bytes = r.1 }

pub returns : goal.returns
returns c =
    let a = c.args in
    let s = here (goal.at.returns c).After-first-numbers in
    let r = made_built a.codes.now a.weights.now a.r a.v a.buffer.now _ c.in_ok-read.ensures.answer _ c.in_ok-count.ensures.answer s c.in_ok-build.ensures.answer c.build.ensures.bytes in
    record { answer = r.0; bytes = r.1 }

-- What `lists::ends::Codes::equals_earlier` owes beside its invariant: in each turn one earlier code more is compared. Assumes nothing.
use Rattle.std.proofs.Common.{arith, below_more, get_or-take, length, length-take-le, refl, sym, take, ◌<◌, ◌≡◌, ◌∙◌}
use Rattle.counting.specs.Lists.{same}
use Rattle.counting.proofs.SearchLaws.{any_has, any_none}
use Rattle.directory.specs.Codes.{code, end, repeated}
use Rattle.lists.proofs.CodeSteps.{start_first, start-after, part_is_code}
use Rattle.lists.proofs.ends.Codes.equals_earlier.Goals as goal
use Rattle.lists.proofs.ends.Codes.equals_earlier.Goals.{After-same_code}

-- the end is that of an earlier code, and what is told of the bytes from `from` up to it holds of that code
module _ (c : After-same_code) where
  earlier : c.loop-end.end-index < c.args.k
  earlier = omega (arith, length-take-le c.args.k c.args.self.list.ends.now (omega arith))

  stops : c.from-to.result ≡ end c.args.self.list.ends.now c.loop-end.end-index
  stops = c.from-to.ensures ∙ get_or-take c.args.k c.args.self.list.ends.now c.loop-end.end-index 0 earlier

  told : let list = c.args.self.list in c.same_code.result ≡ same (code list.run.now list.ends.now c.loop-end.end-index) (code list.run.now list.ends.now c.args.k)
  told =
      let list = c.args.self.list in
      let part = part_is_code list.run.now list.ends.now c.loop-end.end-index c.loop-end.from c.from-to.result c.loop-end.invariant.starts stops in
      rw (← part, ← c.code-this.ensures) c.same_code.ensures

pub loop-end-init : goal.loop-end-init
loop-end-init c = record { none = λ j l. absurd (omega arith); starts = start_first _ _ refl }

pub returns-then-same_code : goal.returns-then-same_code
unfolding repeated
returns-then-same_code c =
    let d = (goal.at.returns-then-same_code c).After-same_code in
    sym (any_has _ _ c.loop-end.end-index (earlier d) (sym (told d) ∙ c.if-same_code.true))

pub loop-end-preserved : goal.loop-end-preserved
loop-end-preserved c =
    let d = (goal.at.loop-end-preserved c).After-same_code in
    record { none = below_more _ _ c.loop-end.invariant.none (sym (told d) ∙ c.if-same_code.false); starts = stops d ∙ start-after _ _ }

pub returns : goal.returns
unfolding repeated
returns c =
    let ends = c.args.self.list.ends.now in
    let all : length (take c.args.k ends) ≡ c.args.k = length-take-le c.args.k ends (omega arith) in
    sym (any_none _ _ (λ j m. c.loop-end.invariant.none j (omega arith)))

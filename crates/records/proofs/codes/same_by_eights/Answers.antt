-- `records::codes::same_by_eights`: eight bytes that differ decide, and else what is left does. Assumes nothing.
use Rattle.std.proofs.Common.{◌∙◌, sym, ap, arith, not}
use Rattle.std.proofs.Math.Bool.{not-not}
use Rattle.records.proofs.ComparingLaws.{first_decide}
use Rattle.records.proofs.codes.same_by_eights.Goals as goal

pub returns-then-ne : goal.returns-then-ne
returns-then-ne c =
    let v = c.loop-eight in
    let p = c.in-Some-Some.ensures.cases in
    let q = c.in-Some-Some.ensures'.cases in
    let alike = ap not (sym c.if-ne.true ∙ c.ne.ensures) ∙ not-not _ in
    sym (first_decide 8 v.part.now v.code.now v.invariant.long p.0 p.1 q.0 q.1 alike) ∙ v.invariant.decides

pub loop-eight-preserved : goal.loop-eight-preserved
loop-eight-preserved c =
    let v = c.loop-eight in
    let p = c.in-Some-Some.ensures.cases in
    let q = c.in-Some-Some.ensures'.cases in
    let alike = ap not (sym c.if-ne.false ∙ c.ne.ensures) ∙ not-not _ in
    record {
      long = omega (arith, p.2, q.2, v.invariant.long);
      decides = sym (first_decide 8 v.part.now v.code.now v.invariant.long p.0 p.1 q.0 q.1 alike) ∙ v.invariant.decides;
    }

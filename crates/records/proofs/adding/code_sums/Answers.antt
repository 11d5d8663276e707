-- `records::adding::code_sums`: one turn of the loop adds the next term to each sum, and at the end each sum has all its terms. Assumes nothing.
use Rattle.std.proofs.Common.{arith, ◌<◌}
use Rattle.counting.specs.Widths.{one_byte}
use Rattle.records.proofs.SummingLaws.{begun_none, begun_next, begun_all}
use Rattle.records.proofs.adding.code_sums.Goals as goal
use Rattle.records.proofs.adding.code_sums.Goals.{then-r-gt-FEWEST_PARTS, else-r-gt-FEWEST_PARTS}

pub loop-i-init : goal.loop-i-init
loop-i-init g c = record { first = begun_none; second = begun_none; third = λ m. begun_none }

pub loop-i-preserved : goal.loop-i-preserved
loop-i-preserved g c =
    let i = c.loop-i.invariant in
    let byte : c.from-b.result < one_byte = omega (arith, c.from-b.ensures, c.type_inv.code c.loop-i.i) in
    let first = begun_next i.first c.from-b.ensures byte c.weight.ensures.0 c.weight.ensures.1 in
    let second = begun_next i.second c.from-b.ensures byte c.weight-in-loop-i.ensures.0 c.weight-in-loop-i.ensures.1 in
    elim c.if-r-gt-FEWEST_PARTS.branch [
      | then-r-gt-FEWEST_PARTS w ↦
          rw w.sums-is
          (record { first = first; second = second; third = λ m. begun_next (i.third m) c.from-b.ensures byte w.weight-then-r-gt-FEWEST_PARTS.ensures.0 w.weight-then-r-gt-FEWEST_PARTS.ensures.1 })
      | else-r-gt-FEWEST_PARTS w ↦ rw w.sums-is (record { first = first; second = second; third = λ m. absurd (omega arith) })
    ]

pub returns : goal.returns
returns g c =
    let i = c.loop-i.invariant in
    record { first = begun_all i.first (omega arith); second = begun_all i.second (omega arith); third = λ m. begun_all (i.third m) (omega arith) }

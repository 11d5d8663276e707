-- `records::adding::code_sums`. The invariant: each sum has its first i terms. Assumes nothing.
use Rattle.std.proofs.Common.{◌<◌}
use Rattle.records.proofs.SummingLaws.{Begun}
use Rattle.records.proofs.adding.code_sums.Given as goal

abbrev pub invariant-loop-i : goal.invariant-loop-i
invariant-loop-i g l = record {
  first : Begun (g.W.Weights.weight_at l.weights) l.code 0 l.i l.sums.first;
  second : Begun (g.W.Weights.weight_at l.weights) l.code 1 l.i l.sums.second;
  third : 2 < l.r → Begun (g.W.Weights.weight_at l.weights) l.code 2 l.i l.sums.third;
}

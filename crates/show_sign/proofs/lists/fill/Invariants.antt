-- As many places are written as turns are done. Assumes nothing.
use Rattle.counting.specs.Lists.{each}
use Rattle.storing.specs.Went.{Went}
use Rattle.show_sign.proofs.lists.fill.Given as goal

abbrev pub invariant-loop : goal.invariant-loop
invariant-loop l = Went (each l.counter (λ j. l.fn.place)) l.initial.out l.out

-- `writer::values::Values::put_packed`. The invariant: the bytes before this one are stored. Assumes nothing.
use Rattle.std.proofs.Common.{[], ◌∷◌}
use Rattle.counting.specs.Lists.{each}
use Rattle.storing.specs.Went.{Went}
use Rattle.writer.specs.Stored.{byte_of}
use Rattle.writer.proofs.values.Values.put_packed.Given as goal

abbrev pub invariant-loop-a : goal.invariant-loop-a
invariant-loop-a l = Went (each l.a-index (λ i. byte_of l.fn.self.values.now i ∷ [])) l.initial.out l.out

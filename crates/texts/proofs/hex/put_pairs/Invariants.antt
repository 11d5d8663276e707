-- `texts::hex::put_pairs`. The invariant: the bytes of the first i pairs are written.
use Rattle.std.proofs.Common.{◌+◌, ◌≡◌}
use Rattle.storing.specs.Went.{Went}
use Rattle.texts.specs.Codes.{first_pairs}
use Rattle.texts.proofs.hex.put_pairs.Given as goal

abbrev pub invariant-loop-i : goal.invariant-loop-i
invariant-loop-i l = Went (first_pairs l.digits l.i) l.initial.out l.out × (l.out.at ≡ l.initial.out.at + l.i)

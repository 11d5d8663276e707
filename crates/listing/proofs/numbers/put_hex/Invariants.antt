-- `listing::numbers::put_hex`. The invariant: the bytes so far are written, two digits each.
use Rattle.std.proofs.Common.{take}
use Rattle.directory.specs.Listing.{hex}
use Rattle.storing.specs.Went.{Went}
use Rattle.listing.proofs.numbers.put_hex.Given as goal

abbrev pub invariant-loop-b : goal.invariant-loop-b
invariant-loop-b l = Went (hex (take l.b-index l.code)) l.initial.out l.out

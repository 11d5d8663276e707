-- One place more is written after the first ones, and in the end all are. Assumes nothing.
use Rattle.std.proofs.Common.{rules, arith, ◌≡◌}
use Rattle.counting.proofs.EachLaws.{length-each}
use Rattle.counting.proofs.WroteLaws.{wrote_moved}
use Rattle.storing.proofs.WentLaws.{went_each_none, went_each-next}
use Rattle.sign.specs.Places.{place_bytes, place_at}
use Rattle.show_sign.proofs.lists.fill.Goals as goal

pub loop-init : goal.loop-init
loop-init c = went_each_none _ _

pub loop-preserved : goal.loop-preserved
loop-preserved c = went_each-next c.loop.counter _ c.loop.invariant c.bytes.ensures

pub bytes-requires : goal.bytes-requires
bytes-requires c = omega (arith, length-each place_bytes c.loop.counter (λ j. c.args.place.now) (λ j l. c.requires.0))

pub returns : goal.returns
returns c =
    let all : c.args.n ≡ c.loop.counter = omega arith in
    let same = c.loop.invariant.same_buffer in
    let to : place_at c.args.n ≡ c.loop.out.at = omega (arith, length-each place_bytes c.loop.counter (λ j. c.args.place.now) (λ j l. c.requires.0)) in
    wrote_moved {n = c.loop.out.buffer.now} (search rules) to (rw all c.loop.invariant.wrote)

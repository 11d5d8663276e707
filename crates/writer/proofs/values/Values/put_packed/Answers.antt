-- What `writer::values::Values::put_packed` owes beside its invariant: in each turn one full byte more is stored, and at the end the byte with spare bits. Assumes nothing.
use Rattle.std.proofs.Common.{[], ap, arith, length, ◌+◌, ◌/◌, ◌∙◌, ◌∷◌, ◌≡◌}
use Rattle.std.proofs.lemmas.Grind.{common_steps}
use Rattle.storing.proofs.WentLaws.{went_named, went_each_none, went_each-next}
use Rattle.writer.specs.Stored.{byte_of, fours}
use Rattle.writer.proofs.StoredLaws.{fours_before}
use Rattle.writer.proofs.ValueSteps.{all_small, four_packed}
use Rattle.writer.proofs.values.Values.put_packed.Goals as goal

pub loop-a-init : goal.loop-a-init
loop-a-init c = went_each_none _ _

pub loop-a-preserved : goal.loop-a-preserved
loop-a-preserved c =
    let is = four_packed c.args.self.values.now _ c.as_chunks.ensures.front c.loop-a.a-index (omega (arith, c.as_chunks.ensures.front_len)) in
    went_each-next c.loop-a.a-index _ c.loop-a.invariant (went_named (ap (λ x. x ∷ []) (c.pack.ensures ∙ is)) c.byte.ensures)

pub pack-requires : goal.pack-requires
pack-requires c = all_small c.args.self.values.now _ c.as_chunks.ensures.front c.loop-a.a-index (omega (arith, c.as_chunks.ensures.front_len)) c.args.self.small

pub byte-requires : goal.byte-requires
byte-requires c = omega (arith, fours_before c.loop-a.a-index (byte_of c.args.self.values.now))

pub byte-requires-then-not-is_empty : goal.byte-requires-then-not-is_empty
byte-requires-then-not-is_empty c = grind (arith, common_steps, fours_before c.loop-a.a-index (byte_of c.args.self.values.now))

pub returns-then-not-is_empty : goal.returns-then-not-is_empty
unfolding fours
returns-then-not-is_empty c =
    let values = c.args.self.values.now in
    let full : length c.as_chunks.result.0.now ≡ c.loop-a.a-index = omega arith in
    let last : (length values + 3) / 4 ≡ c.loop-a.a-index + 1 = grind (arith, common_steps) in
    rw last (went_each-next c.loop-a.a-index _ c.loop-a.invariant (went_named (ap (λ x. x ∷ []) (c.packed.ensures ∙ ap (byte_of values) full)) c.byte-then-not-is_empty.ensures))

pub returns-else-not-is_empty : goal.returns-else-not-is_empty
unfolding fours
returns-else-not-is_empty c =
    let all : (length c.args.self.values.now + 3) / 4 ≡ c.loop-a.a-index = grind (arith, common_steps) in
    rw all c.loop-a.invariant

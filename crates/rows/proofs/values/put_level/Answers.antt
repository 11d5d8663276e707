-- `rows::values::put_level` meets its contract: the goals that the check leaves open.
use Rattle.std.proofs.Common.{ap, arith, length, sym, ◌∷◌, ◌≡◌}
use Rattle.storing.proofs.WentLaws.{went_then, went_named}
use Rattle.rows.specs.Values.{minus_sign, metres, level_text}
use Rattle.rows.proofs.SizeLaws.{text_below, text_above}
use Rattle.rows.proofs.values.put_level.Goals as goal
use Rattle.rows.proofs.values.put_level.Goals.{Else-level-lt0, Then-level-lt0}

low : (c : Then-level-lt0) → level_text c.args.level ≡ minus_sign ∷ metres c.unsigned_abs-size.result
low c = text_below c.ranges.level c.unsigned_abs-size.ensures.value c.if-level-lt0.true

high : (c : Else-level-lt0) → level_text c.args.level ≡ metres c.unsigned_abs-size.result
high c = text_above c.ranges.level c.unsigned_abs-size.ensures.value c.if-level-lt0.false

pub returns-then-level-lt0 : goal.returns-then-level-lt0
returns-then-level-lt0 c = went_named (sym (low (goal.at.returns-then-level-lt0 c).Then-level-lt0)) (went_then c.byte.ensures c.put_metres.ensures)

pub returns-else-level-lt0 : goal.returns-else-level-lt0
returns-else-level-lt0 c = went_named (sym (high (goal.at.returns-else-level-lt0 c).Else-level-lt0)) c.put_metres-else-level-lt0.ensures

pub byte-requires : goal.byte-requires
byte-requires c = omega (arith, ap length (low (goal.at.byte-requires c).Then-level-lt0))

pub put_metres-requires : goal.put_metres-requires
put_metres-requires c = omega (arith, ap length (low (goal.at.put_metres-requires c).Then-level-lt0))

pub put_metres-requires-else-level-lt0 : goal.put_metres-requires-else-level-lt0
put_metres-requires-else-level-lt0 c = omega (arith, ap length (high (goal.at.put_metres-requires-else-level-lt0 c).Else-level-lt0))

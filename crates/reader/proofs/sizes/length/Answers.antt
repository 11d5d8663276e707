-- `reader::sizes::length`: the length where the sizes are allowed, and 0 where not. Assumes nothing.
use Rattle.std.proofs.Common.{sym, ◌∙◌}
use Rattle.directory.specs.Sizes.{headed}
use Rattle.records.proofs.FramedLaws.{allowed_room}
use Rattle.reader.proofs.HeadingLaws.{length_allowed, length_disallowed}
use Rattle.reader.proofs.sizes.length.Goals as goal

pub returns-then-allowed : goal.returns-then-allowed
returns-then-allowed c = let a = c.args in c.key_at.ensures ∙ length_allowed (headed a.n a.r a.v) (sym c.allowed.ensures ∙ c.if-allowed.true)

pub key_at-requires : goal.key_at-requires
key_at-requires c = let a = c.args in let w = allowed_room (headed a.n a.r a.v) (sym c.allowed.ensures ∙ c.if-allowed.true) in record { room = w.0; few = w.1 }

pub returns-else-allowed : goal.returns-else-allowed
returns-else-allowed c = let a = c.args in length_disallowed (headed a.n a.r a.v) (sym c.allowed.ensures ∙ c.if-allowed.false)

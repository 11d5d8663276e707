-- `storing::Pen::bytes` meets its contract: the buffer with a part of it replaced is the buffer with as many bytes stored one after the other.
use Rattle.std.proofs.Common.{arith, refl}
use Rattle.storing.proofs.WentLaws.{replaced}
use Rattle.storing.proofs.Pen.bytes.Goals as goal

pub returns : goal.returns
returns c = record { same_buffer = refl; wrote = replaced c.requires (omega arith) refl c.copy_from_slice.ensures.after }

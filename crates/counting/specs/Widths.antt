-- What one byte, and two, hold: every number below these. Assumes nothing.
use Rattle.std.specs.Prelude.{ℕ}

abbrev pub one_byte : ℕ
one_byte = 256

abbrev pub two_bytes : ℕ
two_bytes = 65536

-- Bytes that went into the buffer of a pen. Assumes nothing.
use Rattle.std.specs.Prelude.{◌≡◌, List, ℕ, ◌+◌, ◌≤◌, length}
use Rattle.counting.specs.Wrote.{Wrote}
use Rattle.storing.specs.declared.Pen.{Pen}

-- the buffer has room for n bytes more
abbrev pub RoomFor : ℕ → Pen → Type 0
RoomFor n pen = pen.at + n ≤ length pen.buffer.now

-- the bytes went from where the pen stood on, into the buffer that it still holds, and it stands past them
pub record Went (bytes : List ℕ) (before after : Pen) : Type 0 where
  pub same_buffer : after.buffer.ghost_name ≡ before.buffer.ghost_name
  pub wrote : Wrote before.at bytes before.buffer.now after.buffer.now after.at

-- Bytes stored one after the other in a buffer. Assumes nothing.
use Rattle.std.specs.Prelude.{◌≡◌, List, ℕ, ◌+◌, length}
use Rattle.std.proofs.lemmas.List.Edits.{sets}

-- `bytes` went from `at` on into a buffer that was `before` and is `after`, and `to` is the place past them
pub record Wrote (at : ℕ) (bytes before after : List ℕ) (to : ℕ) : Type 0 where
  pub next : to ≡ at + length bytes
  pub stored : after ≡ sets before at bytes
  pub long : length after ≡ length before

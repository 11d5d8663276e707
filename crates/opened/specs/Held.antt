-- The opened directory as one thing: the file's slice with its n, r and v. Assumes nothing.
use Rattle.std.specs.Prelude.{List, ℕ, Ok, Err}
use Rattle.std.specs.Borrow.{Bor}
use Rattle.directory.specs.Sizes.{Header, headed}
use Rattle.directory.specs.Answers.{Opening}
use Rattle.directory.specs.Calls.{open_of}
use Rattle.opened.specs.declared.Opened.{Opened}

-- those that opening gives: a refusal has none, and leaves them 0
abbrev pub numbers_in : Opening → Header
numbers_in (Ok h) = h
numbers_in (Err why) = headed 0 0 0

unfoldable pub numbers_of : List ℕ → Header
numbers_of f = numbers_in (open_of f)

-- a slice, held with the numbers of its bytes
abbrev pub held : Bor (List ℕ) → Opened
held file = record { file = file; header = numbers_of file.now }

-- The KY records stand inside the file, so a stored code is as long as its record says. Assumes nothing.
use Rattle.std.specs.Prelude.{◌≡◌, List, length}
use Prim.Native.Nat.{ℕ, suc, ◌+◌, ◌*◌, ◌≤◌, ◌<◌}
use Rattle.std.proofs.Math.Nat.{mul-suc, mul-le-mul_left}
use Rattle.std.proofs.Common.{arith, length-take, length-drop}
use Rattle.directory.specs.Sizes.{Header}
use Rattle.directory.specs.Kind.{Kind}
use Rattle.directory.specs.File.{key_head, key_at, code_at, file_length, key_length, stored_code}

module _ (K : Kind) (h : Header) where
  open K use {positions}
  open h use {n}

  pub key_inside : (l : ℕ) → l < n → code_at K h l + positions ≤ file_length K h
  unfolding code_at key_at file_length
  key_inside l m = let a : (key_head + positions) * suc l ≤ (key_head + positions) * n = mul-le-mul_left (key_head + positions) m in omega (arith, a, mul-suc (key_head + positions) l)

  pub stored-length : (f : List ℕ) → length f ≡ file_length K h → (l : ℕ) → l < n → key_length K h f l ≤ positions → length (stored_code K h f l) ≡ key_length K h f l
  unfolding stored_code
  stored-length f size l m most = rw (length-take, length-drop) (omega (arith, key_inside l m))

-- The larger of two numbers. Assumes nothing.
use Rattle.std.specs.Prelude.{cond, ℕ, ltb}

unfoldable pub larger : ℕ → ℕ → ℕ
larger a b = cond (ltb a b) b a

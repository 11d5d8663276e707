-- `texts::numbers::read_number`. The invariant: the characters so far are digits, and x is their number.
use Rattle.std.proofs.Common.{get_or, true, ℕ, ◌<◌, ◌≡◌, ◌≤◌}
use Rattle.texts.specs.Numbers.{is_digit, value_of_first}
use Rattle.texts.proofs.numbers.read_number.Given as goal

abbrev pub invariant-loop-b : goal.invariant-loop-b
invariant-loop-b l = (l.x ≡ value_of_first l.word l.b-index) × (l.x ≤ l.most) × ((k : ℕ) → k < l.b-index → is_digit (get_or l.word k 0) ≡ true)

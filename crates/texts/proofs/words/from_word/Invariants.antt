-- `texts::words::from_word`. The invariant: the text from word `_i` on is left.
use Rattle.std.proofs.Common.{◌≡◌}
use Rattle.texts.specs.Words.{from_word}
use Rattle.texts.proofs.words.from_word.Given as goal

abbrev pub invariant-loop-i : goal.invariant-loop-i
invariant-loop-i l = l.rest ≡ from_word l.text l._i

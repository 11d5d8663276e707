-- The directory of the codes and weights of two texts: the answer, and the buffer afterwards. Assumes nothing.
use Rattle.std.specs.Prelude.{List, ℕ, Result, Ok, Err}
use Rattle.directory.specs.Answers.{Built}
use Rattle.directory.specs.Building.{Lent, lent}
use Rattle.directory.specs.Calls.{build_of, buffer_after_of}
use Rattle.texts.specs.declared.Codes.{Codes}
use Rattle.texts.specs.declared.WrongLine.{WrongLine}
use Rattle.texts.specs.declared.WrongWord.{WrongWord}
use Rattle.texts.specs.Reading.{run_of, ends_of, codes_of, values_of, weights_of}
use Rattle.making.specs.declared.NotMade.{NotMade}
use Rattle.making.specs.declared.NotMade.TheVariants.{Line, Word, Refused}

-- ---- what is lent to building: the codes of the lines, one after the other, and the weights

abbrev pub lent_of : List ℕ → List ℕ → ℕ → ℕ → List ℕ → Lent
lent_of c w r v buffer = lent (run_of c) (ends_of c) r v (values_of w) buffer

-- ---- first the codes are read, then the weights, and then it is built

abbrev pub after_building : ℕ → Built → Result ℕ NotMade
after_building n (Ok most) = Ok n
after_building n (Err why) = Err (Refused why)

abbrev pub after_weights : ℕ → Built → Result ℕ WrongWord → Result ℕ NotMade
after_weights n b (Err wrong) = Err (Word wrong)
after_weights n b (Ok count) = after_building n b

abbrev pub after_codes : Built → Result ℕ WrongWord → Result Codes WrongLine → Result ℕ NotMade
after_codes b w (Err wrong) = Err (Line wrong)
after_codes b w (Ok codes) = after_weights codes.count b w

unfoldable pub made_of : List ℕ → List ℕ → ℕ → ℕ → List ℕ → Result ℕ NotMade
made_of c w r v buffer = after_codes (build_of (lent_of c w r v buffer)) (weights_of w) (codes_of c)

-- ---- the buffer is as building leaves it, and as it was where nothing is built

abbrev pub kept_or_built : List ℕ → List ℕ → Result Codes WrongLine → Result ℕ WrongWord → List ℕ
kept_or_built was is (Err wrong) w = was
kept_or_built was is (Ok codes) (Err wrong) = was
kept_or_built was is (Ok codes) (Ok count) = is

unfoldable pub made_buffer : List ℕ → List ℕ → ℕ → ℕ → List ℕ → List ℕ
made_buffer c w r v buffer = kept_or_built buffer (buffer_after_of (lent_of c w r v buffer)) (codes_of c) (weights_of w)

-- The answers as C has them: each of the paper's numbers under its name. Assumes nothing.
use Rattle.std.specs.Prelude.{ℕ, ℤ}
use Rattle.directory.specs.declared.Part.{Part}
use Rattle.dronesickle.specs.declared.answers.DsAnswer.{DsAnswer}
use Rattle.dronesickle.specs.declared.answers.DsCounted.{DsCounted}
use Rattle.dronesickle.specs.declared.answers.DsOpened.{DsOpened}
use Rattle.dronesickle.specs.declared.answers.DsFound.{DsFound}
use Rattle.dronesickle.specs.declared.answers.DsPart.{DsPart}
use Rattle.dronesickle.specs.declared.answers.DsReported.{DsReported}
use Rattle.dronesickle.specs.declared.answers.DsAsked.{DsAsked}

abbrev pub counted : ℕ × ℕ × ℕ → DsCounted
counted (number, place, most) = record { number = number; place = place; most_waiting = most }

-- without the count
abbrev pub answer : ℕ × ℕ × ℕ → DsAnswer
answer (number, place, most) = record { number = number; place = place }

abbrev pub opened : ℕ × ℕ × ℕ × ℕ × ℕ → DsOpened
opened (number, place, n, r, v) = record { number = number; place = place; n = n; r = r; v = v }

abbrev pub found : ℕ × ℕ × ℕ × ℕ → DsFound
found (kind, number, place, line) = record { kind = kind; number = number; place = place; line = line }

abbrev pub part : Part → DsPart
part p = record { start = p.start; length = p.size }

abbrev pub reported : ℕ × ℕ × ℕ × ℕ → DsReported
reported (kind, number, place, line) = record { kind = kind; number = number; place = place; line = line }

abbrev pub asked : ℕ × ℕ × ℕ × ℤ × ℕ → DsAsked
asked (kind, number, place, level, age) = record { kind = kind; number = number; place = place; level = level; age = age }

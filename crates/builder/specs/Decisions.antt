-- What a build decides in two steps: by what is lent, 1 to 6, and then by the codes and their graph, 7 and 8. Assumes nothing.
use Rattle.std.specs.Prelude.{List, ◌++◌, ℕ, drop, Result}
use Rattle.graph.specs.Waiting.{most_waiting}
use Rattle.directory.specs.declared.Refused.{Refused}
use Rattle.directory.specs.Answers.{Built}
use Rattle.directory.specs.Kind.{HD}
use Rattle.directory.specs.Refusals.{first, ok_unless}
use Rattle.directory.specs.Building.{Lent, graph, file_of, length_needed, lent_refusals, graph_refusals}

abbrev pub of_lent : Lent → Result (Unit {0}) Refused
of_lent I = ok_unless tt (lent_refusals HD I)

abbrev pub of_graph : Lent → Built
of_graph I = ok_unless (most_waiting (graph HD I)) (graph_refusals HD I)

-- the buffer with the file at its start
abbrev pub with_file : Lent → List ℕ
with_file I = file_of HD I ++ drop (length_needed HD I) I.buffer

-- the buffer afterwards, where 1 to 6 do not apply
abbrev pub after_graph : Lent → List ℕ
after_graph I = first (with_file I) (λ reason place. I.buffer) (graph_refusals HD I)

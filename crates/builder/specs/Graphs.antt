-- What is lent with a buffer, the graph of a code list in arrays, and what the arrays hold in the end. Assumes nothing.
use Rattle.std.specs.Prelude.{◌≡◌, List, ℕ, ◌*◌, ◌≤◌, length}
use Rattle.graph.specs.Peeling.{number_left}
use Rattle.graph.specs.Assignment.{blocks}
use Rattle.peeling.specs.Arranging.{Lined}
use Rattle.directory.specs.Kind.{HD}
use Rattle.directory.specs.Building.{Lent, lent, graph}
use Rattle.directory.specs.Lending.{WithinLimits}
use Rattle.lists.specs.declared.edges.Checked.{Checked}
use Rattle.builder.specs.declared.lending.Lent as declared

-- what is lent, as the definitions have it
abbrev pub lent_of : declared.Lent → List ℕ → Lent
lent_of I buffer = lent I.list.run.now I.list.ends.now I.r I.v I.weights.now buffer

-- the same, once it is checked
abbrev pub checked_with : Checked → List ℕ → Lent
checked_with I buffer = lent I.codes.list.run.now I.codes.list.ends.now I.naming.r I.naming.v I.naming.weights.now buffer

-- arrays long enough for the values, the rank entries and the codes in the order of their lines
pub record Arrangeable (r v : ℕ) (ends values rank keys : List ℕ) : Type 0 where
  pub for_values : r * v ≤ length values
  pub for_rank : blocks (r * v) ≤ length rank
  pub for_keys : length ends ≤ length keys

-- no code is left over, the arrays hold what is to be written, and it fits the buffer
pub record Settled (I : Lent) (values rank keys : List ℕ) : Type 0 where
  pub within : WithinLimits HD I
  pub nothing : number_left (graph HD I) ≡ 0
  pub lined : Lined (graph HD I) values rank keys
  pub for_values : I.r * I.v ≤ length values
  pub for_rank : blocks (I.r * I.v) ≤ length rank
  pub for_keys : length I.ends ≤ length keys

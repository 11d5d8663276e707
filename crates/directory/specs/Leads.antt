-- Where a code leads by the stored values: document 01, "Numbers given back", on looking up. Assumes nothing.
use Rattle.std.specs.Prelude.{Bool, false, cond, ℕ, ◌/◌, eqb, ltb}
use Rattle.graph.specs.Assignment.{assigned, landing, block_size}
use Rattle.directory.specs.declared.Lead.{Lead}
use Rattle.directory.specs.declared.Lead.TheVariants.{Nowhere, ToLine, PastLast}
use Rattle.directory.specs.Sizes.{Header}
use Rattle.directory.specs.Values.{value_in, line_in}

-- the code with the vertices vertex 0, vertex 1, .., by the bytes T from the mark of GV on: to no line where its landing vertex is unassigned; otherwise to that vertex's line, which may be n or more
unfoldable pub lead_of : Header → (ℕ → ℕ) → (ℕ → ℕ) → Lead
lead_of h T vertex =
    let y = landing h.r (value_in T) vertex in
    let l = line_in h T y in
    cond (assigned h.r (value_in T y)) (cond (ltb l h.n) (ToLine l) (PastLast (y / block_size))) Nowhere

-- the test that a code leads to line l
abbrev pub leads_to : ℕ → Lead → Bool
leads_to l Nowhere = false
leads_to l (ToLine k) = eqb k l
leads_to l (PastLast b) = false

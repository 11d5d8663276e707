-- What a build within the limits writes, where nothing is left over: the file is whole, each code is found at its line, and the lines are 0 to n-1. Assumes nothing.
use Rattle.std.specs.Prelude.{Ok, Some, None, ◌≡◌, refl, ◌⊎◌, ◌≢◌, Bool, true, false, List, ℕ, ◌≤◌, ◌<◌, length}
use Rattle.std.proofs.Common.{sym, ◌∙◌, inl, inr, arith}
use Rattle.std.proofs.Math.Path.{ap}
use borrow.Author.Tests.{eqb-false, not-true}
use Rattle.graph.specs.Graph.{Graph, Proper}
use Rattle.graph.specs.Peeling.{number_left}
use Rattle.graph.specs.Assignment.{assigned_below, values, landing_vertex, line, edge_of_line}
use Rattle.graph.proofs.AssignmentLaws.{values_most}
use Rattle.graph.proofs.LandingLaws.{landing_inside, landing-assigned, assigned-number}
use Rattle.graph.proofs.LineLaws.{line-below, line_own, line_onto, edge_line, line_edge}
use Rattle.directory.specs.Sizes.{headed, Header}
use Rattle.directory.specs.Codes.{wrong_length}
use Rattle.directory.proofs.CodesLaws.{code-length, length-right}
use Rattle.directory.specs.Kind.{Kind}
use Rattle.directory.proofs.ValueLaws.{value_back}
use Rattle.directory.specs.File.{header_in, file_length, stored_code}
use Rattle.directory.proofs.FileLaws.{header_back, table_back, code_back, file_framed, file_marks, file-key}
use Rattle.directory.proofs.FileTableLaws.{landing_back, below_back, file-table}
use Rattle.directory.specs.Building.{Lent, header, weight, code_of, graph, line_of, key, file_of}
use Rattle.directory.specs.Lending.{WithinLimits}
use Rattle.directory.proofs.GraphLaws.{graph_proper}
use Rattle.directory.specs.Whole.{value_of, landing_of, LeadsTo, Whole}
use Rattle.directory.specs.Opening.{opening}
use Rattle.directory.proofs.OpeningLaws.{opening-opened}
use Rattle.directory.specs.LookingUp.{lookup}
use Rattle.directory.specs.Showing.{shown}
use Rattle.directory.proofs.OpenedLaws.{lookup-stored, lookup_sixteen, lookup_unknown, shows_stored}
use Rattle.directory.specs.declared.Reason.TheVariants.{WrongCode}
use Rattle.directory.specs.Refusals.{refused}

module _ (K : Kind) (I : Lent) (w : WithinLimits K I) (nothing : number_left (graph K I) ≡ 0) where
  open K use {positions}
  open I use {run, ends, r, v}

  abbrev n : ℕ
  n = length ends

  abbrev h : Header
  h = header K I

  abbrev G : Graph
  G = graph K I

  abbrev f : List ℕ
  f = file_of K I

  proper : Proper G
  proper = graph_proper K I (omega (arith, w.sizes.two)) w.sizes.some

  -- ---- the lines are 0 to n-1, each once

  pub lines-below : (k : ℕ) → k < n → line_of K I k < n
  unfolding line_of graph
  lines-below = line-below G proper nothing

  pub lines_own : (i k : ℕ) → i < n → k < n → line_of K I i ≡ line_of K I k → i ≡ k
  unfolding line_of graph
  lines_own = line_own G proper nothing

  pub lines_onto : (l : ℕ) → l < n → (k : ℕ) × (k < n) × (line_of K I k ≡ l)
  unfolding line_of graph
  lines_onto = line_onto G proper nothing

  -- ---- the codes, by their place in the list and by their line

  code_bytes : (k : ℕ) → k < n → (1 ≤ length (code_of K I k)) × (length (code_of K I k) ≤ positions)
  unfolding code_of
  code_bytes k l = let c = w.codes k l in let e = code-length positions run ends k c in (omega (arith, c.some), omega (arith, c.short))

  pub edge_below : (l : ℕ) → l < n → edge_of_line G l < n
  unfolding graph
  edge_below l m = (edge_line G proper nothing l m).0

  key_bytes : (l : ℕ) → l < n → (1 ≤ length (key K I l)) × (length (key K I l) ≤ positions)
  unfolding key
  key_bytes l m = code_bytes (edge_of_line G l) (edge_below l m)

  short : (l : ℕ) → l < n → length (key K I l) ≤ positions
  short l m = (key_bytes l m).1

  key-line : (k : ℕ) → k < n → key K I (line_of K I k) ≡ code_of K I k
  unfolding key line_of graph
  key-line k l = ap (code_of K I) (line_edge G proper nothing k l)

  -- ---- the file is whole

  pub small : (x : ℕ) → values G x ≤ 3
  unfolding graph
  small x = omega (arith, values_most G x, w.sizes.three)

  -- the code of line l lands in the file where its edge lands, ..
  lands : (l : ℕ) → l < n → landing_of K h f (key K I l) ≡ landing_vertex G (edge_of_line G l)
  unfolding file_of key graph landing_vertex
  lands l m = landing_back K h (weight K I) (values G) (key K I) (λ x b. small x) (omega (arith, w.sizes.two)) w.sizes.some (key K I l) (short l m)

  -- .. so it leads to l
  home : (l : ℕ) → l < n → LeadsTo K h f (key K I l) l
  unfolding file_of graph line
  home l m =
      let e = edge_line G proper nothing l m in
      let inside = landing_inside G proper (edge_of_line G l) e.0 in
      record {
        assigned = λ i. eqb-false _ r (not-true _ (landing-assigned G proper nothing (edge_of_line G l) e.0)) (sym (value_back h (values G) (table_back K h (weight K I) (values G) (key K I)) (λ x b. small x) _ inside) ∙ ap (value_of K h f) (sym (lands l m)) ∙ i);
        below = ap (assigned_below r (value_of K h f)) (lands l m) ∙ below_back K h (weight K I) (values G) (key K I) (λ x b. small x) _ (omega (arith, inside)) ∙ e.1;
      }

  pub file_whole : Whole K h f
  unfolding file_of graph
  file_whole =
      record {
        framed = file_framed K h (weight K I) (values G) (key K I) short w.sizes;
        marks = file_marks K h (weight K I) (values G) (key K I) short;
        table = file-table K h (weight K I) (values G) (key K I) w.sizes.three (λ x b. values_most G x) (assigned-number G proper nothing);
        keys = λ l m. file-key K h (weight K I) (values G) (key K I) short l m (key_bytes l m).0;
        homes = λ l m. rw (code_back K h (weight K I) (values G) (key K I) short l m) (home l m);
      }

  pub file-length : length f ≡ file_length K h
  file-length = file_whole.framed.size

  -- ---- what it gives

  file-header : header_in f ≡ h
  unfolding file_of
  file-header = header_back K h (weight K I) (values G) (key K I)

  its_whole : Whole K (header_in f) f
  its_whole = rw file-header file_whole

  stored : (l : ℕ) → l < n → stored_code K (header_in f) f l ≡ key K I l
  unfolding file_of
  stored l m = rw file-header (code_back K h (weight K I) (values G) (key K I) short l m)

  pub file_opens : opening K f ≡ Ok (headed n r v)
  file_opens = (opening-opened K f n r v).1 (file-header, file_whole)

  pub code-found : (k : ℕ) → k < n → lookup K f (code_of K I k) ≡ Ok (Some (line_of K I k))
  code-found k l = (lookup-stored K f its_whole (code_of K I k) (line_of K I k)).1 (rw file-header (lines-below k l), stored (line_of K I k) (lines-below k l) ∙ key-line k l)

  pub line_shows : (k : ℕ) → k < n → shown K f (line_of K I k) ≡ code_of K I k
  line_shows k l = shows_stored K f its_whole (line_of K I k) (rw file-header (lines-below k l)) ∙ stored (line_of K I k) (lines-below k l) ∙ key-line k l

  -- a code that is none of the list is stored at no line, so it is unknown, or refused with 16
  module _ (t : List ℕ) (other : (k : ℕ) → k < n → code_of K I k ≢ t) where
    not-stored : (l : ℕ) → l < (header_in f).n → stored_code K (header_in f) f l ≢ t
    unfolding key
    not-stored l m e = let b : l < n = (rw file-header at m) in other (edge_of_line G l) (edge_below l b) (sym (stored l b) ∙ e)

    pub stranger : (lookup K f t ≡ Ok None) ⊎ (lookup K f t ≡ refused WrongCode 0)
    stranger = go (wrong_length positions (length t)) refl
      where
        go : (b : Bool) → wrong_length positions (length t) ≡ b → (lookup K f t ≡ Ok None) ⊎ (lookup K f t ≡ refused WrongCode 0)
        go true u = inr (lookup_sixteen K f its_whole t u)
        go false u = let c = (length-right positions (length t)).0 u in inl ((lookup_unknown K f its_whole t).1 (c.0, c.1, not-stored))

-- The order of the removal list: each edge has a vertex that no later one names. Assumes nothing.
use Rattle.std.specs.Prelude.{◌≡◌, refl, false, List, [], ◌∷◌, ◌++◌, ℕ, zero, suc, ◌+◌, ◌≤◌, ◌<◌, eqb, length, drop, get_or}
use Rattle.std.proofs.Common.{sym, ◌∙◌, append_assoc, append-nil, arith}
use Rattle.std.proofs.Math.Path.{ap}
use Rattle.counting.proofs.TestLaws.{never_true}
use Rattle.counting.specs.Below.{bit}
use Rattle.counting.proofs.CountLaws.{bit_self}
use Rattle.counting.specs.Lists.{occurrences}
use Rattle.counting.proofs.OccurrenceLaws.{occurrences-append, occurrences_back}
use Rattle.graph.specs.Graph.{Graph, names}
use Rattle.graph.specs.Peeling.{unremoved, removal_list}
use Rattle.graph.specs.Run.{Reached, start, step}
use Rattle.graph.proofs.DegreeLaws.{absent_unremoved, names_at, degree-one}
use Rattle.graph.proofs.PeelingLaws.{front_edge, front_absent, reached_peeled, removal_reached, removal_once, removal_edges}

-- vertex number `place` of edge e is named by none of the later edges
pub record Leads (G : Graph) (e : ℕ) (later : List ℕ) : Type 0 where
  pub is_edge : e < G.edges
  pub place : ℕ
  pub is_place : place < G.arity
  pub free : (f : ℕ) → 1 ≤ occurrences f later → names G f (G.vertex_of e place) ≡ false

-- each edge of the list has such a vertex
pub data Ordered (G : Graph) : List ℕ → Type 0 where
  none : Ordered G []
  more : {e : ℕ} {later : List ℕ} → Leads G e later → Ordered G later → Ordered G (e ∷ later)

module _ (G : Graph) where
  open G use {edges, arity, vertex_of}

  -- ---- of any list

  pub ordered_drop : (k : ℕ) {l : List ℕ} → Ordered G l → Ordered G (drop k l)
  ordered_drop zero o = o
  ordered_drop (suc k) none = none
  ordered_drop (suc k) (more w o) = ordered_drop k o

  pub ordered_at : {l : List ℕ} → Ordered G l → (k : ℕ) → k < length l → Leads G (get_or l k 0) (drop (suc k) l)
  ordered_at none k h = absurd (omega arith)
  ordered_at (more w o) zero h = w
  ordered_at (more w o) (suc k) h = ordered_at o k (omega arith)

  -- ---- of the removal list

  -- the front has a vertex of degree 1: what is removed after it does not name that vertex
  front_leads : {removed : List ℕ} {front : ℕ} {waiting : List ℕ} → Reached G removed (front ∷ waiting) → (later : List ℕ) → removed ++ front ∷ [] ++ later ≡ removal_list G → Leads G front later
  unfolding occurrences
  front_leads {removed} {front} r later i =
      let s = (reached_peeled G r).sound in
      let w = s.alone front (omega (arith, bit_self front)) in
      record {
        is_edge = front_edge G s;
        place = w.0;
        is_place = w.1;
        free =
            λ f m.
            never_true (names G f (vertex_of front w.0))
            (λ t.
            let all : occurrences f (removal_list G) ≡ occurrences f removed + bit (eqb f front) + occurrences f later = ap (occurrences f) (sym i) ∙ omega (arith, occurrences-append f (removed ++ front ∷ []) later, occurrences_back f front removed) in
            let same : f ≡ front = degree-one G (unremoved removed) (vertex_of front w.0) f front w.2 (removal_edges G f (omega arith)) (front_edge G s) (absent_unremoved removed f (omega (arith, removal_once G f))) (absent_unremoved removed front (front_absent G s)) t (names_at G front w.0 _ w.1 refl) in
            omega (arith, removal_once G f, ap (λ g. bit (eqb g front)) same, bit_self front));
      }

  -- from a moment of the run back to its start
  ordered_back : {removed waiting : List ℕ} → Reached G removed waiting → (later : List ℕ) → removed ++ later ≡ removal_list G → Ordered G later → Ordered G (removal_list G)
  ordered_back start later i o = rw (← i) o
  ordered_back (step {removed} {front} r) later i o = ordered_back r (front ∷ later) (sym (append_assoc removed (front ∷ []) later) ∙ i) (more (front_leads r later i) o)

  pub removal_ordered : Ordered G (removal_list G)
  removal_ordered = ordered_back (removal_reached G) [] (append-nil (removal_list G)) none

-- One turn of the loop that makes the first queue, over the arrays. Assumes nothing.
-- D, M and O stand for the arrays of degrees, marks and order.
use Rattle.std.specs.Prelude.{◌≡◌, refl, Bool, true, false, List, [], ◌∷◌, ◌++◌, ℕ, ◌+◌, ◌≤◌, ◌<◌, eqb, ltb, length, get_or, set, take, Option, Some, None, is_some}
use Rattle.std.proofs.Common.{sym, ◌∙◌, arith, take-suc-set, lt-ltb, le-ltb}
use Rattle.std.proofs.Math.Path.{ap}
use Rattle.std.proofs.Math.Numerals.{add-one}
use Rattle.std.proofs.Math.ListN.{length-set}
use Rattle.counting.specs.Below.{bit, any, lowest, those, FindsLowest}
use Rattle.counting.proofs.SearchLaws.{any_equal, any-lowest}
use Rattle.counting.specs.Lists.{occurrences}
use Rattle.counting.proofs.OccurrenceLaws.{those_once}
use Rattle.graph.specs.Graph.{Graph}
use Rattle.graph.specs.Peeling.{degree, first_waiting}
use Rattle.counting.specs.Holds.{Holds}
use Rattle.removal.specs.Arrays.{vertex_at, graph_in, Held}
use Rattle.counting.proofs.HoldsLaws.{holds_none, holds_more}
use Rattle.removal.specs.Queue.{Queued}

-- edge e has a vertex of degree 1 before anything is removed
abbrev pub has_one : Graph → ℕ → Bool
has_one G e = any G.arity (λ j. eqb (degree G [] (G.vertex_of e j)) 1)

-- the first e edges are looked at, and t of them wait
pub record Starting (G : Graph) (M O : List ℕ) (e t : ℕ) : Type 0 where
  pub most : e ≤ G.edges
  pub low : t ≤ e
  pub for_marks : length M ≡ G.edges
  pub for_order : length O ≡ G.edges
  pub list : take t O ≡ those e (has_one G)
  pub marks : Holds e (λ f. bit (has_one G f)) M

pub starting_none : (G : Graph) (M O : List ℕ) → length M ≡ G.edges → length O ≡ G.edges → Starting G M O 0 0
unfolding those
starting_none G M O p q = record { most = omega arith; low = omega arith; for_marks = p; for_order = q; list = refl; marks = holds_none _ M }

module _ {G : Graph} {M O : List ℕ} {e t : ℕ} (s : Starting G M O e t) (l : e < G.edges) where
  pub starting_in : has_one G e ≡ true → Starting G (set M e 1) (set O t e) (e + 1) (t + 1)
  unfolding those
  starting_in h =
      record {
        most = omega arith;
        low = omega (arith, s.low);
        for_marks = length-set M e 1 ∙ s.for_marks;
        for_order = length-set O t e ∙ s.for_order;
        list = rw (add-one t, add-one e, h) (take-suc-set O t e (omega (arith, s.low, s.for_order)) ∙ ap (λ k. k ++ e ∷ []) s.list);
        marks = holds_more e _ M 1 s.marks (omega (arith, s.for_marks)) (sym (ap bit h));
      }

  pub starting_out : has_one G e ≡ false → Starting G (set M e 0) O (e + 1) t
  unfolding those
  starting_out h =
      record {
        most = omega arith;
        low = omega (arith, s.low);
        for_marks = length-set M e 0 ∙ s.for_marks;
        for_order = s.for_order;
        list = rw (add-one e, h) s.list;
        marks = holds_more e _ M 0 s.marks (omega (arith, s.for_marks)) (sym (ap bit h));
      }

pub starting_all : {G : Graph} {M O : List ℕ} {e t : ℕ} → Starting G M O e t → G.edges ≤ e → Queued G.edges [] (first_waiting G) M O t
unfolding first_waiting occurrences
starting_all {G} {e = e} s h =
    let all : e ≡ G.edges = omega (arith, s.most) in
    record {
      high = omega (arith, s.low);
      list = rw all at s.list;
      marks = λ f l. omega (arith, s.marks f (omega arith), those_once G.edges (has_one G) f l);
    }

-- ---- the search for a vertex of degree 1 tells whether there is one

module _ {n r m : ℕ} {edges : List ℕ} (held : Held n r m edges) (D : List ℕ) (counted : Holds m (degree (graph_in n r m edges) []) D) {e : ℕ} (l : e < n) where
  abbrev test : ℕ → Bool
  test k = eqb (get_or D (vertex_at r edges e k) 0) 1

  is_below : has_one (graph_in n r m edges) e ≡ ltb (lowest r test) r
  is_below = any_equal r _ _ (λ k b. ap (λ d. eqb d 1) (sym (counted (vertex_at r edges e k) (held.proper.inside e k l b)))) ∙ any-lowest r _

  pub has_found : (found : Option ℕ) → FindsLowest r test found → has_one (graph_in n r m edges) e ≡ is_some found
  has_found (Some j) f = is_below ∙ lt-ltb (lowest r test) r (omega (arith, f.0, f.1))
  has_found None f = is_below ∙ le-ltb (lowest r test) r (omega (arith, f))

-- The assignment of an ordered list of edges: which vertices are visited, and which values they get. Assumes nothing.
use Rattle.std.specs.Prelude.{◌≡◌, ◌≢◌, Bool, ◌||◌, ℕ, ◌+◌, ◌-◌, ◌*◌, ◌/◌, ◌%◌, ◌≤◌, ◌<◌, drop}
use Rattle.std.proofs.Math.Path.{refl}
use Rattle.std.proofs.Common.{sym, ap, ◌∙◌, mod-lt, mod-eq_of_lt, div-add-mod', eq-eqb, ne_eqb}
use Rattle.std.proofs.Math.Logic.{⊎_elim}
use Rattle.std.proofs.Math.Bool.{true, false, not, cond}
use mathlib.Core.List.{List, [], ◌∷◌}
use Rattle.std.proofs.Math.Nat.{mod_self, zero-mod, add-mod-mod, add-mul-mod_self_right}
use native.Mathlib.Omega.{arith}
use Rattle.std.proofs.lemmas.Bool.{not-true}
use Rattle.counting.proofs.TestLaws.{eq?, clash, never_true, or_either, or_second, or_neither}
use Rattle.counting.specs.Below.{sum}
use Rattle.counting.proofs.BelowLaws.{sum-mod}
use Rattle.counting.proofs.CountLaws.{bit_self}
use Rattle.counting.proofs.SearchLaws.{lowest_some}
use Rattle.counting.specs.Lists.{occurrences}
use Rattle.counting.proofs.OccurrenceLaws.{occurrences_front}
use Rattle.graph.specs.Graph.{Graph, names}
use Rattle.graph.specs.Peeling.{removal_list}
use Rattle.graph.specs.Assignment.{minus_mod, first_unvisited, visited_sum, assign_edge, fresh, assign, values}
use Rattle.graph.proofs.DegreeLaws.{names_at}
use Rattle.graph.proofs.OrderLaws.{Leads, Ordered, none, more, ordered_drop, removal_ordered}

-- (j - s) mod r makes up what s lacks to j
pub minus_mod-sum : (r j s : ℕ) → j < r → (s + minus_mod r j s) % r ≡ j
unfolding minus_mod
minus_mod-sum r j s l =
    let a : s + (j + (r - s % r)) ≡ j + (s / r + 1) * r = omega (arith, div-add-mod' s r, mod-lt s {m = r} (omega arith)) in
    add-mod-mod s (j + (r - s % r)) r ∙ ap (λ k. k % r) a ∙ add-mul-mod_self_right j (s / r + 1) r ∙ mod-eq_of_lt l

-- for a sum of at most r values of at most r it is one remainder
pub minus_mod_square : (r j s : ℕ) → 1 ≤ r → s ≤ r * r → (j + (r * r - s)) % r ≡ minus_mod r j s
unfolding minus_mod
minus_mod_square r j s some l =
    let a : j + (r * r - s) + (s / r + 1) * r ≡ j + (r - s % r) + r * r = omega (arith, div-add-mod' s r, mod-lt s some) in
    sym (add-mul-mod_self_right (j + (r * r - s)) (s / r + 1) r) ∙ ap (λ k. k % r) a ∙ add-mul-mod_self_right (j + (r - s % r)) r r

module _ (G : Graph) where
  open G use {arity, vertex_of}

  -- ---- exactly the vertices that the edges of the list name are visited

  pub names_visited : (l : List ℕ) (e x : ℕ) → 1 ≤ occurrences e l → names G e x ≡ true → (assign G l).visited x ≡ true
  unfolding assign assign_edge occurrences
  names_visited [] e x m t = absurd (omega arith)
  names_visited (f ∷ l) e x m t =
      ⊎_elim
      (λ (i : e ≡ f). or_second ((assign G l).visited x) (names G f x) (rw i at t))
      (λ (m : 1 ≤ occurrences e l). rw (names_visited l e x m t))
      (occurrences_front e f l m)

  pub visited_names : (l : List ℕ) (x : ℕ) → (assign G l).visited x ≡ true → (e : ℕ) × (1 ≤ occurrences e l) × (names G e x ≡ true)
  unfolding assign fresh assign_edge occurrences
  visited_names [] x t = absurd (clash t refl)
  visited_names (f ∷ l) x t =
      ⊎_elim
      (λ (s : (assign G l).visited x ≡ true). let w = visited_names l x s in (w.0, omega arith, w.2))
      (λ (s : names G f x ≡ true). (f, omega (arith, bit_self f), s))
      (or_either ((assign G l).visited x) (names G f x) t)

  -- ---- one edge more, before the later ones

  -- its vertices are visited, and no other besides
  pub visited_named : (e : ℕ) (later : List ℕ) (x : ℕ) → names G e x ≡ true → (assign G (e ∷ later)).visited x ≡ true
  unfolding assign assign_edge
  visited_named e later x t = or_second ((assign G later).visited x) (names G e x) t

  pub visited_unnamed : (e : ℕ) (later : List ℕ) (x : ℕ) → names G e x ≡ false → (assign G (e ∷ later)).visited x ≡ (assign G later).visited x
  unfolding assign assign_edge
  visited_unnamed e later x t = rw t (only ((assign G later).visited x))
    where
      only : (b : Bool) → b || false ≡ b
      only true = refl
      only false = refl

  -- the vertex that gets a value with it: the first of its vertices that they leave unvisited
  abbrev pub new_vertex : ℕ → List ℕ → ℕ
  new_vertex e later = vertex_of e (first_unvisited G (assign G later) e)

  module _ {e : ℕ} {later : List ℕ} (w : Leads G e later) where
    -- there is one
    new_first : (first_unvisited G (assign G later) e < arity) × (not ((assign G later).visited (new_vertex e later)) ≡ true)
    unfolding first_unvisited
    new_first =
        let unvisited = never_true ((assign G later).visited (vertex_of e w.place)) (λ t. let v = visited_names later _ t in clash v.2 (w.free v.0 v.1)) in
        lowest_some arity (λ j. not ((assign G later).visited (vertex_of e j))) w.place w.is_place (ap not unvisited)

    pub new_place : first_unvisited G (assign G later) e < arity
    new_place = new_first.0

    pub new_unvisited : (assign G later).visited (new_vertex e later) ≡ false
    new_unvisited = not-true _ new_first.1

    pub new_value : (assign G (e ∷ later)).value (new_vertex e later) ≡ minus_mod arity (first_unvisited G (assign G later) e) (visited_sum G (assign G later) e)
    unfolding assign assign_edge
    new_value = rw (eq-eqb (new_vertex e later) (new_vertex e later) refl)

    -- it is assigned
    pub new_less : (assign G (e ∷ later)).value (new_vertex e later) < arity
    unfolding minus_mod
    new_less = rw new_value (mod-lt _ (omega (arith, new_place)))

    -- every other vertex keeps its value, so every visited one does
    pub other-value : (x : ℕ) → x ≢ new_vertex e later → (assign G (e ∷ later)).value x ≡ (assign G later).value x
    unfolding assign assign_edge
    other-value x d = rw (ne_eqb x (new_vertex e later) d)

    pub visited_value : (x : ℕ) → (assign G later).visited x ≡ true → (assign G (e ∷ later)).value x ≡ (assign G later).value x
    visited_value x t = other-value x (λ i. clash t (ap (assign G later).visited i ∙ new_unvisited))

  -- ---- the values after an ordered list

  -- an unvisited vertex has the value that means unassigned
  pub unvisited_unassigned : {l : List ℕ} → Ordered G l → (x : ℕ) → (assign G l).visited x ≡ false → (assign G l).value x ≡ arity
  unfolding assign fresh assign_edge
  unvisited_unassigned none x t = refl
  unvisited_unassigned (more {e} {later} w o) x t =
      let d : x ≢ new_vertex e later = λ i. clash (or_second ((assign G later).visited x) _ (names_at G e _ x (new_place w) (sym i))) t in
      other-value w x d ∙ unvisited_unassigned o x (or_neither _ (names G e x) t)

  -- no value is above that one
  pub value_most : {l : List ℕ} → Ordered G l → (x : ℕ) → (assign G l).value x ≤ arity
  unfolding assign fresh
  value_most none x = omega arith
  value_most (more {e} {later} w o) x =
      ⊎_elim
      (λ (i : x ≡ new_vertex e later). rw i (omega (arith, new_less w)))
      (λ (d : x ≢ new_vertex e later). rw (other-value w x d) (value_most o x))
      (eq? x (new_vertex e later))

  -- so it is after the removal list, and on the way there, when its first k edges are still to come

  pub drop-unassigned : (k x : ℕ) → (assign G (drop k (removal_list G))).visited x ≡ false → (assign G (drop k (removal_list G))).value x ≡ arity
  drop-unassigned k = unvisited_unassigned (ordered_drop G k (removal_ordered G))

  pub drop_most : (k x : ℕ) → (assign G (drop k (removal_list G))).value x ≤ arity
  drop_most k = value_most (ordered_drop G k (removal_ordered G))

  pub values_most : (x : ℕ) → values G x ≤ arity
  unfolding values
  values_most = value_most (removal_ordered G)

  -- the sum over all vertices of an edge is, mod r, the sum over the visited ones: the others have the value r
  pub sum_visited : (k e j : ℕ) → minus_mod arity j (sum arity (λ i. (assign G (drop k (removal_list G))).value (vertex_of e i))) ≡ minus_mod arity j (visited_sum G (assign G (drop k (removal_list G))) e)
  unfolding minus_mod visited_sum
  sum_visited k e j = rw (sum-mod arity arity _ _ (λ i l. go i ((assign G (drop k (removal_list G))).visited (vertex_of e i)) refl))
    where
      go : (i : ℕ) (b : Bool) → (assign G (drop k (removal_list G))).visited (vertex_of e i) ≡ b → (assign G (drop k (removal_list G))).value (vertex_of e i) % arity ≡ cond b ((assign G (drop k (removal_list G))).value (vertex_of e i)) 0 % arity
      go i true t = refl
      go i false t = rw (drop-unassigned k (vertex_of e i) t, mod_self, zero-mod)

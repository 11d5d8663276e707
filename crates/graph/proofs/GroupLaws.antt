-- What is left over is the largest group; where nothing is left over there is none. Assumes nothing.
use Rattle.std.specs.Prelude.{◌≡◌, ◌≢◌, ◌↔◌, Bool, ◌||◌, List, ◌∷◌, ℕ, ◌≤◌, ◌<◌, eqb}
use Rattle.std.proofs.Math.Path.{refl}
use Rattle.std.proofs.Common.{sym, ap, arith, eqb-true, eq-eqb}
use Rattle.std.proofs.Math.Logic.{⊎_elim}
use Rattle.std.proofs.Math.Bool.{true}
use Rattle.counting.proofs.TestLaws.{eq?, lt?, or_either, or_second}
use Rattle.counting.proofs.CountLaws.{bit_self, bit-other, count_mono, count_has}
use Rattle.counting.specs.Lists.{occurrences}
use Rattle.counting.proofs.OccurrenceLaws.{occurrences_back}
use Rattle.graph.specs.Graph.{Graph, names, degree_in, size}
use Rattle.graph.specs.Peeling.{unremoved, left_over, number_left}
use Rattle.graph.specs.Group.{Group}
use Rattle.graph.specs.Run.{Reached, start, step}
use Rattle.graph.proofs.DegreeLaws.{unremoved_absent, absent_unremoved, names_at, degree_mono, degree_has, degree-one}
use Rattle.graph.specs.Moment.{Sound}
use Rattle.graph.proofs.PeelingLaws.{reached_peeled, removal_reached, removal_peeled}

module _ (G : Graph) where
  open G use {edges, arity, vertex_of}

  -- ---- what is left over is a group

  -- an edge left over has no vertex of degree 1, or it would be waiting
  pub left_group : 1 ≤ number_left G → Group G (left_over G)
  unfolding number_left left_over occurrences
  left_group h = record { not_empty = omega arith; named_twice = λ e j l m t. omega (arith, twice e j l m t) }
    where
      twice : (e j : ℕ) → e < edges → j < arity → left_over G e ≡ true → 2 ≤ degree_in G (left_over G) (vertex_of e j)
      twice e j l m t =
          ⊎_elim
          (λ (i : degree_in G (left_over G) (vertex_of e j) ≡ 1). absurd (omega (arith, (removal_peeled G).complete e j l m (unremoved_absent _ e t) i)))
          (λ (d : degree_in G (left_over G) (vertex_of e j) ≢ 1). omega (arith, degree_has G (left_over G) (vertex_of e j) e l t (names_at G e j _ m refl)))
          (eq? (degree_in G (left_over G) (vertex_of e j)) 1)

  -- ---- and it holds every group

  module _ (S : ℕ → Bool) (g : Group G S) where
    -- while nothing of a group is removed, the front of the queue is none of it: the front has a vertex of degree 1
    front_outside : {removed : List ℕ} {front : ℕ} {waiting : List ℕ} → Sound G removed (front ∷ waiting) → ((e : ℕ) → e < edges → S e ≡ true → occurrences e removed ≡ 0) → front < edges → S front ≡ true → ⊥
    unfolding occurrences
    front_outside {removed} {front} s kept l t =
        let w = s.alone front (omega (arith, bit_self front)) in
        omega (arith, w.2, g.named_twice front w.0 l w.1 t, degree_mono G S (unremoved removed) (vertex_of front w.0) (λ e m u. absent_unremoved removed e (kept e m u)))

    -- so at no moment of the run is anything of it removed
    reached_keeps : {removed waiting : List ℕ} → Reached G removed waiting → (e : ℕ) → e < edges → S e ≡ true → occurrences e removed ≡ 0
    unfolding occurrences
    reached_keeps start e l t = refl
    reached_keeps (step {removed} {front} r) e l t =
        let d : e ≢ front = λ i. front_outside (reached_peeled G r).sound (λ f m u. reached_keeps r f m u) (rw (← i) l) (rw (← i) t) in
        omega (arith, reached_keeps r e l t, occurrences_back e front removed, bit-other e front d)

    pub group_left : (e : ℕ) → e < edges → S e ≡ true → left_over G e ≡ true
    unfolding left_over
    group_left e l t = absent_unremoved _ e (reached_keeps (removal_reached G) e l t)

    pub largest_bound : size G S ≤ number_left G
    unfolding number_left
    largest_bound = count_mono edges _ _ group_left

  -- ---- so the graph is refused exactly if there is a group, and the number left is the size of the largest

  pub largest_attained : 1 ≤ number_left G → (S : ℕ → Bool) × Group G S × (size G S ≡ number_left G)
  unfolding number_left
  largest_attained h = (left_over G, left_group h, refl)

  pub refused_exactly : (1 ≤ number_left G) ↔ ((S : ℕ → Bool) × Group G S)
  refused_exactly = (λ h. (left_over G, left_group h), λ w. omega (arith, largest_bound w.0 w.1, w.1.not_empty))

  -- ---- two edges that name the same vertices are a group

  module _ (e f : ℕ) (d : e ≢ f) (l : e < edges) (m : f < edges) (same : (j : ℕ) → j < arity → vertex_of e j ≡ vertex_of f j) where
    abbrev both : ℕ → Bool
    both x = eqb x e || eqb x f

    first_in : both e ≡ true
    first_in = ap (λ b. b || eqb e f) (eq-eqb e e refl)

    second_in : both f ≡ true
    second_in = or_second (eqb f e) _ (eq-eqb f f refl)

    -- a vertex that one of them names, both name
    both_name : (x : ℕ) → names G e x ≡ true → names G f x ≡ true → 2 ≤ degree_in G both x
    both_name x a b = ⊎_elim (λ (h : degree_in G both x < 2). absurd (d (degree-one G both x e f (omega arith) l m first_in second_in a b))) (λ (h : 2 ≤ degree_in G both x). h) (lt? (degree_in G both x) 2)

    named_twice_lem : (x j : ℕ) → x < edges → j < arity → both x ≡ true → 2 ≤ degree_in G both (vertex_of x j)
    named_twice_lem x j a b t =
        ⊎_elim
        (λ (i : eqb x e ≡ true). rw (eqb-true x e i) (both_name (vertex_of e j) (names_at G e j _ b refl) (names_at G f j _ b (sym (same j b)))))
        (λ (i : eqb x f ≡ true). rw (eqb-true x f i) (both_name (vertex_of f j) (names_at G e j _ b (same j b)) (names_at G f j _ b refl)))
        (or_either (eqb x e) (eqb x f) t)

    pub twins_left : 1 ≤ number_left G
    twins_left = refused_exactly.1 (both, record { not_empty = count_has edges both e l first_in; named_twice = named_twice_lem })

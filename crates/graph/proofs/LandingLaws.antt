-- Landing: each edge of an ordered list lands on an assigned vertex of its own, and no other vertex is assigned. Assumes nothing.
use Rattle.std.specs.Prelude.{◌≡◌, refl, ◌≢◌, ◌↔◌, Bool, true, false, not, cond, List, ◌∷◌, length}
use Rattle.std.proofs.Math.Path.{sym, ap}
use Rattle.std.proofs.Common.{◌∙◌, mod-lt, eq-eqb, ne_eqb}
use Rattle.std.proofs.Math.Logic.{⊎_elim}
use Prim.Native.Nat.{ℕ, ◌+◌, ◌%◌, ◌≤◌, ◌<◌}
use Rattle.std.proofs.Math.Nat.{mod_self, zero-mod}
use native.Mathlib.Omega.{arith}
use Rattle.counting.proofs.TestLaws.{eq?, clash}
use Rattle.counting.specs.Below.{bit, sum}
use Rattle.counting.proofs.BelowLaws.{sum_equal, sum-zero, sum_but, sum-mod_but}
use Rattle.counting.proofs.CountLaws.{bit_self}
use Rattle.counting.specs.Lists.{occurrences}
use Rattle.counting.proofs.OccurrenceLaws.{occurrences_front}
use Rattle.graph.specs.Graph.{Graph, Proper}
use Rattle.graph.specs.Peeling.{number_left}
use Rattle.graph.specs.Assignment.{assigned, landing, assigned_below, first_unvisited, visited_sum, fresh, assign, values, landing_vertex}
use Rattle.graph.proofs.DegreeLaws.{names_at}
use Rattle.graph.proofs.PeelingLaws.{removal_edges, removal_length, removed_all}
use Rattle.graph.proofs.OrderLaws.{Leads, Ordered, none, more, removal_ordered}
use Rattle.graph.proofs.AssignmentLaws.{minus_mod-sum, new_vertex, names_visited, new_place, new_unvisited, new_value, new_less, other-value, visited_value, unvisited_unassigned}

pub less_assigned : (r value : ℕ) → value < r → assigned r value ≡ true
less_assigned r value l = ap not (ne_eqb value r (omega arith))

pub unassigned-not : (r : ℕ) → assigned r r ≡ false
unassigned-not r = ap not (eq-eqb r r refl)

-- where edge f lands after the edges of the list l
abbrev pub landing_after : (G : Graph) → List ℕ → ℕ → ℕ
landing_after G l f = landing G.arity (assign G l).value (G.vertex_of f)

module _ (G : Graph) where
  open G use {edges, arity, vertices, vertex_of}

  -- ---- one edge more, before the later ones

  module _ {e : ℕ} {later : List ℕ} (w : Leads G e later) where
    -- the later edges land on visited vertices
    landing_visited : (f : ℕ) → 1 ≤ occurrences f later → (assign G later).visited (landing_after G later f) ≡ true
    unfolding landing
    landing_visited f m = names_visited G later f _ m (names_at G f _ _ (mod-lt _ (omega (arith, w.is_place))) refl)

    -- with one edge more they land where they did
    pub landing_later : (f : ℕ) → 1 ≤ occurrences f later → landing_after G (e ∷ later) f ≡ landing_after G later f
    unfolding landing
    landing_later f m = ap (λ k. vertex_of f (k % arity)) (sum_equal arity _ _ (λ j k. visited_value G w (vertex_of f j) (names_visited G later f _ m (names_at G f j _ k refl))))

    -- so not on the vertex that gets its value with that edge
    pub landing_apart : (f : ℕ) → 1 ≤ occurrences f later → landing_after G (e ∷ later) f ≢ new_vertex G e later
    landing_apart f m i = clash (landing_visited f m) (ap (assign G later).visited (sym (landing_later f m) ∙ i) ∙ new_unvisited G w)

    -- there lands the edge itself: the values of its other vertices count as before, mod the arity, and its own makes up the rest
    pub landing_new : Proper G → Ordered G later → landing_after G (e ∷ later) e ≡ new_vertex G e later
    unfolding landing visited_sum
    landing_new ok o = ap (vertex_of e) (sum-mod_but arity arity given known j0 (new_place G w) (rw (new_unvisited G w)) agree ∙ ap (λ v. (sum arity known + v) % arity) (new_value G w) ∙ minus_mod-sum arity j0 (sum arity known) (new_place G w))
      where
        j0 : ℕ
        j0 = first_unvisited G (assign G later) e

        given : ℕ → ℕ
        given j = (assign G (e ∷ later)).value (vertex_of e j)

        known : ℕ → ℕ
        known j = cond ((assign G later).visited (vertex_of e j)) ((assign G later).value (vertex_of e j)) 0

        agree : (j : ℕ) → j < arity → j ≢ j0 → given j % arity ≡ known j % arity
        agree j k d = rw (other-value G w (vertex_of e j) (λ i. d (ok.apart e j j0 w.is_edge k (new_place G w) i))) (old ((assign G later).visited (vertex_of e j)) refl)
          where
            old : (b : Bool) → (assign G later).visited (vertex_of e j) ≡ b → (assign G later).value (vertex_of e j) % arity ≡ cond b ((assign G later).value (vertex_of e j)) 0 % arity
            old true t = refl
            old false t = rw (unvisited_unassigned G o (vertex_of e j) t, mod_self, zero-mod)

  -- ---- all edges of an ordered list

  module _ (ok : Proper G) where
    -- each lands on an assigned vertex
    list_assigned : {l : List ℕ} → Ordered G l → (f : ℕ) → 1 ≤ occurrences f l → assigned arity ((assign G l).value (landing_after G l f)) ≡ true
    unfolding occurrences
    list_assigned none f m = absurd (omega arith)
    list_assigned (more {e} {later} w o) f m =
        ⊎_elim
        (λ (i : f ≡ e). rw (i, landing_new w ok o) (less_assigned arity _ (new_less G w)))
        (λ (m : 1 ≤ occurrences f later). rw (landing_later w f m, visited_value G w _ (landing_visited w f m)) (list_assigned o f m))
        (occurrences_front f e later m)

    -- no two on the same
    list_own : {l : List ℕ} → Ordered G l → (f g : ℕ) → 1 ≤ occurrences f l → 1 ≤ occurrences g l → landing_after G l f ≡ landing_after G l g → f ≡ g
    unfolding occurrences
    list_own none f g m n i = absurd (omega arith)
    list_own (more {e} {later} w o) f g m n i =
        ⊎_elim
        (λ (a : f ≡ e). ⊎_elim (λ (b : g ≡ e). a ∙ sym b) (λ (b : 1 ≤ occurrences g later). absurd (landing_apart w g b (sym i ∙ ap (landing_after G (e ∷ later)) a ∙ landing_new w ok o))) (occurrences_front g e later n))
        (λ (a : 1 ≤ occurrences f later).
        ⊎_elim
        (λ (b : g ≡ e). absurd (landing_apart w f a (i ∙ ap (landing_after G (e ∷ later)) b ∙ landing_new w ok o)))
        (λ (b : 1 ≤ occurrences g later). list_own o f g a b (sym (landing_later w f a) ∙ i ∙ landing_later w g b))
        (occurrences_front g e later n))
        (occurrences_front f e later m)

    -- each assigned vertex is one on which an edge lands
    list_landing : {l : List ℕ} → Ordered G l → (x : ℕ) → assigned arity ((assign G l).value x) ≡ true → (f : ℕ) × (1 ≤ occurrences f l) × (landing_after G l f ≡ x)
    unfolding assign fresh occurrences
    list_landing none x t = absurd (clash t (unassigned-not arity))
    list_landing (more {e} {later} w o) x t =
        ⊎_elim
        (λ (i : x ≡ new_vertex G e later). (e, omega (arith, bit_self e), landing_new w ok o ∙ sym i))
        (λ (d : x ≢ new_vertex G e later). let v = list_landing o x (rw (other-value G w x d) at t) in (v.0, omega arith, landing_later w v.0 v.1 ∙ v.2))
        (eq? x (new_vertex G e later))

    -- as many are assigned as the list has edges
    list_number : {l : List ℕ} → Ordered G l → assigned_below arity (assign G l).value vertices ≡ length l
    unfolding assign fresh assigned_below
    list_number none = sum-zero vertices _ (λ x l. ap bit (unassigned-not arity))
    list_number (more {e} {later} w o) =
        let y = new_vertex G e later in
        let a = sum_but vertices (λ x. bit (assigned arity ((assign G (e ∷ later)).value x))) (λ x. bit (assigned arity ((assign G later).value x))) y (ok.inside e _ w.is_edge (new_place G w)) (λ x l d. rw (other-value G w x d)) in
        omega (arith, a, list_number o, ap bit (less_assigned arity _ (new_less G w)), ap bit (ap (assigned arity) (unvisited_unassigned G o y (new_unvisited G w)) ∙ unassigned-not arity))

    -- ---- the graph's landing vertices

    pub landing_inside : (e : ℕ) → e < edges → landing_vertex G e < vertices
    unfolding landing_vertex landing
    landing_inside e l = ok.inside e _ l (mod-lt _ ok.some)

    pub assigned-landing : (x : ℕ) → assigned arity (values G x) ≡ true → (e : ℕ) × (e < edges) × (landing_vertex G e ≡ x)
    unfolding landing_vertex values
    assigned-landing x t = let w = list_landing (removal_ordered G) x t in (w.0, removal_edges G w.0 w.1, w.2)

    -- where nothing is left over, all edges are on the removal list
    module _ (nothing : number_left G ≡ 0) where
      pub landing-assigned : (e : ℕ) → e < edges → assigned arity (values G (landing_vertex G e)) ≡ true
      unfolding landing_vertex values
      landing-assigned e l = list_assigned (removal_ordered G) e (removed_all G nothing e l)

      pub landing_own : (e f : ℕ) → e < edges → f < edges → landing_vertex G e ≡ landing_vertex G f → e ≡ f
      unfolding landing_vertex values
      landing_own e f l m = list_own (removal_ordered G) e f (removed_all G nothing e l) (removed_all G nothing f m)

      pub assigned-number : assigned_below arity (values G) vertices ≡ edges
      unfolding values
      assigned-number = list_number (removal_ordered G) ∙ removal_length G nothing

      pub assigned_exactly : (x : ℕ) → (assigned arity (values G x) ≡ true) ↔ ((e : ℕ) × (e < edges) × (landing_vertex G e ≡ x))
      assigned_exactly x = (assigned-landing x, λ w. rw (← w.2) (landing-assigned w.0 w.1))

-- Laws of degrees: what a set of edges, and the removal of one, does to them. Assumes nothing.
use Rattle.std.specs.Prelude.{◌≡◌, refl, ◌≢◌, Bool, true, false, ◌&&◌, List, [], ◌∷◌, ◌++◌, ℕ, ◌+◌, ◌≤◌, ◌<◌}
use Rattle.std.proofs.Math.Path.{ap}
use Rattle.std.proofs.Common.{arith}
use borrow.Author.Tests.{eqb-true, eq-eqb, ne_eqb}
use Rattle.counting.proofs.TestLaws.{and_both, and_left, and_right}
use Rattle.counting.specs.Below.{sum, bit}
use Rattle.counting.proofs.BelowLaws.{sum_equal, sum_but}
use Rattle.counting.proofs.CountLaws.{bit_self, bit-other, count_mono, count_has, count-one}
use Rattle.counting.proofs.SearchLaws.{any_has, any_some}
use Rattle.counting.specs.Lists.{occurrences}
use Rattle.counting.proofs.OccurrenceLaws.{occurrences_back}
use Rattle.graph.specs.Graph.{Graph, names, degree_in, size}
use Rattle.graph.specs.Peeling.{unremoved}

-- ---- removed or not

pub unremoved_absent : (removed : List ℕ) (e : ℕ) → unremoved removed e ≡ true → occurrences e removed ≡ 0
unfolding unremoved
unremoved_absent removed e t = eqb-true _ _ t

pub absent_unremoved : (removed : List ℕ) (e : ℕ) → occurrences e removed ≡ 0 → unremoved removed e ≡ true
unfolding unremoved
absent_unremoved removed e i = eq-eqb _ _ i

-- what is unremoved after one more removal was so before
pub unremoved-before : (removed : List ℕ) (front e : ℕ) → unremoved (removed ++ front ∷ []) e ≡ true → unremoved removed e ≡ true
unremoved-before removed front e t = absent_unremoved removed e (omega (arith, unremoved_absent (removed ++ front ∷ []) e t, occurrences_back e front removed))

-- R is S and edge e besides
pub record OneMore (S R : ℕ → Bool) (e : ℕ) : Type 0 where
  pub without : S e ≡ false
  pub within : R e ≡ true
  pub same : (f : ℕ) → f ≢ e → S f ≡ R f

-- before the removal of an edge it was one more
pub removed_one_more : (removed : List ℕ) (front : ℕ) → occurrences front removed ≡ 0 → OneMore (unremoved (removed ++ front ∷ [])) (unremoved removed) front
unfolding unremoved
removed_one_more removed front o =
    record {
      without = ne_eqb (occurrences front (removed ++ front ∷ [])) 0 (λ i. omega (arith, i, occurrences_back front front removed, bit_self front));
      within = eq-eqb _ _ o;
      same = λ e d. let z : occurrences e (removed ++ front ∷ []) ≡ occurrences e removed = omega (arith, occurrences_back e front removed, bit-other e front d) in rw z;
    }

module _ (G : Graph) where
  open G use {edges, arity, vertex_of}

  pub names_at : (e j x : ℕ) → j < arity → vertex_of e j ≡ x → names G e x ≡ true
  unfolding names
  names_at e j x l i = any_has arity _ j l (eq-eqb _ _ i)

  pub names_some : (e x : ℕ) → names G e x ≡ true → (j : ℕ) × (j < arity) × (vertex_of e j ≡ x)
  unfolding names
  names_some e x t = let w = any_some arity _ t in (w.0, w.1, eqb-true _ _ w.2)

  -- ---- the degree in a set

  pub degree_mono : (S R : ℕ → Bool) (x : ℕ) → ((e : ℕ) → e < edges → S e ≡ true → R e ≡ true) → degree_in G S x ≤ degree_in G R x
  unfolding degree_in
  degree_mono S R x h = count_mono edges _ _ (λ e l t. and_both (h e l (and_left (S e) (names G e x) t)) (and_right (S e) (names G e x) t))

  pub degree-size : (S : ℕ → Bool) (x : ℕ) → degree_in G S x ≤ size G S
  unfolding degree_in
  degree-size S x = count_mono edges _ _ (λ e l t. and_left (S e) (names G e x) t)

  pub degree_has : (S : ℕ → Bool) (x e : ℕ) → e < edges → S e ≡ true → names G e x ≡ true → 1 ≤ degree_in G S x
  unfolding degree_in
  degree_has S x e l s t = count_has edges (λ f. S f && names G f x) e l (and_both s t)

  -- two edges on a vertex of degree 1 are one
  pub degree-one : (S : ℕ → Bool) (x e f : ℕ) → degree_in G S x ≤ 1 → e < edges → f < edges → S e ≡ true → S f ≡ true → names G e x ≡ true → names G f x ≡ true → e ≡ f
  unfolding degree_in
  degree-one S x e f d l m s s' t t' = count-one edges (λ i. S i && names G i x) d e f l m (and_both s t) (and_both s' t')

  -- the degree depends on the edges alone
  pub degree_equal : (S R : ℕ → Bool) (x : ℕ) → ((e : ℕ) → e < edges → S e ≡ R e) → degree_in G S x ≡ degree_in G R x
  unfolding degree_in
  degree_equal S R x h = sum_equal edges _ _ (λ e l. ap (λ b. bit (b && names G e x)) (h e l))

  -- ---- one edge more in the set

  module _ {S R : ℕ → Bool} {e : ℕ} (more : OneMore S R e) (l : e < edges) where
    -- any weight of the edges on a vertex grows by what the edge brings
    pub weighed_more : (weight : ℕ → ℕ → ℕ) → ((f : ℕ) → weight f 0 ≡ 0) → (x : ℕ)
        → sum edges (λ f. weight f (bit (S f && names G f x))) + weight e (bit (names G e x)) ≡ sum edges (λ f. weight f (bit (R f && names G f x)))
    weighed_more weight none x =
        let a = sum_but edges (λ f. weight f (bit (S f && names G f x))) (λ f. weight f (bit (R f && names G f x))) e l (λ f m d. ap (λ b. weight f (bit (b && names G f x))) (more.same f d)) in
        omega (arith, a, ap (λ b. weight e (bit (b && names G e x))) more.without, none e, ap (λ b. weight e (bit (b && names G e x))) more.within)

    pub degree_more : (x : ℕ) → degree_in G S x + bit (names G e x) ≡ degree_in G R x
    unfolding degree_in
    degree_more = weighed_more (λ f b. b) (λ f. refl)

-- The degrees and index sums of a set of edges: what an edge more or less does to them, and that they fit. Assumes nothing.
-- D and C stand for the arrays of degrees and index sums; a prime marks what has become of one.
use Rattle.std.specs.Prelude.{◌≡◌, Bool, ◌&&◌, List, ℕ, ◌+◌, ◌*◌, ◌≤◌, ◌<◌, ltb, length, get_or}
use Rattle.std.proofs.Math.Path.{sym}
use Rattle.std.proofs.Common.{ap, ◌∙◌, ⊎_elim, arith, eqb-true, lt-ltb, le-ltb}
use Rattle.std.proofs.Math.Nat.{mul-le-mul_right, mul-le-mul_left}
use Rattle.std.proofs.Math.Dec.{eqb}
use Rattle.counting.proofs.TestLaws.{lt?, and_both}
use Rattle.counting.specs.Below.{sum, bit}
use Rattle.counting.proofs.BelowLaws.{sum_mono, sum-zero, sum_equal, sum_constant}
use Rattle.counting.proofs.CountLaws.{bit_most, bit_self, count_most, count-place}
use Rattle.counting.proofs.SearchLaws.{count-any}
use Rattle.graph.specs.Graph.{Graph, names, degree_in}
use Rattle.graph.specs.Peeling.{unremoved, degree, one_left}
use Rattle.graph.proofs.DegreeLaws.{OneMore, absent_unremoved, weighed_more, degree_more, degree_equal}
use Rattle.graph.proofs.QueueLaws.{one_left_lem}
use Rattle.counting.specs.Widths.{two_bytes}
use Rattle.removal.specs.Arrays.{vertex_at, graph_in, Held, Vertices, Wide, Untallied, index_sum, Tallied}
use Rattle.removal.specs.Linking.{four_bytes, times, Added, Room, Enough}
use Rattle.removal.proofs.LinkingSteps.{times_more, times-left}

-- the vertices of an edge can be read, and are places of an array that is wide enough
pub held_vertices : {n r m : ℕ} {edges : List ℕ} → Held n r m edges → {e : ℕ} → e < n → (w : ℕ) → m ≤ w → Vertices r e edges w
held_vertices {r = r} held {e} l w h = record { fits = omega (arith, held.long, mul-le-mul_right r l); below = λ j k. omega (arith, held.proper.inside e j l k) }

-- ---- the set of the first k edges

pub first-one_more : (k : ℕ) → OneMore (λ e. ltb e k) (λ e. ltb e (k + 1)) k
first-one_more k =
    record {
      without = le-ltb k k (omega arith);
      within = lt-ltb k (k + 1) (omega arith);
      same = λ e d. ⊎_elim (λ (l : e < k). lt-ltb e k l ∙ sym (lt-ltb e (k + 1) (omega arith))) (λ (l : k ≤ e). le-ltb e k l ∙ sym (le-ltb e (k + 1) (omega arith))) (lt? e k);
    }

-- no edge: all entries are 0
pub tallied_none : (G : Graph) {D C : List ℕ} → Untallied G.vertices D C → Tallied G (λ e. ltb e 0) D C
unfolding degree_in index_sum
tallied_none G u =
    record {
      of_degrees = λ x l. u.no_degrees x l ∙ sym (sum-zero G.edges _ (λ e m. ap (λ b. bit (b && names G e x)) (le-ltb e 0 (omega arith))));
      of_sums = λ x l. u.no_sums x l ∙ sym (sum-zero G.edges _ (λ e m. ap (λ b. bit (b && names G e x) * e) (le-ltb e 0 (omega arith)) ∙ omega arith));
    }

pub tallied_equal : {G : Graph} {S : ℕ → Bool} {D C : List ℕ} → Tallied G S D C → (R : ℕ → Bool) → ((e : ℕ) → e < G.edges → S e ≡ R e) → Tallied G R D C
unfolding index_sum
tallied_equal {G} {S} t R h =
    record {
      of_degrees = λ x l. t.of_degrees x l ∙ degree_equal G S R x h;
      of_sums = λ x l. t.of_sums x l ∙ sum_equal G.edges _ _ (λ e m. ap (λ b. bit (b && names G e x) * e) (h e m));
    }

index_more : (G : Graph) {S R : ℕ → Bool} {e : ℕ} → OneMore S R e → e < G.edges → (x : ℕ) → index_sum G S x + bit (names G e x) * e ≡ index_sum G R x
unfolding index_sum
index_more G more l = weighed_more G more l (λ f b. b * f) (λ f. omega arith)

-- ---- one edge more, one edge less

module _ {n r m : ℕ} {edges : List ℕ} (held : Held n r m edges) {S R : ℕ → Bool} {e : ℕ} (more : OneMore S R e) (l : e < n) where
  abbrev G : Graph
  G = graph_in n r m edges

  -- its vertices differ, so each counts once
  times-names : (x : ℕ) → times r e edges r x ≡ bit (names G e x)
  unfolding times names
  times-names x = count-any r (λ j. eqb (vertex_at r edges e j) x) (λ i j a b p q. held.proper.apart e i j l a b (eqb-true _ _ p ∙ sym (eqb-true _ _ q)))

  degree_is : (x : ℕ) → degree_in G S x + times r e edges r x ≡ degree_in G R x
  degree_is x = omega (arith, degree_more G more l x, times-names x)

  sum_is : (x : ℕ) → index_sum G S x + times r e edges r x * e ≡ index_sum G R x
  sum_is x = omega (arith, index_more G more l x, ap (λ t. t * e) (times-names x))

  module _ {D C D' C' : List ℕ} (a : Added r e edges r D C D' C') where
    pub tallied_more : Tallied G S D C → Tallied G R D' C'
    tallied_more t =
        record {
          of_degrees = λ x k. omega (arith, a.to_degrees x, t.of_degrees x k, degree_is x);
          of_sums = λ x k. omega (arith, a.to_sums x, t.of_sums x k, sum_is x);
        }

    pub tallied_less : Tallied G R D' C' → Tallied G S D C
    tallied_less t =
        record {
          of_degrees = λ x k. omega (arith, a.to_degrees x, t.of_degrees x k, degree_is x);
          of_sums = λ x k. omega (arith, a.to_sums x, t.of_sums x k, sum_is x);
        }

  -- once the first k vertices and one more are off, that one has the degree and the sum that it has without the edge

  module _ {D C D' C' : List ℕ} (k : ℕ) (h : k < r) (a : Added r e edges (k + 1) D' C' D C) (t : Tallied G R D C) where
    abbrev x : ℕ
    x = vertex_at r edges e k

    times_all : times r e edges (k + 1) x ≡ times r e edges r x
    times_all = omega (arith, times_more r e edges k x, bit_self x, times-left r e edges k h, times-names x, bit_most (names G e x))

    pub left-degree : get_or D' x 0 ≡ degree_in G S x
    left-degree = omega (arith, a.to_degrees x, t.of_degrees x (held.proper.inside e k l h), degree_is x, times_all)

    pub left-sum : get_or C' x 0 ≡ index_sum G S x
    left-sum = omega (arith, a.to_sums x, t.of_sums x (held.proper.inside e k l h), sum_is x, ap (λ i. i * e) times_all)

  -- ---- they fit

  module _ {D C : List ℕ} (wide : Wide m D C) where
    pub tallied_room : Tallied G S D C → Room r e edges D C
    unfolding degree_in index_sum
    tallied_room t =
        record {
          edge = omega (arith, held.few_edges);
          in_degrees = held_vertices held l (length D) (omega (arith, wide.for_degrees));
          in_sums = held_vertices held l (length C) (omega (arith, wide.for_sums));
          degree_fits = λ j k. let x = vertex_at r edges e j in omega (arith, t.of_degrees x (held.proper.inside e j l k), degree_is x, count_most n (λ f. R f && names G f x), held.few_edges);
          sum_fits = λ j k. let x = vertex_at r edges e j in omega (arith, t.of_sums x (held.proper.inside e j l k), sum_is x, sum_fits_lem x);
        }
      where
        sum_fits_lem : (x : ℕ) → index_sum G R x < four_bytes
        sum_fits_lem x =
            let a : sum n (λ f. bit (R f && names G f x) * f) ≤ sum n (λ f. n) = sum_mono n _ _ (λ f k. omega (arith, mul-le-mul_right f (bit_most (R f && names G f x)))) in
            let b : n + 1 ≤ two_bytes = omega (arith, held.few_edges) in
            omega (arith, a, sum_constant n n, mul-le-mul_left n b, b)

    pub tallied_enough : Tallied G R D C → Enough r e edges D C
    tallied_enough t =
        record {
          edge = omega (arith, held.few_edges);
          in_degrees = held_vertices held l (length D) (omega (arith, wide.for_degrees));
          in_sums = held_vertices held l (length C) (omega (arith, wide.for_sums));
          degree_left = λ j k. let x = vertex_at r edges e j in omega (arith, t.of_degrees x (held.proper.inside e j l k), degree_is x);
          sum_left = λ j k. let x = vertex_at r edges e j in omega (arith, t.of_sums x (held.proper.inside e j l k), sum_is x);
        }

-- ---- at degree 1 the index sum is the one edge left

pub index_one-left : (G : Graph) (removed : List ℕ) (x : ℕ) → degree G removed x ≡ 1 → index_sum G (unremoved removed) x ≡ one_left G removed x
unfolding index_sum degree_in
index_one-left G removed x d =
    let o = one_left_lem G removed x d in
    count-place G.edges (λ e. unremoved removed e && names G e x) (one_left G removed x) o.is_edge (and_both (absent_unremoved removed _ o.absent) o.named) (omega (arith, d))

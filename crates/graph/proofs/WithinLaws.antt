-- What is left over depends on the set of the edges alone: fewer edges leave fewer, and the same edges, numbered otherwise, leave the same. Assumes nothing.
use Rattle.std.specs.Prelude.{◌≡◌, ◌&&◌}
use Rattle.std.proofs.Math.Path.{refl, sym, ap}
use Rattle.std.proofs.Common.{◌∙◌, arith, eqb-true, eq-eqb, ne_eqb}
use Rattle.std.proofs.Math.Bool.{Bool, true, false, not}
use Prim.Native.Nat.{ℕ, ◌≤◌, ◌<◌}
use Rattle.std.proofs.Math.Dec.{eqb}
use Rattle.counting.proofs.TestLaws.{clash, never_true, and_both, and_left, and_right}
use Rattle.counting.specs.Below.{count, any}
use Rattle.counting.proofs.CountLaws.{count_has, count_without, count_into}
use Rattle.counting.proofs.SearchLaws.{any_has, any_some}
use Rattle.graph.specs.Graph.{Graph, names, degree_in}
use Rattle.graph.specs.Peeling.{left_over, number_left}
use Rattle.graph.specs.Group.{Group}
use Rattle.graph.specs.Within.{Within}
use Rattle.graph.proofs.DegreeLaws.{names_at, names_some}
use Rattle.graph.proofs.GroupLaws.{left_group, group_left}

-- what a set of edges of G becomes in H
image : (G : Graph) (to : ℕ → ℕ) → (ℕ → Bool) → ℕ → Bool
image G to S f = any G.edges (λ e. S e && eqb (to e) f)

module _ {G H : Graph} {to : ℕ → ℕ} (w : Within G H to) where
  -- what passes a test in G, and then another in H, is no more than passes that
  within_count : (p q : ℕ → Bool) → ((e : ℕ) → e < G.edges → p e ≡ true → q (to e) ≡ true) → count G.edges p ≤ count H.edges q
  within_count p q h = count_into G.edges H.edges p q to (λ e l t. (w.inside e l, h e l t)) (λ e f l m s t. w.apart e f l m)

  within_names : (e x : ℕ) → e < G.edges → names G e x ≡ true → names H (to e) x ≡ true
  within_names e x l t = let v = names_some G e x t in names_at H (to e) v.0 x (omega (arith, w.same_arity, v.1)) (sym (w.same_vertices e v.0 l v.1) ∙ v.2)

  -- ---- what a group of G becomes is a group of H

  module _ (S : ℕ → Bool) where
    image_has : (e : ℕ) → e < G.edges → S e ≡ true → image G to S (to e) ≡ true
    unfolding image
    image_has e l t = any_has G.edges (λ f. S f && eqb (to f) (to e)) e l (and_both t (eq-eqb (to e) (to e) refl))

    image_degree : (x : ℕ) → degree_in G S x ≤ degree_in H (image G to S) x
    unfolding degree_in
    image_degree x = within_count (λ e. S e && names G e x) (λ f. image G to S f && names H f x) (λ e l t. and_both (image_has e l (and_left (S e) (names G e x) t)) (within_names e x l (and_right (S e) (names G e x) t)))

    image_group : Group G S → Group H (image G to S)
    unfolding image
    image_group g = record { not_empty = omega (arith, g.not_empty, within_count S (image G to S) image_has); named_twice = twice }
      where
        twice : (f j : ℕ) → f < H.edges → j < H.arity → image G to S f ≡ true → 2 ≤ degree_in H (image G to S) (H.vertex_of f j)
        twice f j l m t =
            let v = any_some G.edges (λ e. S e && eqb (to e) f) t in
            let e = v.0 in
            let k : j < G.arity = omega (arith, w.same_arity) in
            let same : G.vertex_of e j ≡ H.vertex_of f j = w.same_vertices e j v.1 k ∙ ap (λ i. H.vertex_of i j) (eqb-true _ _ (and_right (S e) (eqb (to e) f) v.2)) in
            rw (← same) (omega (arith, g.named_twice e j v.1 k (and_left (S e) (eqb (to e) f) v.2), image_degree (G.vertex_of e j)))

  -- ---- what is left over

  pub within_left : (e : ℕ) → e < G.edges → left_over G e ≡ true → left_over H (to e) ≡ true
  unfolding number_left
  within_left e l t = group_left H (image G to (left_over G)) (image_group (left_over G) (left_group G (count_has G.edges (left_over G) e l t))) (to e) (w.inside e l) (image_has (left_over G) e l t)

  pub within_number : number_left G ≤ number_left H
  unfolding number_left
  within_number = within_count (left_over G) (left_over H) within_left

  pub within_none : number_left H ≡ 0 → number_left G ≡ 0
  within_none z = omega (arith, within_number)

-- ---- the same edges, numbered otherwise

module _ {G H : Graph} {to from : ℕ → ℕ} (w : Within G H to) (v : Within H G from) where
  pub same_number : number_left G ≡ number_left H
  same_number = omega (arith, within_number w, within_number v)

  -- `to` takes what is left of G to different edges left of H, and these are no more: so each of them is reached
  pub same_left : (e : ℕ) → e < G.edges → left_over G e ≡ left_over H (to e)
  unfolding number_left
  same_left e l = go (left_over G e) refl
    where
      go : (b : Bool) → left_over G e ≡ b → b ≡ left_over H (to e)
      go true t = sym (within_left w e l t)
      go false t = sym (never_true (left_over H (to e)) (λ u. omega (arith, within_count w (left_over G) others avoids, count_without H.edges (left_over H) (to e) (w.inside e l) u, same_number)))
        where
          others : ℕ → Bool
          others f = left_over H f && not (eqb f (to e))

          avoids : (i : ℕ) → i < G.edges → left_over G i ≡ true → others (to i) ≡ true
          avoids i m u = and_both (within_left w i m u) (ap not (ne_eqb (to i) (to e) (λ c. clash u (ap (left_over G) (w.apart i e m l c) ∙ t))))

-- How an edge that joins the queue keeps what holds at each moment of the peeling. Assumes nothing.
use Rattle.std.specs.Prelude.{◌≡◌, ◌⊎◌, ◌≢◌, Bool, ◌&&◌, cond, length}
use Rattle.std.proofs.Math.Path.{refl, sym, ap}
use Rattle.std.proofs.Common.{◌∙◌, inl, inr, length-append}
use Rattle.std.proofs.Math.Logic.{⊎_elim}
use Rattle.std.proofs.Math.Bool.{true, false}
use mathlib.Core.List.{List, [], ◌∷◌, ◌++◌, append_assoc, append-nil}
use Prim.Native.Nat.{ℕ, zero, suc, ◌+◌, ◌≤◌, ◌<◌}
use native.Mathlib.Omega.{arith}
use Rattle.std.proofs.Math.Dec.{eqb}
use borrow.Author.Tests.{eqb-true, eqb-false, eq-eqb}
use Rattle.counting.proofs.TestLaws.{eq?, and_both, and_left, and_right}
use Rattle.counting.specs.Below.{bit}
use Rattle.counting.proofs.CountLaws.{bit_self, bit-other, count_some}
use Rattle.counting.proofs.SearchLaws.{lowest_some, lowest-one}
use Rattle.counting.specs.Lists.{occurrences}
use Rattle.counting.proofs.OccurrenceLaws.{occurrences-append, occurrences_back, occurrences_most}
use Rattle.graph.specs.Graph.{Graph, names, degree_in}
use Rattle.graph.specs.Peeling.{unremoved, join_back, degree, one_left, follow, follow_all}
use Rattle.graph.specs.Moment.{Single, Sound}
use Rattle.graph.proofs.DegreeLaws.{unremoved_absent, absent_unremoved, names_some}

-- ---- joining the back

-- the occurrences stay, but for an edge that was absent and now stands there once
pub join_cases : (e : ℕ) (waiting : List ℕ) (f : ℕ) → (occurrences f (join_back e waiting) ≡ occurrences f waiting) ⊎ ((f ≡ e) × (occurrences f waiting ≡ 0) × (occurrences f (join_back e waiting) ≡ 1))
unfolding join_back
join_cases e waiting f = go (eqb (occurrences e waiting) 0) refl
  where
    go : (b : Bool) → eqb (occurrences e waiting) 0 ≡ b → (occurrences f (cond b (waiting ++ e ∷ []) waiting) ≡ occurrences f waiting) ⊎ ((f ≡ e) × (occurrences f waiting ≡ 0) × (occurrences f (cond b (waiting ++ e ∷ []) waiting) ≡ 1))
    go true t =
        ⊎_elim
        (λ (i : f ≡ e). let z : occurrences f waiting ≡ 0 = rw i (eqb-true _ _ t) in inr (i, z, omega (arith, occurrences_back f e waiting, ap bit (eq-eqb f e i))))
        (λ (d : f ≢ e). inl (omega (arith, occurrences_back f e waiting, bit-other f e d)))
        (eq? f e)
    go false t = inl refl

pub join_in : (e : ℕ) (waiting : List ℕ) → 1 ≤ occurrences e (join_back e waiting)
unfolding join_back
join_in e waiting = go (eqb (occurrences e waiting) 0) refl
  where
    go : (b : Bool) → eqb (occurrences e waiting) 0 ≡ b → 1 ≤ occurrences e (cond b (waiting ++ e ∷ []) waiting)
    go true t = omega (arith, occurrences_back e e waiting, bit_self e)
    go false t = let d : occurrences e waiting ≢ 0 = eqb-false _ _ t in omega arith

-- those that waited before stand in front, in their order
join_back_lem : (e : ℕ) (waiting : List ℕ) → (new : List ℕ) × (join_back e waiting ≡ waiting ++ new)
unfolding join_back
join_back_lem e waiting = go (eqb (occurrences e waiting) 0)
  where
    go : (b : Bool) → (new : List ℕ) × (cond b (waiting ++ e ∷ []) waiting ≡ waiting ++ new)
    go true = (e ∷ [], refl)
    go false = ([], sym (append-nil waiting))

module _ (G : Graph) where
  open G use {edges, arity, vertex_of}

  pub one_left_lem : (removed : List ℕ) (x : ℕ) → degree G removed x ≡ 1 → Single G removed x (one_left G removed x)
  unfolding one_left degree_in
  one_left_lem removed x d =
      let e = one_left G removed x in
      let w = count_some edges (λ f. unremoved removed f && names G f x) (omega (arith, d)) in
      let s = lowest_some edges (λ f. unremoved removed f && names G f x) w.0 w.1 w.2 in
      record {
        is_edge = s.0;
        absent = unremoved_absent removed _ (and_left (unremoved removed e) (names G e x) s.1);
        named = and_right (unremoved removed e) (names G e x) s.1;
      }

  -- and no other edge is
  pub one-left_only : (removed : List ℕ) (x : ℕ) → degree G removed x ≡ 1 → (e : ℕ) → Single G removed x e → one_left G removed x ≡ e
  unfolding one_left degree_in
  one-left_only removed x d e s = lowest-one edges (λ f. unremoved removed f && names G f x) (omega (arith, d)) e s.is_edge (and_both (absent_unremoved removed e s.absent) s.named)

  -- removed and waiting together are at most as many as there are edges
  pub sound_room : (removed waiting : List ℕ) → Sound G removed waiting → length removed + length waiting ≤ edges
  sound_room removed waiting s =
      let most = occurrences_most edges (removed ++ waiting) (λ e m. s.is_edge e (omega (arith, occurrences-append e removed waiting))) (λ e. omega (arith, occurrences-append e removed waiting, s.once e)) in
      omega (arith, most, length-append removed waiting)

  -- ---- an edge joins

  join_sound : (removed : List ℕ) (e : ℕ) (waiting : List ℕ) → Sound G removed waiting → e < edges → occurrences e removed ≡ 0 → (j : ℕ) × (j < arity) × (degree G removed (vertex_of e j) ≤ 1) → Sound G removed (join_back e waiting)
  join_sound removed e waiting s l o w =
      record {
        once = λ f. ⊎_elim (λ h. omega (arith, s.once f, h)) (λ h. omega (arith, ap (λ i. occurrences i removed) h.0, h.2)) (join_cases e waiting f);
        is_edge = λ f m. ⊎_elim (λ h. s.is_edge f (omega (arith, h))) (λ h. omega (arith, h.0)) (join_cases e waiting f);
        alone = λ f m. ⊎_elim (λ h. s.alone f (omega (arith, h))) (λ h. rw h.0 w) (join_cases e waiting f);
      }

  follow_sound : (removed : List ℕ) (x : ℕ) (waiting : List ℕ) → Sound G removed waiting → Sound G removed (follow G removed x waiting)
  unfolding follow
  follow_sound removed x waiting s = go (eqb (degree G removed x) 1) refl
    where
      go : (b : Bool) → eqb (degree G removed x) 1 ≡ b → Sound G removed (cond b (join_back (one_left G removed x) waiting) waiting)
      go true t =
          let d : degree G removed x ≡ 1 = eqb-true _ _ t in
          let o = one_left_lem removed x d in
          let w = names_some G (one_left G removed x) x o.named in
          join_sound removed (one_left G removed x) waiting s o.is_edge o.absent (w.0, w.1, rw w.2 (omega (arith, d)))
      go false t = s

  follow_grows : (removed : List ℕ) (x : ℕ) (waiting : List ℕ) (e : ℕ) → occurrences e waiting ≤ occurrences e (follow G removed x waiting)
  unfolding follow
  follow_grows removed x waiting e = go (eqb (degree G removed x) 1)
    where
      go : (b : Bool) → occurrences e waiting ≤ occurrences e (cond b (join_back (one_left G removed x) waiting) waiting)
      go true = ⊎_elim (λ h. omega (arith, h)) (λ h. omega (arith, h.1)) (join_cases (one_left G removed x) waiting e)
      go false = omega arith

  follow_in : (removed : List ℕ) (x : ℕ) (waiting : List ℕ) (e : ℕ) → degree G removed x ≡ 1 → Single G removed x e → 1 ≤ occurrences e (follow G removed x waiting)
  unfolding follow
  follow_in removed x waiting e d s = rw (eq-eqb _ _ d, one-left_only removed x d e s) (join_in e waiting)

  -- ---- so for the vertices of an edge

  pub follow_all_sound : (removed : List ℕ) (e k : ℕ) (waiting : List ℕ) → Sound G removed waiting → Sound G removed (follow_all G removed e k waiting)
  unfolding follow_all
  follow_all_sound removed e zero waiting s = s
  follow_all_sound removed e (suc k) waiting s = follow_sound removed (vertex_of e k) _ (follow_all_sound removed e k waiting s)

  pub follow_all_grows : (removed : List ℕ) (e k : ℕ) (waiting : List ℕ) (f : ℕ) → occurrences f waiting ≤ occurrences f (follow_all G removed e k waiting)
  unfolding follow_all
  follow_all_grows removed e zero waiting f = omega arith
  follow_all_grows removed e (suc k) waiting f = omega (arith, follow_all_grows removed e k waiting f, follow_grows removed (vertex_of e k) (follow_all G removed e k waiting) f)

  pub follow_all_in : (removed : List ℕ) (e k : ℕ) (waiting : List ℕ) (j f : ℕ) → j < k → degree G removed (vertex_of e j) ≡ 1 → Single G removed (vertex_of e j) f → 1 ≤ occurrences f (follow_all G removed e k waiting)
  unfolding follow_all
  follow_all_in removed e zero waiting j f l d s = absurd (omega arith)
  follow_all_in removed e (suc k) waiting j f l d s =
      ⊎_elim
      (λ (i : j ≡ k). follow_in removed (vertex_of e k) _ f (rw (← i) d) (rw (← i) s))
      (λ (ne : j ≢ k). omega (arith, follow_all_in removed e k waiting j f (omega arith) d s, follow_grows removed (vertex_of e k) (follow_all G removed e k waiting) f))
      (eq? j k)

  -- those that waited before stand in front, in their order

  follow_back : (removed : List ℕ) (x : ℕ) (waiting : List ℕ) → (new : List ℕ) × (follow G removed x waiting ≡ waiting ++ new)
  unfolding follow
  follow_back removed x waiting = go (eqb (degree G removed x) 1)
    where
      go : (b : Bool) → (new : List ℕ) × (cond b (join_back (one_left G removed x) waiting) waiting ≡ waiting ++ new)
      go true = join_back_lem (one_left G removed x) waiting
      go false = ([], sym (append-nil waiting))

  pub follow_all_back : (removed : List ℕ) (e k : ℕ) (waiting : List ℕ) → (new : List ℕ) × (follow_all G removed e k waiting ≡ waiting ++ new)
  unfolding follow_all
  follow_all_back removed e zero waiting = ([], sym (append-nil waiting))
  follow_all_back removed e (suc k) waiting =
      let w = follow_all_back removed e k waiting in
      let w' = follow_back removed (vertex_of e k) (follow_all G removed e k waiting) in
      (w.0 ++ w'.0, w'.1 ∙ ap (λ l. l ++ w'.0) w.1 ∙ append_assoc waiting w.0 w'.0)
